-- Statements but for loops with heads and function declarations (ECMA-262 5.1, section 12).
use Rattle.std.specs.Prelude.{ℕ, true, false, not, ◌&&◌, List, [], ◌∷◌, ◌++◌, Option, Some, None}
use Rattle.grammar.specs.Grammar.{done, or, again}
use Rattle.grammar.specs.Words.{◌>>=◌, ◌>>◌, one, next, barred}
use Rattle.js_tree.specs.declared.code.FnCode.{FnCode}
use Rattle.js_tree.specs.declared.expr.Expr.{Expr}
use Rattle.js_tree.specs.declared.stmt.Stmt.{Stmt}
use Rattle.js_tree.specs.declared.stmt.Handler.{Handler}
use Rattle.js_nodes.specs.declared.context.Context.{Context}
use Rattle.js_nodes.specs.declared.context.Inside.{Inside}
use Rattle.js_nodes.specs.declared.depth.Depth.{Depth}
use Rattle.js_nodes.specs.declared.operand.Operand.{Operand}
use Rattle.js_nodes.specs.declared.series.State.{State}
use Rattle.js_nodes.specs.declared.series.Said.{Said}
use Rattle.js_nodes.specs.declared.series.Series.{Series}
use Rattle.js_nodes.specs.declared.series.Decls.{Decls}
use Rattle.js_nodes.specs.declared.series.Cases.{Cases}
use Rattle.js_nodes.specs.Next.{Next, place, shows, says, is_on_new_line}
use Rattle.js_cursor.specs.Words.{R, deeper, sign, word, name}
use Rattle.js_nodes.specs.Operands.{nothing, both, context, ends}
use Rattle.js_parser.specs.Levels.{Level}
use Rattle.js_nodes.specs.Pieces.{state, said, series, decls, cases, once, declared, braces, before_else, turning, doing, choosing}
use Rattle.js_cursor.specs.Questions.{in_block, thrown_left_out, in_case, is_case, label_flaw}
use Rattle.js_cursor.specs.Rules.{semi, ended}
use Rattle.js_lexer.specs.declared.token.Punct.TheVariants as p
use Rattle.js_lexer.specs.declared.token.Word.TheVariants as w
use Rattle.js_tree.specs.declared.stmt.Stmt.TheVariants as s
use Rattle.js_nodes.specs.declared.context.Closer.TheVariants as c

-- ---- blocks

unfoldable pub series_more : Inside → Level → Series → R Series
series_more inside below y = do
  x ← below.statement inside y.state
  done (series (y.stmts ++ x.stmt ∷ []) x.state (both y.depth x.depth))

-- StatementList, before the `}` of a block (12.1)
unfoldable pub statements : Inside → Level → State → R Series
statements inside below added = again (λ _ t. in_block t) (series_more inside below) (series [] added nothing)

-- Block, behind its `{`
unfoldable pub block : Inside → Level → State → R Series
block inside below added = do
  y ← statements (braces inside) below added
  sign p.RightBrace
  done y

unfoldable pub braced : Inside → Level → State → R Series
braced inside below added = sign p.LeftBrace >> block inside below added

unfoldable pub block_statement : Level → Inside → State → Next → R Said
block_statement below inside added t = do
  y ← block inside below added
  done (said (s.Block y.stmts) y.state (place t) y.depth)

-- ---- `var` (12.2)

abbrev pub decls_more : Decls → List ℕ → Option Expr → State → Depth → Decls
decls_more d n value added depth = decls (d.decls ++ record { name = n; value = value } ∷ []) added (both d.depth depth)

-- VariableDeclaration, behind its name; for the value of an Initialiser a level must be left
unfoldable pub initial : ℕ → Level → Context → List ℕ → Decls → R Decls
initial room below x n d = or
    (do
      deeper room (shows p.Assign)
      y ← below.assign x d.state.codes
      done (decls_more d n (Some y.value) (state y.codes (once d.state.vars n)) y.depth))
    (do
      next (λ t. not (shows p.Assign t))
      done (decls_more d n None (declared d.state n) nothing))

unfoldable pub decl_more : ℕ → Level → Context → Decls → R Decls
decl_more room below x d = do
  sign p.Comma
  n ← name
  initial room below x n d

-- VariableDeclarationList of a statement that begins here, behind the first name
unfoldable pub variables : ℕ → Level → Context → ℕ → List ℕ → State → R Said
variables room below x at n added = do
  d ← initial room below x n (decls [] added nothing)
  d ← again (λ _ t. shows p.Comma t) (decl_more room below x) d
  done (said (s.Var d.decls) d.state at d.depth)

unfoldable pub var_statement : ℕ → Level → Inside → State → Next → R Said
var_statement room below inside added t = do
  n ← name
  v ← variables room below (context (c.Statement inside.after)) (place t) n added
  semi
  done v

-- ---- `if`, `do` and `while` (12.5 and 12.6)

unfoldable pub condition : Level → List FnCode → R Operand
condition below codes = do
  sign p.LeftParen
  x ← below.expr (context c.Paren) codes
  sign p.RightParen
  done x

-- behind an `else`, with the levels of the condition and of what stands before it
unfoldable pub other_part : Level → Inside → Next → Expr → Depth → Said → R Said
other_part below inside t test depth y = do
  z ← below.statement inside y.state
  done (said (s.If test y.stmt (Some z.stmt)) z.state (place t) (both depth z.depth))

-- behind the condition, with its levels, and what stands before an `else`
unfoldable pub else_part : Level → Inside → Next → Expr → Depth → Said → R Said
else_part below inside t test depth y = or
    (do
      word w.Else
      other_part below inside t test (both depth y.depth) y)
    (do
      next (λ u. not (says w.Else u))
      done (said (s.If test y.stmt None) y.state (place t) (both depth y.depth)))

-- An `else` belongs to the nearest `if`.
unfoldable pub if_statement : Level → Inside → State → Next → R Said
if_statement below inside added t = do
  x ← condition below added.codes
  y ← below.statement (before_else inside) (state x.codes added.vars)
  else_part below inside t x.value x.depth y

-- the condition of a `do`, behind its body
unfoldable pub repeated : Level → Next → Said → R Said
repeated below t y = do
  x ← condition below y.state.codes
  ended (s.DoWhile y.stmt x.value) (state x.codes y.state.vars) (place t) (both y.depth x.depth)

unfoldable pub do_statement : Level → Inside → State → Next → R Said
do_statement below inside added t = do
  y ← below.statement (doing inside) added
  word w.While
  repeated below t y

unfoldable pub while_statement : Level → Inside → State → Next → R Said
while_statement below inside added t = do
  x ← condition below added.codes
  y ← below.statement (turning inside) (state x.codes added.vars)
  done (said (s.While x.value y.stmt) y.state (place t) (both x.depth y.depth))

-- ---- `continue`, `break`, `return` and `throw` (12.7 to 12.9 and 12.13)

unfoldable pub return_statement : Level → Inside → State → Next → R Said
return_statement below inside added t = or
    (ended (s.Return None) added (place t) nothing)
    (do
      next (λ u. not (ends u))
      x ← below.expr (context (c.Statement inside.after)) added.codes
      ended (s.Return (Some x.value)) (state x.codes added.vars) (place t) x.depth)

unfoldable pub throw_statement : Level → Inside → State → Next → R Said
throw_statement below inside added t = do
  barred thrown_left_out
  next (λ u. not (is_on_new_line u))
  x ← below.expr (context (c.Statement inside.after)) added.codes
  ended (s.Throw x.value) (state x.codes added.vars) (place t) x.depth

-- ---- `switch` (12.11)

-- a part behind its `:`
unfoldable pub case_body : Level → Inside → Cases → Option Expr → R Cases
case_body below inside y test = do
  z ← again (λ _ t. in_case t) (series_more (choosing inside) below) (series [] y.state nothing)
  done (cases (y.cases ++ record { test = test; body = z.stmts } ∷ []) z.state y.has_default (both y.depth z.depth))

unfoldable pub case_clause : Level → Inside → Cases → R Cases
case_clause below inside y = do
  word w.Case
  x ← below.expr (context c.Case) y.state.codes
  sign p.Colon
  case_body below inside (cases y.cases (state x.codes y.state.vars) y.has_default (both y.depth x.depth)) (Some x.value)

unfoldable pub default_clause : Level → Inside → Cases → R Cases
default_clause below inside y = do
  one (λ t. says w.Default t && not y.has_default)
  sign p.Colon
  case_body below inside (cases y.cases y.state true y.depth) None

-- CaseClause, or DefaultClause where there was none
unfoldable pub case_part : Level → Inside → Cases → R Cases
case_part below inside y = or (case_clause below inside y) (default_clause below inside y)

unfoldable pub switch_cases : Level → Inside → State → R Cases
switch_cases below inside added = again (λ _ u. is_case u) (case_part below inside) (cases [] added false nothing)

-- the parts, and the `}` behind them
unfoldable pub switch_parts : Level → Inside → Next → Expr → Depth → State → R Said
switch_parts below inside t test depth added = do
  y ← switch_cases below inside added
  sign p.RightBrace
  done (said (s.Switch test y.cases) y.state (place t) (both depth y.depth))

unfoldable pub switch_statement : Level → Inside → State → Next → R Said
switch_statement below inside added t = do
  x ← condition below added.codes
  sign p.LeftBrace
  switch_parts below inside t x.value x.depth (state x.codes added.vars)

-- ---- `try` (12.14)

abbrev pub handler : List ℕ → Series → Handler
handler n z = record { name = n; body = z.stmts }

unfoldable pub finally_part : Level → Inside → Next → Series → R Said
finally_part below inside t y = do
  word w.Finally
  v ← braced inside below y.state
  done (said (s.Try y.stmts None (Some v.stmts)) v.state (place t) (both y.depth v.depth))

-- behind the block of a `catch`, with the levels of both blocks
unfoldable pub caught : Level → Inside → Next → List Stmt → Depth → Handler → State → R Said
caught below inside t stmts depth h added = or
    (do
      word w.Finally
      v ← braced inside below added
      done (said (s.Try stmts (Some h) (Some v.stmts)) v.state (place t) (both depth v.depth)))
    (do
      next (λ u. not (says w.Finally u))
      done (said (s.Try stmts (Some h) None) added (place t) depth))

unfoldable pub catch_part : Level → Inside → Next → Series → R Said
catch_part below inside t y = do
  word w.Catch
  sign p.LeftParen
  n ← name
  sign p.RightParen
  z ← braced inside below y.state
  caught below inside t y.stmts (both y.depth z.depth) (handler n z) z.state

unfoldable pub try_statement : Level → Inside → State → Next → R Said
try_statement below inside added t = do
  y ← braced inside below added
  or (catch_part below inside t y) (finally_part below inside t y)

-- ---- expression statements (12.4)

unfoldable pub expression_statement : Level → Inside → State → R Said
expression_statement below inside added = do
  x ← below.expr (context (c.Statement inside.after)) added.codes
  barred (label_flaw x)
  ended (s.Expr x.value) (state x.codes added.vars) x.at x.depth
