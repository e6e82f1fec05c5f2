-- `for` (ECMA-262 5.1, 12.6.3 and 12.6.4).
use Rattle.std.specs.Prelude.{ℕ, ◌-◌, not, ◌||◌, ◌&&◌, List, Option, Some, None}
use Rattle.grammar.specs.Grammar.{done, or}
use Rattle.grammar.specs.Words.{◌>>=◌, ◌>>◌, one, next}
use Rattle.js_lexer.specs.declared.token.Punct.{Punct}
use Rattle.js_tree.specs.declared.code.FnCode.{FnCode}
use Rattle.js_tree.specs.declared.expr.Expr.{Expr}
use Rattle.js_tree.specs.declared.stmt.Stmt.{Stmt}
use Rattle.js_nodes.specs.declared.context.Closer.{Closer}
use Rattle.js_nodes.specs.declared.context.Inside.{Inside}
use Rattle.js_nodes.specs.declared.depth.Depth.{Depth}
use Rattle.js_nodes.specs.declared.operand.Operand.{Operand}
use Rattle.js_nodes.specs.declared.operand.Part.{Part}
use Rattle.js_nodes.specs.declared.series.State.{State}
use Rattle.js_nodes.specs.declared.series.Said.{Said}
use Rattle.js_nodes.specs.Next.{Next, place, shows, says}
use Rattle.js_cursor.specs.Words.{R, takes, sign, word, name}
use Rattle.js_nodes.specs.Operands.{nothing, both, raised, part, context, first_context, level_flaw, is_bare_name, name_of}
use Rattle.js_parser.specs.Levels.{Level}
use Rattle.js_nodes.specs.Pieces.{state, said, declared, turning}
use Rattle.js_lexer.specs.declared.token.Punct.TheVariants as p
use Rattle.js_lexer.specs.declared.token.Word.TheVariants as w
use Rattle.js_tree.specs.declared.stmt.Stmt.TheVariants as s
use Rattle.js_nodes.specs.declared.context.Closer.TheVariants as c

-- an expression that may be left out, to the punctuator behind it
unfoldable pub head_part : Level → Closer → Punct → List FnCode → R Part
head_part below closer end codes = or
    (sign end >> done (part None codes nothing))
    (do
      next (λ t. not (shows end t))
      x ← below.expr (context closer) codes
      sign end
      done (part (Some x.value) x.codes x.depth))

-- behind the head, with its levels
unfoldable pub for_body : Level → Inside → Next → Option Stmt → Option Expr → Option Expr → State → Depth → R Said
for_body below inside t head test step added depth = do
  v ← below.statement (turning inside) added
  done (said (s.For head test step v.stmt) v.state (place t) (both depth v.depth))

-- behind the first `;`
unfoldable pub for_rest : Level → Inside → Next → Option Stmt → State → Depth → R Said
for_rest below inside t head added depth = do
  y ← head_part below c.Semicolon p.Semicolon added.codes
  z ← head_part below c.Paren p.RightParen y.codes
  for_body below inside t head y.value z.value (state z.codes added.vars) (both (both depth y.depth) z.depth)

-- behind the head, with the levels of what is gone through
unfoldable pub each_body : Level → Inside → Next → List ℕ → Expr → Depth → State → R Said
each_body below inside t n value depth added = do
  v ← below.statement (turning inside) added
  done (said (s.ForIn n value v.stmt) v.state (place t) (both depth v.depth))

-- behind `in`
unfoldable pub for_each : Level → Inside → Next → List ℕ → State → R Said
for_each below inside t n added = do
  x ← below.expr (context c.Paren) added.codes
  sign p.RightParen
  each_body below inside t n x.value x.depth (state x.codes added.vars)

-- behind a `var` without its `;`
unfoldable pub for_declared : Level → Inside → Next → Said → R Said
for_declared below inside t d = do
  sign p.Semicolon
  for_rest below inside t (Some d.stmt) d.state d.depth

-- behind `var`, which stands there, and the first name, where no `in` stands
unfoldable pub for_listed : Level → Inside → Next → ℕ → State → List ℕ → R Said
for_listed below inside t at added n = do
  d ← below.variables first_context at n added
  for_declared below inside t d

unfoldable pub for_named : Level → Inside → Next → ℕ → State → List ℕ → R Said
for_named below inside t at added n = or
    (do
      word w.In
      for_each below inside t n (declared added n))
    (do
      next (λ a. not (says w.In a))
      for_listed below inside t at added n)

unfoldable pub for_variables : Level → Inside → Next → ℕ → State → R Said
for_variables below inside t at added = do
  n ← name
  for_named below inside t at added n

-- an expression as the first part; as a statement it takes a level more
unfoldable pub for_first : ℕ → Level → Inside → Next → List (List ℕ) → Operand → R Said
for_first room below inside t vars x = do
  takes (shows p.Semicolon) (level_flaw (room - 1) x.depth)
  for_rest below inside t (Some (s.Expr x.value)) (state x.codes vars) (raised x.at x.depth)

-- behind an expression; `in` stands behind a name alone
unfoldable pub for_expression : ℕ → Level → Inside → Next → List (List ℕ) → Operand → R Said
for_expression room below inside t vars x = or
    (do
      one (λ u. says w.In u && is_bare_name x)
      for_each below inside t (name_of x.value) (state x.codes vars))
    (for_first room below inside t vars x)

unfoldable pub for_head : ℕ → Level → Inside → Next → State → R Said
for_head room below inside t added = or
    (sign p.Semicolon >> for_rest below inside t None added nothing)
    (or (do
      u ← one (says w.Var)
      for_variables below inside t (place u) added)
    (do
      next (λ u. not (shows p.Semicolon u || says w.Var u))
      x ← below.first added.codes
      for_expression room below inside t added.vars x))

unfoldable pub for_statement : ℕ → Level → Inside → State → Next → R Said
for_statement room below inside added t = sign p.LeftParen >> for_head room below inside t added
