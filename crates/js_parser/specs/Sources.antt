-- Statements by their first token, function declarations, and whole scripts (ECMA-262 5.1, sections 12 to 14).
use Rattle.std.specs.Prelude.{ℕ, zero, suc, [], ◌∷◌, ◌++◌, length, Some, None}
use Rattle.grammar.specs.Grammar.{done, refused, or, again}
use Rattle.grammar.specs.Words.{◌>>=◌, ◌>>◌, one, next}
use Rattle.js_lexer.specs.declared.token.Kind.{Kind}
use Rattle.js_tree.specs.declared.code.Program.{Program}
use Rattle.js_nodes.specs.declared.context.Inside.{Inside}
use Rattle.js_nodes.specs.declared.series.State.{State}
use Rattle.js_nodes.specs.declared.series.Said.{Said}
use Rattle.js_nodes.specs.declared.series.Body.{Body}
use Rattle.js_nodes.specs.Next.{Next, of, place, is_there, says}
use Rattle.js_cursor.specs.Words.{R, sound, too_deep, name}
use Rattle.js_nodes.specs.Operands.{nothing, both, raised}
use Rattle.js_parser.specs.Levels.{Level}
use Rattle.js_nodes.specs.Pieces.{state, body, said, outside}
use Rattle.js_parser.specs.Functions.{function_code}
use Rattle.js_cursor.specs.Questions.{operand_too_deep, begins_statement, statement_too_deep, source_too_deep}
use Rattle.js_parser.specs.Chains.{callee}
use Rattle.js_parser.specs.Statements.{block_statement, variables, var_statement, if_statement, do_statement, while_statement, return_statement, throw_statement, switch_statement, try_statement, expression_statement}
use Rattle.js_cursor.specs.Rules.{jump}
use Rattle.js_parser.specs.Heads.{for_statement}
use Rattle.js_nodes.specs.Classes.{opens, requires_part}
use Rattle.js_lexer.specs.declared.token.Kind.TheVariants as k
use Rattle.js_lexer.specs.declared.token.Punct.TheVariants as p
use Rattle.js_lexer.specs.declared.token.Word.TheVariants as w
use Rattle.js_tree.specs.declared.stmt.Stmt.TheVariants as s
use Rattle.js_parser.specs.Expressions as expressions

-- what begins with this token, behind it
unfoldable pub statement_kind : ℕ → Level → Inside → State → Next → Kind → R Said
statement_kind room below inside added t (k.Punct p.LeftBrace) = block_statement below inside added t
statement_kind room below inside added t (k.Punct p.Semicolon) = done (said s.Empty added (place t) nothing)
statement_kind room below inside added t (k.Word w.Var) = var_statement room below inside added t
statement_kind room below inside added t (k.Word w.If) = if_statement below inside added t
statement_kind room below inside added t (k.Word w.Do) = do_statement below inside added t
statement_kind room below inside added t (k.Word w.While) = while_statement below inside added t
statement_kind room below inside added t (k.Word w.For) = for_statement room below inside added t
statement_kind room below inside added t (k.Word w.Continue) = jump s.Continue added t
statement_kind room below inside added t (k.Word w.Break) = jump s.Break added t
statement_kind room below inside added t (k.Word w.Return) = return_statement below inside added t
statement_kind room below inside added t (k.Word w.Throw) = throw_statement below inside added t
statement_kind room below inside added t (k.Word w.Switch) = switch_statement below inside added t
statement_kind room below inside added t (k.Word w.Try) = try_statement below inside added t
statement_kind room below inside added t _ = refused (λ _. None)

unfoldable pub statement_by : ℕ → Level → Inside → State → Next → R Said
statement_by room below inside added None = refused (λ _. None)
statement_by room below inside added (Some t) = statement_kind room below inside added (Some t) t.kind

-- a statement that its first token tells
unfoldable pub told_statement : ℕ → Level → Inside → State → R Said
told_statement room below inside added = do
  t ← sound (too_deep room (of requires_part)) (opens inside)
  statement_by room below inside added t

-- Statement (section 12)
unfoldable pub statement : ℕ → Level → Inside → State → R Said
statement room below inside added = or (told_statement room below inside added)
    (next begins_statement >> expression_statement below inside added)

abbrev pub body_more : Body → Said → Body
body_more b x = body (b.stmts ++ x.stmt ∷ []) x.state b.funs (both b.depth x.depth)

-- FunctionDeclaration (section 13), a node of the level of the statements beside it
unfoldable pub declaration : Level → Body → R Body
declaration below b = do
  t ← one (says w.Function)
  n ← name
  all ← function_code below (Some n) b.state.codes
  done (body b.stmts (state all.codes b.state.vars) (b.funs ++ length b.state.codes ∷ []) (both b.depth (raised (place t) all.depth)))

-- SourceElement (section 14)
unfoldable pub source : ℕ → Level → Inside → Body → R Body
source room below inside b = or (declaration below b)
    (do
      x ← statement room below inside b.state
      done (body_more b x))

-- ---- levels

abbrev pub no_level : Level
no_level = record {
  binary = λ context n codes. refused operand_too_deep;
  assign = λ context codes. refused operand_too_deep;
  expr = λ context codes. refused operand_too_deep;
  callee = λ codes. refused operand_too_deep;
  first = λ codes. refused operand_too_deep;
  variables = λ context at n added. refused operand_too_deep;
  statement = λ inside added. refused (statement_too_deep inside);
  source = λ inside b. refused (source_too_deep inside);
}

abbrev pub next_level : ℕ → Level → Level
next_level room below = record {
  binary = expressions.binary room below;
  assign = expressions.assign room below;
  expr = expressions.expr room below;
  callee = callee room below;
  first = expressions.first room below;
  variables = variables room below;
  statement = statement room below;
  source = source room below;
}

-- the rules with so many levels left
unfoldable pub level : ℕ → Level
level zero = no_level
level (suc room) = next_level (suc room) (level room)

-- ---- whole scripts

abbrev pub program_of : Body → Program
program_of b = record { codes = b.state.codes; body = b.stmts; vars = b.state.vars; funs = b.funs }

-- Program (section 14), whose statements have level 1 of 128
unfoldable pub program : R Program
program = do
  b ← again (λ _ t. is_there t) (λ b. (level 128).source outside b) (body [] (state [] []) [] nothing)
  done (program_of b)
