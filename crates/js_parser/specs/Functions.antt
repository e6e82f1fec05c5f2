-- The codes of functions (ECMA-262 5.1, section 13). A code's place among all codes is taken at the `function`, so that
-- codes are numbered in the order in which their `function` tokens stand.
use Rattle.std.specs.Prelude.{ℕ, not, List, [], ◌∷◌, ◌++◌, length, slice_set, Option}
use Rattle.grammar.specs.Grammar.{done, or, again}
use Rattle.grammar.specs.Words.{◌>>=◌, ◌>>◌, next}
use Rattle.js_tree.specs.declared.code.FnCode.{FnCode}
use Rattle.js_nodes.specs.declared.operand.Coded.{Coded}
use Rattle.js_nodes.specs.declared.series.Body.{Body}
use Rattle.js_nodes.specs.Next.{shows}
use Rattle.js_cursor.specs.Words.{R, sign}
use Rattle.js_nodes.specs.Operands.{nothing}
use Rattle.js_parser.specs.Levels.{Level}
use Rattle.js_nodes.specs.Pieces.{blank, state, body, coded, called}
use Rattle.js_cursor.specs.Questions.{in_block}
use Rattle.js_cursor.specs.Rules.{parameter, more_parameters}
use Rattle.js_lexer.specs.declared.token.Punct.TheVariants as p

abbrev pub code : Option (List ℕ) → List (List ℕ) → Body → FnCode
code name params b = record { name = name; params = params; vars = b.state.vars; funs = b.funs; body = b.stmts }

-- FormalParameterList, behind its `(`
unfoldable pub some_parameters : R (List (List ℕ))
some_parameters = do
  n ← parameter []
  names ← again (λ _ t. shows p.Comma t) more_parameters (n ∷ [])
  sign p.RightParen
  done names

unfoldable pub parameters : R (List (List ℕ))
parameters = do
  sign p.LeftParen
  or (sign p.RightParen >> done [])
      (next (λ t. not (shows p.RightParen t)) >> some_parameters)

-- FunctionBody, to its `}`
unfoldable pub function_body : Level → List FnCode → R Body
function_body below codes = do
  sign p.LeftBrace
  b ← again (λ _ t. in_block t) (λ b. below.source called b) (body [] (state codes []) [] nothing)
  sign p.RightBrace
  done b

-- ( FormalParameterList ) { FunctionBody }
unfoldable pub function_code : Level → Option (List ℕ) → List FnCode → R Coded
function_code below name codes = do
  params ← parameters
  b ← function_body below (codes ++ blank ∷ [])
  done (coded (slice_set b.state.codes (length codes) (code name params b)) b.depth)
