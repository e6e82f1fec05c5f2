-- Rules without parts one level below (ECMA-262 5.1, sections 11 to 13).
use Rattle.std.specs.Prelude.{ℕ, false, not, cond, List, [], ◌∷◌, ◌++◌, Option, Some, None}
use Rattle.grammar.specs.Grammar.{done, or, refused, before}
use Rattle.grammar.specs.Words.{◌>>=◌, ◌>>◌, next, one, barred}
use Rattle.js_tree.specs.declared.code.FnCode.{FnCode}
use Rattle.js_tree.specs.declared.expr.Expr.{Expr}
use Rattle.js_tree.specs.declared.stmt.Stmt.{Stmt}
use Rattle.js_nodes.specs.declared.depth.Depth.{Depth}
use Rattle.js_nodes.specs.declared.fault.Fault.{Fault}
use Rattle.js_nodes.specs.declared.series.State.{State}
use Rattle.js_nodes.specs.Next.{Next, of, place, is_name, text, is_word_or_name}
use Rattle.js_cursor.specs.Words.{R, sound, sign, takes}
use Rattle.js_nodes.specs.Operands.{nothing, both, raised, operand, over, context, leaf, target_flaw, inserted}
use Rattle.js_nodes.specs.declared.operand.Operand.{Operand}
use Rattle.js_nodes.specs.declared.fault.Fault.TheVariants.{Nesting}
use Rattle.js_nodes.specs.declared.context.Context.{Context}
use Rattle.js_nodes.specs.Operators.{step_op, prefix_value}
use Rattle.js_nodes.specs.declared.series.Said.{Said}
use Rattle.js_nodes.specs.Pieces.{said}
use Rattle.js_cursor.specs.Questions.{twice, is_postfix, goes_on, unless_name, jump_label, flaw_shown}
use Rattle.js_lexer.specs.declared.token.Punct.TheVariants as p
use Rattle.js_tree.specs.declared.expr.Expr.TheVariants as e

unfoldable pub parameter : List (List ℕ) → R (List ℕ)
parameter names = do
  t ← sound (twice names) (of is_name)
  done (text t)

unfoldable pub more_parameters : List (List ℕ) → R (List (List ℕ))
more_parameters names = do
  sign p.Comma
  n ← parameter names
  done (names ++ n ∷ [])

-- IdentifierName behind `.`
unfoldable pub member_name : R (List ℕ)
member_name = do
  t ← one (of is_word_or_name)
  done (text t)

-- behind `.`
unfoldable pub member : Operand → R Operand
member x = do
  n ← member_name
  done (over (e.Member x.value n) x)

abbrev pub stepped : Operand → Next → Operand
stepped x None = x
stepped x (Some t) = over (e.Step (step_op t.kind) false x.value) x

unfoldable pub stepped_or_not : ℕ → Operand → R Operand
stepped_or_not room x = or
    (do
      t ← takes is_postfix (target_flaw room x)
      done (stepped x t))
    (do
      next (λ t. not (is_postfix t))
      done x)

abbrev pub prefixed : Operand → Next → Operand
prefixed x None = x
prefixed x (Some t) = operand (prefix_value t.kind x.value) x.codes t.at (raised t.at x.depth)

-- behind the operand of the operator: where that is wrong, what may follow shows so
unfoldable pub prefix_end : Context → Next → Operand → Option Fault → R Operand
prefix_end context t x None = done (prefixed x t)
prefix_end context t x (Some f) = refused (flaw_shown context f)

-- a name that may stand alone before `in`, and has no level as an expression
unfoldable pub lone_name : List FnCode → R Operand
lone_name codes = do
  t ← sound unless_name (of is_name)
  barred (λ u. cond (goes_on u) (Some (Nesting (place t))) None)
  done (leaf (e.Name (text t)) codes t)

-- a semicolon, or where one is inserted (7.9.1)
unfoldable pub semi : R (Unit {0})
semi = or (sign p.Semicolon >> done tt) (before inserted)

-- the end of a statement that begins here, over parts with these levels
unfoldable pub ended : Stmt → State → ℕ → Depth → R Said
ended stmt added at depth = do
  semi
  done (said stmt added at depth)

unfoldable pub jump : Stmt → State → Next → R Said
jump stmt added t = do
  barred jump_label
  ended stmt added (place t) nothing

-- behind an expression in brackets, which is the key of a property
unfoldable pub indexed : Expr → ℕ → Depth → Operand → R Operand
indexed value at depth y = do
  sign p.RightBracket
  done (operand (e.Index value y.value) y.codes at (raised at (both depth y.depth)))
