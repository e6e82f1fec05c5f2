-- Left-hand-side expressions (ECMA-262 5.1, 11.2).
use Rattle.std.specs.Prelude.{ℕ, Bool, not, List, [], Some, None}
use Rattle.grammar.specs.Grammar.{done, refused, or, again}
use Rattle.grammar.specs.Words.{◌>>=◌, ◌>>◌, next}
use Rattle.js_lexer.specs.declared.token.Kind.{Kind}
use Rattle.js_tree.specs.declared.code.FnCode.{FnCode}
use Rattle.js_nodes.specs.declared.operand.Operand.{Operand}
use Rattle.js_nodes.specs.declared.operand.Row.{Row}
use Rattle.js_nodes.specs.Next.{Next, of, place, shows, says}
use Rattle.js_cursor.specs.Words.{R, takes, deeper, sign}
use Rattle.js_nodes.specs.Operands.{nothing, both, raised, operand, row, context, level_flaw}
use Rattle.js_parser.specs.Levels.{Level}
use Rattle.js_parser.specs.Primary.{item, primary}
use Rattle.js_nodes.specs.Classes.{is_access, is_link}
use Rattle.js_cursor.specs.Rules.{member, indexed}
use Rattle.js_lexer.specs.declared.token.Kind.TheVariants as k
use Rattle.js_lexer.specs.declared.token.Punct.TheVariants as p
use Rattle.js_lexer.specs.declared.token.Word.TheVariants as w
use Rattle.js_tree.specs.declared.expr.Expr.TheVariants as e
use Rattle.js_nodes.specs.declared.context.Closer.TheVariants as c

unfoldable pub argument_more : Level → Row → R Row
argument_more below r = do
  sign p.Comma
  item below (context c.Paren) r

unfoldable pub some_arguments : Level → List FnCode → R Row
some_arguments below codes = do
  r ← item below (context c.Paren) (row [] codes nothing)
  r ← again (λ _ t. shows p.Comma t) (argument_more below) r
  sign p.RightParen
  done r

-- Arguments, behind their `(`
unfoldable pub arguments : Level → List FnCode → R Row
arguments below codes = or (sign p.RightParen >> done (row [] codes nothing))
    (next (λ t. not (shows p.RightParen t)) >> some_arguments below codes)

-- behind `[`
unfoldable pub index : Level → Operand → R Operand
index below x = do
  y ← below.expr (context c.Bracket) x.codes
  indexed x.value x.at x.depth y

unfoldable pub call : Level → Operand → R Operand
call below x = do
  r ← arguments below x.codes
  done (operand (e.Call x.value r.values) r.codes x.at (raised x.at (both x.depth r.depth)))

unfoldable pub link_kind : Level → Operand → Kind → R Operand
link_kind below x (k.Punct p.Dot) = member x
link_kind below x (k.Punct p.LeftBracket) = index below x
link_kind below x _ = call below x

unfoldable pub link_by : Level → Operand → Next → R Operand
link_by below x None = refused (λ _. None)
link_by below x (Some t) = link_kind below x t.kind

-- one property or call more
unfoldable pub link : (Kind → Bool) → ℕ → Level → Operand → R Operand
link class room below x = do
  t ← takes (of class) (level_flaw room x.depth)
  link_by below x t

-- the arguments of a `new`, of which there may be none
unfoldable pub new_arguments : Level → List FnCode → R Row
new_arguments below codes = or (sign p.LeftParen >> arguments below codes)
    (next (λ t. not (shows p.LeftParen t)) >> done (row [] codes nothing))

-- `new` with its operand and the nearest arguments (11.2.2)
unfoldable pub construction : ℕ → Level → List FnCode → R Operand
construction room below codes = do
  t ← deeper room (says w.New)
  x ← below.callee codes
  r ← new_arguments below x.codes
  done (operand (e.New x.value r.values) r.codes (place t) (raised (place t) (both x.depth r.depth)))

unfoldable pub head : ℕ → Level → List FnCode → R Operand
head room below codes = or (construction room below codes) (primary room below codes)

-- what stands behind `new`: properties belong to it, and the nearest arguments don't
unfoldable pub callee : ℕ → Level → List FnCode → R Operand
callee room below codes = do
  x ← head room below codes
  again (λ _ t. of is_access t) (link is_access room below) x

-- LeftHandSideExpression
unfoldable pub left : ℕ → Level → List FnCode → R Operand
left room below codes = do
  x ← head room below codes
  again (λ _ t. of is_link t) (link is_link room below) x
