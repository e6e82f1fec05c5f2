-- Primary expressions (ECMA-262 5.1, 11.1).
use Rattle.std.specs.Prelude.{ℕ, true, false, not, List, [], ◌∷◌, ◌++◌, length, Some, None}
use Rattle.grammar.specs.Grammar.{done, refused, or, again}
use Rattle.grammar.specs.Words.{◌>>=◌, ◌>>◌, next}
use Rattle.js_lexer.specs.declared.token.Kind.{Kind}
use Rattle.js_tree.specs.declared.code.FnCode.{FnCode}
use Rattle.js_nodes.specs.declared.context.Context.{Context}
use Rattle.js_nodes.specs.declared.operand.Operand.{Operand}
use Rattle.js_nodes.specs.declared.operand.Row.{Row}
use Rattle.js_nodes.specs.declared.operand.Entries.{Entries}
use Rattle.js_nodes.specs.Next.{Next, of, place, shows, is_key, text}
use Rattle.js_cursor.specs.Words.{R, sound, sign, name}
use Rattle.js_nodes.specs.Operands.{nothing, both, raised, operand, leaf, row, row_more, context}
use Rattle.js_parser.specs.Levels.{Level}
use Rattle.js_parser.specs.Functions.{function_code}
use Rattle.js_nodes.specs.Pieces.{entries}
use Rattle.js_nodes.specs.Classes.{begins_primary}
use Rattle.js_cursor.specs.Questions.{primary_flaw, key_flaw, accessor_flaw}
use Rattle.js_lexer.specs.declared.token.Kind.TheVariants as k
use Rattle.js_lexer.specs.declared.token.Punct.TheVariants as p
use Rattle.js_lexer.specs.declared.token.Word.TheVariants as w
use Rattle.js_tree.specs.declared.expr.Expr.TheVariants as e
use Rattle.js_nodes.specs.declared.context.Closer.TheVariants as c

-- ---- lists and objects

-- one expression more, behind a comma
unfoldable pub item : Level → Context → Row → R Row
item below x r = do
  y ← below.assign x r.codes
  done (row_more r y)

-- behind a comma of a list: one expression more, or none before the `]`
unfoldable pub list_more : Level → Row → R Row
list_more below r = do
  sign p.Comma
  or (next (shows p.RightBracket) >> done r)
      (next (λ t. not (shows p.RightBracket t)) >> item below (context c.Bracket) r)

unfoldable pub list_items : Level → List FnCode → R Row
list_items below codes = do
  r ← item below (context c.Bracket) (row [] codes nothing)
  r ← again (λ _ t. shows p.Comma t) (list_more below) r
  sign p.RightBracket
  done r

-- ArrayLiteral (11.1.4) behind its `[`, without holes (this project's own)
unfoldable pub list : Level → List FnCode → R Row
list below codes = or (sign p.RightBracket >> done (row [] codes nothing))
    (next (λ t. not (shows p.RightBracket t)) >> list_items below codes)

-- PropertyAssignment
unfoldable pub entry : ℕ → Level → Entries → R Entries
entry room below o = do
  t ← sound (key_flaw room o.entries) (of is_key)
  sound (accessor_flaw t) (shows p.Colon)
  x ← below.assign (context c.Brace) o.codes
  done (entries (o.entries ++ record { key = text t; value = x.value } ∷ []) x.codes (both o.depth x.depth))

-- behind a comma of an object: one entry more, or none before the `}`
unfoldable pub object_more : ℕ → Level → Entries → R Entries
object_more room below o = do
  sign p.Comma
  or (next (shows p.RightBrace) >> done o)
      (next (λ t. not (shows p.RightBrace t)) >> entry room below o)

unfoldable pub object_entries : ℕ → Level → List FnCode → R Entries
object_entries room below codes = do
  o ← entry room below (entries [] codes nothing)
  o ← again (λ _ t. shows p.Comma t) (object_more room below) o
  sign p.RightBrace
  done o

-- ObjectLiteral (11.1.5) behind its `{`
unfoldable pub object : ℕ → Level → List FnCode → R Entries
object room below codes = or (sign p.RightBrace >> done (entries [] codes nothing))
    (next (λ t. not (shows p.RightBrace t)) >> object_entries room below codes)

-- ---- the others

-- FunctionExpression (section 13) behind its `function`, which is this
unfoldable pub function : Level → List FnCode → Next → R Operand
function below codes t = do
  n ← or (do
    next (λ t. not (shows p.LeftParen t))
    n ← name
    done (Some n))
      (next (shows p.LeftParen) >> done None)
  all ← function_code below n codes
  done (operand (e.Fun (length codes)) all.codes (place t) (raised (place t) all.depth))

-- ( Expression ), which is no node and takes a level
unfoldable pub parens : Level → List FnCode → Next → R Operand
parens below codes t = do
  x ← below.expr (context c.Paren) codes
  sign p.RightParen
  done (operand x.value x.codes (place t) (raised (place t) x.depth))

-- what begins with this token, behind it
unfoldable pub primary_kind : ℕ → Level → List FnCode → Next → Kind → R Operand
primary_kind room below codes t (k.Name n) = done (leaf (e.Name n) codes t)
primary_kind room below codes t (k.Num z) = done (leaf (e.Num z) codes t)
primary_kind room below codes t (k.Str s) = done (leaf (e.Str s) codes t)
primary_kind room below codes t (k.Word w.This) = done (leaf e.This codes t)
primary_kind room below codes t (k.Word w.True) = done (leaf (e.Bool true) codes t)
primary_kind room below codes t (k.Word w.False) = done (leaf (e.Bool false) codes t)
primary_kind room below codes t (k.Word w.Null) = done (leaf e.Null codes t)
primary_kind room below codes t (k.Word w.Function) = function below codes t
primary_kind room below codes t (k.Punct p.LeftParen) = parens below codes t
primary_kind room below codes t (k.Punct p.LeftBracket) = list below codes >>= (λ r. done (operand (e.Array r.values) r.codes (place t) (raised (place t) r.depth)))
primary_kind room below codes t (k.Punct p.LeftBrace) = object room below codes >>= (λ o. done (operand (e.Table o.entries) o.codes (place t) (raised (place t) o.depth)))
primary_kind room below codes t _ = refused (λ _. None)

unfoldable pub primary_by : ℕ → Level → List FnCode → Next → R Operand
primary_by room below codes None = refused (λ _. None)
primary_by room below codes (Some t) = primary_kind room below codes (Some t) t.kind

-- PrimaryExpression
unfoldable pub primary : ℕ → Level → List FnCode → R Operand
primary room below codes = do
  t ← sound (primary_flaw room) (of begins_primary)
  primary_by room below codes t
