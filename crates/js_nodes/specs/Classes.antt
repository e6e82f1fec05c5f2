-- Classes of tokens that begin a form (ECMA-262 5.1, sections 11 and 12).
use Rattle.std.specs.Prelude.{Bool, true, false}
use Rattle.js_lexer.specs.declared.token.Kind.{Kind}
use Rattle.js_nodes.specs.Next.{Next, of, is_name}
use Rattle.js_nodes.specs.declared.context.Inside.{Inside}
use Rattle.js_lexer.specs.declared.token.Kind.TheVariants as k
use Rattle.js_lexer.specs.declared.token.Punct.TheVariants as p
use Rattle.js_lexer.specs.declared.token.Word.TheVariants as w

abbrev pub begins_primary : Kind → Bool
begins_primary (k.Name n) = is_name (k.Name n)
begins_primary (k.Num z) = true
begins_primary (k.Str s) = true
begins_primary (k.Word w.This) = true
begins_primary (k.Word w.True) = true
begins_primary (k.Word w.False) = true
begins_primary (k.Word w.Null) = true
begins_primary (k.Word w.Function) = true
begins_primary (k.Punct p.LeftParen) = true
begins_primary (k.Punct p.LeftBracket) = true
begins_primary (k.Punct p.LeftBrace) = true
begins_primary _ = false

-- a property
abbrev pub is_access : Kind → Bool
is_access (k.Punct p.Dot) = true
is_access (k.Punct p.LeftBracket) = true
is_access _ = false

-- a property or a call
abbrev pub is_link : Kind → Bool
is_link (k.Punct p.Dot) = true
is_link (k.Punct p.LeftBracket) = true
is_link (k.Punct p.LeftParen) = true
is_link _ = false

-- a statement that its first token tells, and which may stand here
abbrev pub opens_kind : Inside → Kind → Bool
opens_kind inside (k.Punct p.LeftBrace) = true
opens_kind inside (k.Punct p.Semicolon) = true
opens_kind inside (k.Word w.Var) = true
opens_kind inside (k.Word w.If) = true
opens_kind inside (k.Word w.Do) = true
opens_kind inside (k.Word w.While) = true
opens_kind inside (k.Word w.For) = true
opens_kind inside (k.Word w.Continue) = inside.turning
opens_kind inside (k.Word w.Break) = inside.leaving
opens_kind inside (k.Word w.Return) = inside.function
opens_kind inside (k.Word w.Throw) = true
opens_kind inside (k.Word w.Switch) = true
opens_kind inside (k.Word w.Try) = true
opens_kind inside _ = false

unfoldable pub opens : Inside → Next → Bool
opens inside t = of (opens_kind inside) t

-- a statement that requires a node one level deeper
abbrev pub requires_part : Kind → Bool
requires_part (k.Word w.If) = true
requires_part (k.Word w.Do) = true
requires_part (k.Word w.While) = true
requires_part (k.Word w.For) = true
requires_part (k.Word w.Throw) = true
requires_part (k.Word w.Switch) = true
requires_part _ = false
