-- The characters of a script, and the classes of code points that its tokens speak of
-- (ECMA-262 5.1: 7.2 white space, 7.3 line terminators, 7.6 names, 7.8 literals).
use Prim.Native.Char.{code}
use Rattle.std.specs.Prelude.{ℕ, Bool, not, ◌||◌, ◌&&◌, ◌==◌, nat_lt}
use Rattle.std.specs.Char.{digit_value}
use Rattle.page_units.specs.Blanks.{is_white_space, is_line_terminator}
use Rattle.unicode_ident.specs.Ident.{is_xid_start, is_xid_continue}
use Rattle.grammar.specs.Grammar.{Rule}
use Rattle.placed_chars.specs.declared.chars.Char.{Char}
use Rattle.placed_chars.specs.Chars.{is_end}
use Rattle.js_lexer.specs.declared.fault.LexFault.{LexFault}

-- a rule over characters, whose refusals are faults
abbrev pub R : Type 0 → Type 1
R A = Rule Char LexFault A

-- a character, and not the end, whose code point is of a class
abbrev pub of : (ℕ → Bool) → Char → Bool
of p t = not (is_end t.code) && p t.code

-- this code point
abbrev pub is : ℕ → ℕ → Bool
is c x = x == c

-- white space and line terminators
abbrev pub is_white : ℕ → Bool
is_white c = is_white_space c

abbrev pub is_terminator : ℕ → Bool
is_terminator c = is_line_terminator c

-- `$`, `_` or XID_Start
abbrev pub starts_name : ℕ → Bool
starts_name c = c == code "$" || c == code "_" || is_xid_start c

-- `$`, `_` or XID_Continue
abbrev pub is_part : ℕ → Bool
is_part c = c == code "$" || c == code "_" || is_xid_continue c

-- `0` to `9`
abbrev pub is_digit : ℕ → Bool
is_digit c = nat_lt (digit_value c) 10

-- a digit, `a` to `f` or `A` to `F`
abbrev pub is_hex : ℕ → Bool
is_hex c = nat_lt (digit_value c) 16

-- `"` or `'`
abbrev pub is_quote : ℕ → Bool
is_quote c = c == code "\"" || c == code "'"
