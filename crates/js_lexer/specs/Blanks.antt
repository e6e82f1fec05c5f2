-- Comments (ECMA-262 5.1, 7.4), behind their `//` or `/*`.
use Prim.Native.Char.{code}
use Rattle.std.specs.Prelude.{ℕ, Bool, false, not, ◌||◌, ◌&&◌, cond}
use Rattle.grammar.specs.Grammar.{done, again}
use Rattle.grammar.specs.Words.{◌>>=◌, ◌>>◌, one, must}
use Rattle.placed_chars.specs.declared.chars.Char.{Char}
use Rattle.js_lexer.specs.declared.fault.LexFault.TheVariants.{UnclosedComment}
use Rattle.js_lexer.specs.declared.lexer.Element.{Element}
use Rattle.js_lexer.specs.declared.lexer.Element.TheVariants.{White, Newline}
use Rattle.js_lexer.specs.Chars.{R, of, is, is_terminator}

abbrev pub line_goes : Unit {0} → Char → Bool
line_goes _ t = of (λ c. not (is_terminator c)) t

abbrev pub line_char : Unit {0} → R (Unit {0})
line_char u = one (line_goes u) >> done tt

-- to the end of its line
unfoldable pub line_comment : R (Unit {0})
line_comment = again line_goes line_char tt

-- whether a star stands last, and whether a line terminator stands in it, so far
pub record Inside : Type 0 where
  pub starred : Bool
  pub newline : Bool

abbrev pub inside : Bool → Bool → Inside
inside starred newline = record { starred = starred; newline = newline }

abbrev pub block_goes : Inside → Char → Bool
block_goes s t = of (λ c. not (s.starred && is (code "/") c)) t

abbrev pub block_char : Inside → R Inside
block_char s = do
  t ← one (block_goes s)
  done (inside (is (code "*") t.code) (s.newline || is_terminator t.code))

-- to the first `*/`. With a line terminator in it a comment counts as one.
unfoldable pub block_comment : ℕ → R Element
block_comment at = do
  s ← again block_goes block_char (inside false false)
  must (of (is (code "/"))) (λ _. UnclosedComment at)
  done (cond s.newline Newline White)
