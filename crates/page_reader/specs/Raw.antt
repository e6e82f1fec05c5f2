-- The content of `script` and `style`: all up to the first end tag of the element's own name (this project's own page
-- form, after HTML's raw text elements).
use Rattle.std.specs.Prelude.{ℕ, zero, suc, ◌+◌, ◌-◌, Bool, true, false, not, ◌&&◌, cond, ◌==◌, nat_le, List, [], ◌∷◌, ◌++◌, length, take, slice_index, slice_range, Option, Some, None}
use Rattle.std.specs.Char.Escape.{encode_utf16}
use Rattle.grammar.specs.Grammar.{token, done, again}
use Rattle.grammar.specs.Words.{◌>>=◌}
use Rattle.grammar.specs.Reading.{is_some}
use Rattle.placed_chars.specs.declared.chars.Char.{Char}
use Rattle.placed_chars.specs.Chars.{is_end}
use Rattle.page_reader.specs.declared.fault.PageRule.TheVariants.{Unclosed}
use Rattle.page_reader.specs.declared.node.RawContent.{RawContent}
use Rattle.page_reader.specs.Classes.{is_white, lower, is_lt, is_gt, is_slash}
use Rattle.page_reader.specs.Rules.{R, fault, need}

-- how many of the first so many units are left where white space at their end is taken off
abbrev pub trimmed : List ℕ → ℕ → ℕ
trimmed units zero = zero
trimmed units (suc n) = cond (is_white (slice_index units n)) (trimmed units n) (suc n)

-- this name, which is lowered, in any case
abbrev pub is_called : List ℕ → List ℕ → Bool
is_called [] [] = true
is_called [] (x ∷ xs) = false
is_called (c ∷ cs) [] = false
is_called (c ∷ cs) (x ∷ xs) = lower x == c && is_called cs xs

-- `/` and this name
abbrev pub is_slash_and_name : List ℕ → List ℕ → Bool
is_slash_and_name tag [] = false
is_slash_and_name tag (x ∷ xs) = is_slash x && is_called tag xs

-- `</` and this name
abbrev pub is_end_tag : List ℕ → List ℕ → Bool
is_end_tag tag [] = false
is_end_tag tag (x ∷ xs) = is_lt x && is_slash_and_name tag xs

abbrev pub ending_at : List ℕ → List ℕ → ℕ → Option ℕ
ending_at tag units n = cond (nat_le (length tag + 2) n && is_end_tag tag (slice_range units (n - (length tag + 2)) n)) (Some (n - (length tag + 2))) None

-- behind how many units the end tag of this name begins in which they end, but for its `>`; None where they don't
abbrev pub end_tag_at : List ℕ → List ℕ → Option ℕ
end_tag_at tag units = ending_at tag units (trimmed units (length units))

-- raw content goes on until a `>` ends an end tag of this name
abbrev pub raw_goes : List ℕ → List ℕ → Char → Bool
raw_goes tag units t = not (is_end t.code) && not (is_gt t.code && is_some (end_tag_at tag units))

abbrev pub raw_character : List ℕ → List ℕ → R (List ℕ)
raw_character tag units = do
  t ← token (raw_goes tag units)
  done (units ++ encode_utf16 t.code)

-- The content before the end tag whose `>` stands at the byte `at`. The characters of an end tag are of one byte and of one
-- unit each, so it begins as many bytes before its `>` as it has units.
abbrev pub before_end_tag : List ℕ → Option ℕ → ℕ → RawContent
before_end_tag units None at = record { text = []; end = at }
before_end_tag units (Some n) at = record { text = take n units; end = at - (length units - n) }

-- Raw = {any} </ Name {white} >   in the element that begins at the byte `tag_at`
unfoldable pub raw : ℕ → List ℕ → R RawContent
raw tag_at tag = do
  units ← again (raw_goes tag) (raw_character tag) []
  t ← need is_gt (λ _. fault Unclosed tag_at)
  done (before_end_tag units (end_tag_at tag units) t.at)
