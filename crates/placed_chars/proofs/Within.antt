-- No character of a text reaches behind its end.
use Rattle.std.proofs.Common.{ℕ, ◌+◌, ◌≤◌, List, [], ◌∷◌, length, drop, ap, arith}
use Rattle.std.specs.Prelude.{encode_utf8}
use Rattle.std.specs.Char.{len_utf8}
use Rattle.std.specs.Str.{chars, IsUtf8, encode_utf8_all}
use Rattle.std.proofs.lemmas.List.{length-append}
use Rattle.std.proofs.lemmas.Str.{encodes-chars, length-encode}
use Rattle.grammar.specs.Grammar.{first}
use Rattle.placed_chars.specs.declared.chars.Char.{Char}
use Rattle.placed_chars.specs.Chars.{placed, stop, AreWithin}

placed_within : (n at : ℕ) (cs : List ℕ) → at + length (encode_utf8_all cs) ≤ n → AreWithin n (placed at cs)
placed_within n at [] h = (omega arith, tt)
placed_within n at (c ∷ cs) h = (omega (arith, length-append (encode_utf8 c) (encode_utf8_all cs), length-encode c), placed_within n (at + len_utf8 c) cs (omega (arith, length-append (encode_utf8 c) (encode_utf8_all cs), length-encode c)))

pub within_text : (bs : List ℕ) → IsUtf8 bs → AreWithin (length bs) (placed 0 (chars bs))
within_text bs u = placed_within (length bs) 0 (chars bs) (omega (arith, ap (λ (xs : List ℕ). length xs) (encodes-chars bs u)))

pub first_within : (n : ℕ) (ts : List Char) → AreWithin n ts → (first ts stop).past ≤ n
first_within n [] h = omega arith
first_within n (t ∷ ts) h = h.0

pub rest_within : (n : ℕ) (ts : List Char) → AreWithin n ts → AreWithin n (drop 1 ts)
rest_within n [] h = tt
rest_within n (t ∷ ts) h = h.1
