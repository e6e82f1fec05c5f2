-- The first character of a text, as a list of characters has it.
use Rattle.std.proofs.Common.{◌≡◌, ℕ, ◌+◌, List, [], ◌∷◌, ◌++◌, drop, Some, None, refl, sym, ap}
use Rattle.std.specs.Prelude.{slice_get, encode_utf8}
use Rattle.std.specs.Str.{chars, IsUtf8}
use Rattle.std.specs.Char.{len_utf8}
use Rattle.std.proofs.lemmas.Str.{chars_past_char}
use Rattle.grammar.specs.Grammar.{first}
use Rattle.placed_chars.specs.declared.chars.Char.{Char}
use Rattle.placed_chars.specs.Chars.{placed, stop}

abbrev pub ended : ℕ → Char
ended at = record { code = 0x11_0000; at = at; past = at }

abbrev pub standing : ℕ → ℕ → Char
standing at c = record { code = c; at = at; past = at + len_utf8 c }

on_some : (at : ℕ) (cs : List ℕ) (c : ℕ) → Some c ≡ slice_get cs 0 → first (placed at cs) stop ≡ standing at c
on_some at [] c e = cc
on_some at (d ∷ ds) c e = let same : c ≡ d = cc in ap (λ (x : ℕ). standing at x) (sym same)

on_none : (at : ℕ) (cs : List ℕ) → None ≡ slice_get cs 0 → cs ≡ []
on_none at [] e = refl
on_none at (d ∷ ds) e = cc

pub here_some : (at : ℕ) (bs : List ℕ) (c : ℕ) → Some c ≡ slice_get (chars bs) 0 → first (placed at (chars bs)) stop ≡ standing at c
here_some at bs c e = on_some at (chars bs) c e

pub here_none : (at : ℕ) (bs : List ℕ) → None ≡ slice_get (chars bs) 0 → first (placed at (chars bs)) stop ≡ ended at
here_none at bs e = ap (λ (cs : List ℕ). first (placed at cs) stop) (on_none at (chars bs) e)

pub past_some : (at : ℕ) (bs rest : List ℕ) (c : ℕ) → IsUtf8 bs → bs ≡ encode_utf8 c ++ rest → placed (at + len_utf8 c) (chars rest) ≡ drop 1 (placed at (chars bs))
past_some at bs rest c u e = sym (ap (λ (cs : List ℕ). drop 1 (placed at cs)) (chars_past_char bs rest c u e))

pub past_none : (at : ℕ) (bs : List ℕ) → None ≡ slice_get (chars bs) 0 → drop 1 (placed at (chars bs)) ≡ []
past_none at bs e = ap (λ (cs : List ℕ). drop 1 (placed at cs)) (on_none at (chars bs) e)

pub code_some : (at : ℕ) (bs : List ℕ) (c : ℕ) → Some c ≡ slice_get (chars bs) 0 → (first (placed at (chars bs)) stop).code ≡ c
code_some at bs c e = ap (λ (t : Char). t.code) (here_some at bs c e)
