-- Digits of texts and of numbers.
use Rattle.std.proofs.Common.{◌≡◌, ℕ, Bool, false, ◌==◌, List, length, arith}
use Rattle.std.proofs.lemmas.Bool.Decides.{nat_tests}
use Rattle.std.specs.List.{list_all}
use Rattle.js_ops.specs.TextNumbers.{is_some_digits}

-- digits of which there is one at least
pub some_digits : (p : ℕ → Bool) (xs : List ℕ) (r : Bool) → (length xs == 0) ≡ false → r ≡ list_all p xs → r ≡ is_some_digits p xs
some_digits p xs r some e = grind (arith, nat_tests)
