-- Names in any case.
use Rattle.std.proofs.Common.{◌≡◌, ◌<◌, ℕ, zero, suc, false, List, [], ◌∷◌, length, refl, arith}
use Rattle.std.specs.Prelude.{drop}
use Rattle.page_reader.specs.Raw.{is_called}

-- Nothing is called as a name of which something is left.
pub called_short : (cs : List ℕ) (i : ℕ) → i < length cs → is_called (drop i cs) [] ≡ false
called_short [] i h = absurd (omega arith)
called_short (c ∷ cs) zero h = refl
called_short (c ∷ cs) (suc i) h = called_short cs i (omega arith)
