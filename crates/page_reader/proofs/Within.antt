-- What is within fewer bytes is within more.
use Rattle.std.proofs.Common.{ℕ, ◌≤◌, List, [], ◌∷◌, arith}
use Rattle.placed_chars.specs.declared.chars.Char.{Char}
use Rattle.placed_chars.specs.Chars.{AreWithin}

pub within_more : (n m : ℕ) (ts : List Char) → n ≤ m → AreWithin n ts → AreWithin m ts
within_more n m [] le h = tt
within_more n m (c ∷ ts) le h = (omega arith, within_more n m ts le h.1)
