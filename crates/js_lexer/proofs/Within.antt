-- Characters within a bound are within each larger one.
use Rattle.std.proofs.Common.{◌≤◌, ℕ, List, [], ◌∷◌, arith}
use Rattle.placed_chars.specs.declared.chars.Char.{Char}
use Rattle.placed_chars.specs.Chars.{AreWithin}

pub more_within : (n m : ℕ) (ts : List Char) → n ≤ m → AreWithin n ts → AreWithin m ts
more_within n m [] h k = tt
more_within n m (t ∷ ts) h k = (omega (arith, k.0), more_within n m ts h k.1)
