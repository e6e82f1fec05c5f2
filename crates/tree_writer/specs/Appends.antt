-- What appending a text under a bound leaves.
use Rattle.std.specs.Prelude.{◌≡◌, ◌<◌, ◌≤◌, ℕ, List, ◌++◌, length, Bool, true, false}

-- the text stands after the old bytes, and all are at most `most`; or they would be more
abbrev pub Appended : (whole : Bool) → (most : ℕ) → (old new text : List ℕ) → Type 0
Appended true most old new text = (new ≡ old ++ text) × (length new ≤ most)
Appended false most old new text = most < length (old ++ text)
