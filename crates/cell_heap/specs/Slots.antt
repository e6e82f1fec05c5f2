-- An ordered map of places, seen as the answers at all places.
use Rattle.std.specs.Prelude.{◌≡◌, ◌≤◌, ℕ, List, length, Option, Some, None}
use Rattle.std.specs.BTreeMap.{BTreeMap, get}
use Rattle.cell_places.specs.declared.place.Place.{Place}
use Rattle.cell_places.specs.declared.answer.Answer.{Answer}
use Rattle.cell_places.specs.declared.answer.Answer.TheVariants.{Absent}
use Rattle.cell_places.specs.declared.kind.CellKind.{CellKind}
use Rattle.cell_places.specs.Places.{place_cmp}
use Rattle.cell_places.specs.Heap.{Heap}

abbrev pub or_absent : Option Answer → Answer
or_absent None = Absent
or_absent (Some a) = a

-- the heap of an ordered map and the rest
abbrev pub heap_from : BTreeMap Place Answer → List CellKind → ℕ → ℕ → Heap
heap_from slots kinds spent limit = record { at = λ p. or_absent (get place_cmp slots p); kinds = kinds; spent = spent; limit = limit }

-- no answer stands at a cell past the count
abbrev pub NothingPast : BTreeMap Place Answer → List CellKind → Type 0
NothingPast slots kinds = (p : Place) → length kinds ≤ p.cell.0 → or_absent (get place_cmp slots p) ≡ Absent
