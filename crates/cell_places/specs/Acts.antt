-- What a run did, one act after another.
use Rattle.std.specs.Prelude.{◌≡◌, ℕ, ◌+◌, List, [], ◌∷◌, ◌++◌, Some, slice_get}
use Rattle.page_units.specs.declared.value.CellName.{CellName}
use Rattle.cell_places.specs.declared.place.Place.{Place}
use Rattle.cell_places.specs.declared.answer.Answer.{Answer}
use Rattle.cell_places.specs.declared.kind.CellKind.{CellKind}
use Rattle.cell_places.specs.Heap.{Heap, put_at, next}
use Rattle.cell_places.specs.Outward.{Outward}

pub data Act : Type 0 where
  asked : Place → Answer → Act
  looked : CellName → CellKind → Act
  placed : Place → Answer → Act
  made : CellName → CellKind → Act
  charged : ℕ → Act
  ticked : ℕ → Act
  entered : Act
  left : Act
  wrote : Outward → Act
  -- refused, and last
  not_charged : ℕ → Act
  not_ticked : ℕ → Act
  not_entered : Act

-- the heap after an act
abbrev pub moved : Heap → Act → Heap
moved H (placed p a) = record H { at = put_at H.at p a }
moved H (made n k) = record H { kinds = H.kinds ++ k ∷ [] }
moved H (charged w) = record H { spent = H.spent + w }
moved H (asked p a) = H
moved H (looked n k) = H
moved H (ticked n) = H
moved H entered = H
moved H left = H
moved H (wrote o) = H
moved H (not_charged w) = H
moved H (not_ticked n) = H
moved H not_entered = H

-- the heap that stands after them all
abbrev pub after : Heap → List Act → Heap
after H [] = H
after H (a ∷ more) = after (moved H a) more

-- the answer, the kind of a cell that is there, or the made name is the heap's
abbrev pub FitsOne : Heap → Act → Type 0
FitsOne H (asked p a) = a ≡ H.at p
FitsOne H (looked n k) = slice_get H.kinds n.0 ≡ Some k
FitsOne H (made n k) = n ≡ next H
FitsOne H (placed p a) = Unit {0}
FitsOne H (charged w) = Unit {0}
FitsOne H (ticked n) = Unit {0}
FitsOne H entered = Unit {0}
FitsOne H left = Unit {0}
FitsOne H (wrote o) = Unit {0}
FitsOne H (not_charged w) = Unit {0}
FitsOne H (not_ticked n) = Unit {0}
FitsOne H not_entered = Unit {0}

-- each act fits the heap after those before it
abbrev pub Fits : Heap → List Act → Type 0
Fits H [] = Unit {0}
Fits H (a ∷ more) = FitsOne H a × Fits (moved H a) more
