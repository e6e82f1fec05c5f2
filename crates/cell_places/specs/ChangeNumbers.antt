-- What the change numbers of a cell say of a run (this project's own).
use Rattle.std.specs.Prelude.{◌≡◌, ℕ, ◌≤◌, Some, None}
use Rattle.page_units.specs.declared.value.CellName.{CellName}
use Rattle.cell_places.specs.declared.place.Slot.{Slot}
use Rattle.cell_places.specs.Heap.{place}
use Rattle.cell_places.specs.View.{View, heap, number_of}

-- Where a number was there and is, it hasn't fallen, and where it is the same, so is each answer at the cell. Where none
-- was, none is.
pub record KeepsNumber (n : CellName) (v w : View) : Type 0 where
  pub rises : (a b : ℕ) → number_of v n ≡ Some a → number_of w n ≡ Some b → a ≤ b
  pub same : (a : ℕ) → number_of v n ≡ Some a → number_of w n ≡ Some a → (slot : Slot) → (heap w).at (place n slot) ≡ (heap v).at (place n slot)
  pub lost : number_of v n ≡ None → number_of w n ≡ None
