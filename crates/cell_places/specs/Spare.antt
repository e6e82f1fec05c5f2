-- Sound heaps with weight that was charged and isn't used yet (this project's own).
use Rattle.std.specs.Prelude.{◌+◌, ℕ}
use Rattle.cell_places.specs.Heap.{Heap, weight_left}
use Rattle.cell_places.specs.Sound.{SumsWith, IsSound}

-- A charge gives as much credit as its weight. A made cell, a listener, a timer or a guess that is added takes one, so
-- each of the four sums stays within the bound also when the credit is added.
pub record Spare (codes credit : ℕ) (H : Heap) : Type 0 where
  pub sound : IsSound codes H
  pub sums : SumsWith (weight_left H + credit) 3999999999 H
