use Rattle.std.proofs.Common.{◌≡◌, map, take}
use Rattle.cell_places.specs.Acts.{after}
use Rattle.cell_places.specs.StartRows.{puts, prototype_row}
use Rattle.cell_heap.specs.Base.{heap_of}
use Rattle.cell_heap.proofs.base.Base.put_prototype.Given as goal

abbrev pub invariant-loop-cell : goal.invariant-loop-cell
invariant-loop-cell l = heap_of l.self ≡ after (heap_of l.fn.self) (puts (map (prototype_row l.fn.prototype) (take l.cell-index l.fn.cells)))
