use Rattle.std.proofs.Common.{◌≡◌, map, take}
use Rattle.cell_places.specs.Acts.{after}
use Rattle.cell_places.specs.StartRows.{puts}
use Rattle.cell_heap.specs.Base.{heap_of}
use Rattle.cell_heap.specs.StartParts.{method_of}
use Rattle.cell_heap.proofs.base.Base.put_methods.Given as goal

abbrev pub invariant-loop-method : goal.invariant-loop-method
invariant-loop-method l = heap_of l.self ≡ after (heap_of l.fn.self) (puts (map method_of (take l.method-index l.fn.methods)))
