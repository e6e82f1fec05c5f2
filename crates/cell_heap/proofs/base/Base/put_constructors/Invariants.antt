use Rattle.std.proofs.Common.{◌≡◌, take}
use Rattle.std.specs.List.{flat_map}
use Rattle.cell_places.specs.Acts.{after}
use Rattle.cell_places.specs.StartRows.{puts}
use Rattle.cell_heap.specs.Base.{heap_of}
use Rattle.cell_heap.specs.StartParts.{constructor_of}
use Rattle.cell_heap.proofs.base.Base.put_constructors.Given as goal

abbrev pub invariant-loop-constructor : goal.invariant-loop-constructor
invariant-loop-constructor l = heap_of l.self ≡ after (heap_of l.fn.self) (puts (flat_map constructor_of (take l.constructor-index l.fn.constructors)))
