use Rattle.std.proofs.Common.{◌≡◌, take}
use Rattle.std.specs.List.{flat_map}
use Rattle.cell_places.specs.Acts.{after}
use Rattle.cell_places.specs.StartRows.{puts}
use Rattle.cell_heap.specs.Base.{heap_of}
use Rattle.cell_heap.specs.StartParts.{fault_of}
use Rattle.cell_heap.proofs.base.Base.put_faults.Given as goal

abbrev pub invariant-loop-fault : goal.invariant-loop-fault
invariant-loop-fault l = heap_of l.self ≡ after (heap_of l.fn.self) (puts (flat_map fault_of (take l.fault-index l.fn.faults)))
