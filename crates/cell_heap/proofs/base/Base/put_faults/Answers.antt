use Rattle.std.proofs.Common.{take}
use Rattle.std.specs.List.{flat_map}
use Rattle.cell_heap.specs.Base.{heap_of}
use Rattle.cell_places.specs.Start.{start_kinds}
use Rattle.cell_places.proofs.EachPut.{Every-at}
use Rattle.cell_heap.specs.StartParts.{CanPutAll, fault_of}
use Rattle.cell_heap.proofs.Putting.{kinds_kept, rows_more}
use Rattle.cell_heap.proofs.base.Base.put_faults.Goals as goal

pub put_fault-requires-clause-kinds : goal.put_fault-requires-clause-kinds
put_fault-requires-clause-kinds c = kinds_kept (heap_of c.args.self.now) (heap_of c.loop-fault.self) (flat_map fault_of (take c.loop-fault.fault-index c.args.faults.now)) c.requires.kinds c.loop-fault.invariant

pub put_fault-requires-clause-allowed : goal.put_fault-requires-clause-allowed
put_fault-requires-clause-allowed c =
    Every-at (λ f. CanPutAll start_kinds (fault_of f)) c.args.faults.now c.loop-fault.fault-index _ c.requires.allowed c.loop-fault-test.true

pub loop-fault-preserved : goal.loop-fault-preserved
loop-fault-preserved c =
    rows_more fault_of c.args.faults.now c.loop-fault.fault-index _ _ _ _ c.loop-fault-test.true c.loop-fault.invariant c.in_ok-put_fault.ensures
