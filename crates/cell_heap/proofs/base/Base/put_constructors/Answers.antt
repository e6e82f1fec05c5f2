use Rattle.std.proofs.Common.{take}
use Rattle.std.specs.List.{flat_map}
use Rattle.cell_heap.specs.Base.{heap_of}
use Rattle.cell_places.specs.Start.{start_kinds}
use Rattle.cell_places.proofs.EachPut.{Every-at}
use Rattle.cell_heap.specs.StartParts.{CanPutAll, constructor_of}
use Rattle.cell_heap.proofs.Putting.{kinds_kept, rows_more}
use Rattle.cell_heap.proofs.base.Base.put_constructors.Goals as goal

pub put_constructor-requires-clause-kinds : goal.put_constructor-requires-clause-kinds
put_constructor-requires-clause-kinds c = kinds_kept (heap_of c.args.self.now) (heap_of c.loop-constructor.self) (flat_map constructor_of (take c.loop-constructor.constructor-index c.args.constructors.now)) c.requires.kinds c.loop-constructor.invariant

pub put_constructor-requires-clause-allowed : goal.put_constructor-requires-clause-allowed
put_constructor-requires-clause-allowed c =
    Every-at (λ k. CanPutAll start_kinds (constructor_of k)) c.args.constructors.now c.loop-constructor.constructor-index _ c.requires.allowed
    c.loop-constructor-test.true

pub loop-constructor-preserved : goal.loop-constructor-preserved
loop-constructor-preserved c =
    rows_more constructor_of c.args.constructors.now c.loop-constructor.constructor-index _ _ _ _ c.loop-constructor-test.true
    c.loop-constructor.invariant c.in_ok-put_constructor.ensures
