use Rattle.std.proofs.Common.{map, take}
use Rattle.cell_heap.specs.Base.{heap_of}
use Rattle.cell_places.specs.StartRows.{prototype_row}
use Rattle.cell_heap.proofs.Putting.{kinds_kept, item_put, row_more}
use Rattle.cell_heap.proofs.base.Base.put_prototype.Goals as goal

pub put_value-requires : goal.put_value-requires
put_value-requires c =
    let kinds = kinds_kept (heap_of c.args.self.now) (heap_of c.loop-cell.self) (map (prototype_row c.args.prototype) (take c.loop-cell.cell-index c.args.cells.now)) c.requires.kinds c.loop-cell.invariant in
    item_put (prototype_row c.args.prototype) c.args.cells.now c.loop-cell.cell-index _ _ kinds
    c.requires.allowed c.loop-cell-test.true

pub loop-cell-preserved : goal.loop-cell-preserved
loop-cell-preserved c =
    row_more (prototype_row c.args.prototype) c.args.cells.now c.loop-cell.cell-index _ _ _ _ c.loop-cell-test.true c.loop-cell.invariant
    c.in_ok-put_value.ensures
