use Rattle.std.proofs.Common.{map, take}
use Rattle.cell_heap.specs.Base.{heap_of}
use Rattle.cell_heap.specs.StartParts.{global_of}
use Rattle.cell_heap.proofs.Putting.{kinds_kept, item_put, row_more}
use Rattle.cell_heap.proofs.base.Base.bind_globals.Goals as goal

pub bind-requires : goal.bind-requires
bind-requires c =
    let kinds = kinds_kept (heap_of c.args.self.now) (heap_of c.loop-global.self) (map global_of (take c.loop-global.global-index c.args.globals.now)) c.requires.kinds c.loop-global.invariant in
    item_put global_of c.args.globals.now c.loop-global.global-index _ _ kinds
    c.requires.allowed c.loop-global-test.true

pub loop-global-preserved : goal.loop-global-preserved
loop-global-preserved c =
    row_more global_of c.args.globals.now c.loop-global.global-index _ _ _ _ c.loop-global-test.true c.loop-global.invariant c.in_ok-bind.ensures
