use Rattle.cell_heap.proofs.StartKinds.{natives_pushed}
use Rattle.cell_heap.proofs.start.push_natives.Goals as goal

pub loop-which-preserved : goal.loop-which-preserved
loop-which-preserved c =
    natives_pushed _ _ _ c.loop-which.which c.loop-which.invariant c.in_ok-push.ensures.items
