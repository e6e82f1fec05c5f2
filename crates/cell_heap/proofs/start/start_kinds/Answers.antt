use Rattle.std.proofs.Common.{take, drop, replicate}
use Rattle.cell_places.specs.declared.kind.CellKind.TheVariants.{Plain}
use Rattle.cell_places.specs.Start.{start_objects, natives}
use Rattle.cell_heap.proofs.StartKinds.{six_parts}
use Rattle.cell_heap.proofs.start.start_kinds.Goals as goal

pub returns : goal.returns
returns c =
    six_parts (take 6 start_objects) (replicate 3 Plain) (take 5 (drop 9 start_objects)) (replicate 7 Plain) (natives 0 89) (replicate 18 Plain)
    _ _ _ _ _ _ _
    c.in_ok-kinds.ensures.items
    c.in_ok-push_roots.ensures
    c.in_ok-push_plain.ensures
    c.in_ok-push_faults.ensures
    c.in_ok-push_plain-2.ensures
    c.in_ok-push_natives.ensures
    c.in_ok-push_plain-3.ensures
