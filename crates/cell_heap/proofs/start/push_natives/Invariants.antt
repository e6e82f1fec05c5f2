use Rattle.std.proofs.Common.{◌≡◌, ◌++◌}
use Rattle.cell_places.specs.Start.{natives}
use Rattle.cell_heap.proofs.start.push_natives.Given as goal

abbrev pub invariant-loop-which : goal.invariant-loop-which
invariant-loop-which l = l.kinds.items ≡ l.initial.kinds.items ++ natives 0 l.which
