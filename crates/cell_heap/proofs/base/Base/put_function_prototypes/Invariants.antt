use Rattle.std.proofs.Common.{◌≡◌}
use Rattle.cell_places.specs.Acts.{after}
use Rattle.cell_places.specs.StartRows.{puts, function_prototype_rows}
use Rattle.cell_heap.specs.Base.{heap_of}
use Rattle.cell_heap.proofs.base.Base.put_function_prototypes.Given as goal

abbrev pub invariant-loop-which : goal.invariant-loop-which
invariant-loop-which l = heap_of l.self ≡ after (heap_of l.fn.self) (puts (function_prototype_rows l.which))
