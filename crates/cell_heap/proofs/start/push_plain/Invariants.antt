use Rattle.std.proofs.Common.{◌≡◌, ◌++◌, replicate}
use Rattle.cell_places.specs.declared.kind.CellKind.TheVariants.{Plain}
use Rattle.cell_heap.proofs.start.push_plain.Given as goal

abbrev pub invariant-loop : goal.invariant-loop
invariant-loop l = l.kinds.items ≡ l.initial.kinds.items ++ replicate l.counter Plain
