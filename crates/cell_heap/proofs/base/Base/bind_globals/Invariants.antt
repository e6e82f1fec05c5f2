use Rattle.std.proofs.Common.{◌≡◌, map, take}
use Rattle.cell_places.specs.Acts.{after}
use Rattle.cell_places.specs.StartRows.{puts}
use Rattle.cell_heap.specs.Base.{heap_of}
use Rattle.cell_heap.specs.StartParts.{global_of}
use Rattle.cell_heap.proofs.base.Base.bind_globals.Given as goal

abbrev pub invariant-loop-global : goal.invariant-loop-global
invariant-loop-global l = heap_of l.self ≡ after (heap_of l.fn.self) (puts (map global_of (take l.global-index l.fn.globals)))
