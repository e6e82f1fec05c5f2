use Rattle.cell_places.specs.View.{ground, uncounted}
use Rattle.cell_places.proofs.ChangeNumbersKept.{KeepsNumber-run}
use Rattle.cell_heap.specs.Base.{heap_of}
use Rattle.cell_heap.proofs.base.BaseCells.number.Goals as goal

pub returns-clause-kept : goal.returns-clause-kept
returns-clause-kept c = KeepsNumber-run c.args._cell (ground (heap_of c.args.self.now) uncounted)
