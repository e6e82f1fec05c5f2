use Rattle.std.proofs.Common.{◌≡◌, ◌++◌, drop}
use Rattle.page_reader.specs.Page as pages
use Rattle.page_reader.proofs.whole.numbered.Given as goal

abbrev pub invariant-loop-index : goal.invariant-loop-index
invariant-loop-index l = l.scripts.items ++ pages.numbered l.index (drop l.index l.fn.slices) ≡ pages.numbered 0 l.fn.slices
