use Rattle.std.proofs.Common.{◌≡◌, drop}
use Rattle.page_reader.specs.Raw as form
use Rattle.page_reader.proofs.raw.is_called.Given as goal

abbrev pub invariant-loop-letter : goal.invariant-loop-letter
invariant-loop-letter l = form.is_called l.fn.name l.fn.units ≡ form.is_called (drop l.letter-index l.fn.name) l.rest
