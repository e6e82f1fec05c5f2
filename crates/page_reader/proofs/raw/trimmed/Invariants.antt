use Rattle.std.proofs.Common.{◌≡◌, ◌≤◌, length}
use Rattle.page_reader.specs.Raw as form
use Rattle.page_reader.proofs.raw.trimmed.Given as goal

abbrev pub invariant-spaces : goal.invariant-spaces
invariant-spaces l = record {
  same : form.trimmed l.fn.units (length l.fn.units) ≡ form.trimmed l.fn.units l.count;
  within : l.count ≤ length l.fn.units;
}

abbrev pub decreases-spaces : goal.decreases-spaces
decreases-spaces l = l.count
