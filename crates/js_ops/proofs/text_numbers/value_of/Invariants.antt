use Rattle.std.proofs.Common.{◌≡◌, ◌≤◌, take}
use Rattle.std.specs.Str.Parse.{digits_value}
use Rattle.page_units.specs.Numbers.{greatest_number}
use Rattle.js_ops.proofs.text_numbers.value_of.Given as goal

abbrev pub invariant-loop-unit : goal.invariant-loop-unit
invariant-loop-unit l = (l.value ≡ digits_value l.radix (take l.unit-index l.digits)) × (l.value ≤ greatest_number)
