use Rattle.std.proofs.Common.{◌≡◌, ◌+◌, false, nat_le, arith}
use Rattle.std.specs.Str.Parse.{digits_value}
use Rattle.std.proofs.lemmas.Bool.{lt-leb}
use Rattle.std.proofs.lemmas.Int.Digits.{digits_value_more}
use Rattle.std.proofs.lemmas.Str.Parse.{digits_value-take-le}
use Rattle.std.proofs.lemmas.Grind.{common_steps}
use Rattle.page_units.specs.Numbers.{greatest_number}
use Rattle.js_ops.proofs.text_numbers.value_of.Goals as goal

-- the digits so far are past the bound, and all are no less
pub returns-then-value : goal.returns-then-value
returns-then-value c =
    let more = digits_value_more c.args.radix c.args.digits.now c.loop-unit.unit-index (omega arith) in
    let least = digits_value-take-le c.args.radix c.args.digits.now (c.loop-unit.unit-index + 1) c.requires.least in
    let past : nat_le (digits_value c.args.radix c.args.digits.now) greatest_number ≡ false = lt-leb _ _ (grind (arith, common_steps, more, least)) in
    rw past

pub loop-unit-preserved : goal.loop-unit-preserved
loop-unit-preserved c =
    let more = digits_value_more c.args.radix c.args.digits.now c.loop-unit.unit-index (omega arith) in
    (grind (arith, common_steps, more), omega arith)
