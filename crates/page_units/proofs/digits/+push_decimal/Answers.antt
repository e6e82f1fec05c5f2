use Rattle.std.proofs.Common.{arith, append_assoc}
use Rattle.std.proofs.lemmas.Fmt.{decimal_digit, decimal_step}
use Rattle.std.proofs.lemmas.Grind.{common_steps}
use Rattle.page_units.proofs.digits.+push_decimal.Goals as goal
use Rattle.page_units.proofs.digits.+push_decimal.Goals.{then-number-ge10+in_ok-push_decimal, else-number-ge10}

pub returns : goal.returns
returns t c =
    elim c.if-number-ge10.branch [
      | then-number-ge10+in_ok-push_decimal w ↦
          let step = decimal_step c.args.number (omega arith) (omega arith) in
          grind (arith, common_steps, step, append_assoc)
      | else-number-ge10 w ↦
          let one = decimal_digit c.args.number (omega arith) in
          grind (arith, common_steps, one)
    ]
