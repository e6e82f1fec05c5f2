use Rattle.std.proofs.Common.{◌+◌, ◌/◌, ◌%◌, length, decimal, ap, sym, ◌∙◌, arith}
use Rattle.std.proofs.lemmas.Fmt.{decimal_digit, decimal_step, length-decimal-le}
use Rattle.std.proofs.lemmas.List.{length_push}
use Rattle.page_units.proofs.digits.+decimal_len.Goals as goal

pub returns-then-number-lt10-clause-count : goal.returns-then-number-lt10-clause-count
returns-then-number-lt10-clause-count t c = sym (ap length (decimal_digit c.args.number (omega arith)))

pub returns-else-number-lt10-clause-count : goal.returns-else-number-lt10-clause-count
returns-else-number-lt10-clause-count t c =
    let n = c.args.number in
    let step = ap length (decimal_step n (omega arith) (omega arith)) ∙ length_push (decimal (n / 10)) (48 + n % 10) in
    omega (arith, step, c.decimal_len.ensures.count)

pub returns-else-number-lt10-clause-bound : goal.returns-else-number-lt10-clause-bound
returns-else-number-lt10-clause-bound t c =
    let n = c.args.number in
    let step = ap length (decimal_step n (omega arith) (omega arith)) ∙ length_push (decimal (n / 10)) (48 + n % 10) in
    omega (arith, step, c.decimal_len.ensures.count, length-decimal-le 20 n (omega arith) (omega arith) (omega arith))
