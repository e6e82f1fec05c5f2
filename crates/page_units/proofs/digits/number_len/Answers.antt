use Rattle.std.proofs.Common.{arith}
use Rattle.std.proofs.lemmas.Fmt.{length-decimal-le}
use Rattle.page_units.proofs.digits.number_len.Goals as goal

pub returns-clause-bound : goal.returns-clause-bound
returns-clause-bound c =
    let size = c.unsigned_abs.result in
    grind (arith, c.from.ensures, c.unsigned_abs.ensures, c.ranges.number.sfits, c.decimal_len.ensures.count, length-decimal-le 19 size)
