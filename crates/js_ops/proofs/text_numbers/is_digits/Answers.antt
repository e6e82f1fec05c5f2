use Rattle.std.proofs.Common.{◌≡◌, rules, tests, arith}
use Rattle.std.specs.List.{list_all}
use Rattle.std.specs.Char.{is_ascii_digit}
use Rattle.std.proofs.lemmas.Iterator.{YieldsList-from_slice}
use Rattle.std.proofs.lemmas.Iterator.Search.{all_from_yields_List}
use Rattle.std.proofs.lemmas.Bool.Decides.{nat_tests}
use Rattle.js_ops.proofs.Digits.{some_digits}
use Rattle.js_ops.proofs.text_numbers.is_digits.Goals as goal

pub returns-then-not-is_empty : goal.returns-then-not-is_empty
returns-then-not-is_empty c =
    let xs = c.args.units.now in
    let each : c.all.result ≡ list_all is_ascii_digit xs = all_from_yields_List is_ascii_digit _ _ c.all.result c.all.ensures.ran (YieldsList-from_slice xs cc) (λ x b q k. search (rules, tests)) in
    some_digits is_ascii_digit xs c.all.result (grind (arith, nat_tests)) each
