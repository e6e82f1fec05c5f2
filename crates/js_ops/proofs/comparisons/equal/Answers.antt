use Rattle.std.proofs.Common.{◌≡◌, true, false, rules, sym, subst, arith}
use Rattle.js_ops.specs.Answers.{Answers}
use Rattle.js_ops.specs.Conversions.{is_primitive}
use Rattle.js_ops.specs.Operators.{is_nothing}
use Rattle.js_ops.specs.Parts.{truth_value}
use Rattle.js_ops.proofs.Order.{equal_is}
use Rattle.js_ops.proofs.comparisons.equal.Goals as goal

pub returns : goal.returns
returns c =
    let a = c.args.a.now in
    let b = c.args.b.now in
    let there : is_nothing a ≡ false = grind arith in
    let there' : is_nothing b ≡ false = grind arith in
    let primitive : is_primitive a ≡ true = search rules in
    subst (λ g. Answers g (truth_value c.compared.result) c.args.meter.now c.compared.new.meter) (sym (equal_is a b there there' primitive)) c.compared.ensures
