use Rattle.std.proofs.Common.{Err, FitsSigned, w64, rules, refl, ap, sym, subst, ◌∙◌}
use Rattle.std.proofs.lemmas.Int.{to_z-of_z}
use Rattle.page_units.specs.declared.value.Value.TheVariants as v
use Rattle.js_ops.specs.declared.fault.OpFault.TheVariants as f
use Rattle.js_ops.specs.Answers.{Answers}
use Rattle.js_ops.specs.Conversions.{number}
use Rattle.js_ops.specs.Operators.{value}
use Rattle.js_ops.specs.Parts.{number_op}
use Rattle.js_ops.proofs.Givens.{given_number, given_none, on_numbers_is}
use Rattle.js_ops.proofs.operators.on_numbers.Goals as goal

pub returns-in-None : goal.returns-in-None
returns-in-None c =
    let fits : FitsSigned w64 c.in_ok-x.x = search rules in
    let fits' : FitsSigned w64 c.in_ok-y.y = search rules in
    let both = on_numbers_is (number c.args.a.now) (number c.args.b.now) (number_op c.args.op) c.in_ok-x.x c.in_ok-y.y c.in_ok-x.ensures c.in_ok-y.ensures in
    let none = given_none _ (simp to_z-of_z at c.in-None.ensures) in
    let meter = c.args.meter.now in
    subst (λ given. Answers given (Err f.NotWhole) meter meter) (sym (both ∙ none)) refl

pub returns-in-Some : goal.returns-in-Some
returns-in-Some c =
    let fits : FitsSigned w64 c.in_ok-x.x = search rules in
    let fits' : FitsSigned w64 c.in_ok-y.y = search rules in
    let fits'' : FitsSigned w64 c.in-Some.number = search rules in
    let both = on_numbers_is (number c.args.a.now) (number c.args.b.now) (number_op c.args.op) c.in_ok-x.x c.in_ok-y.y c.in_ok-x.ensures c.in_ok-y.ensures in
    let some = given_number _ c.in-Some.number (simp to_z-of_z at c.in-Some.ensures) in
    let same = ap (λ z. value 0 (v.Num z)) (sym (to_z-of_z w64 c.in-Some.number fits'')) in
    subst (λ given. Answers given c.free.result c.args.meter.now c.free.new.meter) (sym (both ∙ some ∙ same)) c.free.ensures
