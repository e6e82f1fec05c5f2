use Rattle.std.proofs.Common.{◌≡◌, Err, Some, subst, sym, ap, ◌∙◌, true, false}
use Rattle.std.proofs.lemmas.Result.{IfOk-weaker}
use Rattle.std.specs.Str.{IsUtf8, bytes_eq}
use Rattle.wire_asks.specs.declared.asked.Refusal.TheVariants.{BadMethod}
use Rattle.wire_asks.specs.Asking.{asked_at, asked_by}
use Rattle.wire_asks.specs.Routes.{path_of, route_of, method_of, method_name}
use Rattle.wire_asks.proofs.Judged.{no_text, other_method, asks, differs, agrees}
use Rattle.wire_asks.proofs.routes.Routes.asked.Goals as goal

pub returns-in_default : goal.returns-in_default
returns-in_default c =
    no_text c.args.method.now c.args.target.now c.args.body.now (subst (λ p. IsUtf8 p → ⊥) c.before_query.ensures c.in_default.ensures.cases.0)

pub returns-then-ne : goal.returns-then-ne
returns-then-ne c =
    let path = c.in-Ok.ensures.cases.0 ∙ c.before_query.ensures in
    let utf8 = subst IsUtf8 c.before_query.ensures c.in-Ok.ensures.cases.1 in
    let route : Some c.in-Some.route ≡ route_of (path_of c.args.target.now) = c.in-Some.ensures ∙ ap route_of path in
    let name : c.as_bytes.result.now ≡ method_name (method_of c.in-Some.route) = c.as_bytes.ensures.value ∙ c.name.ensures ∙ ap method_name c.method-takes.ensures in
    let other = subst (λ n. bytes_eq c.args.method.now n ≡ false) name (differs _ c.if-ne.ensures) in
    subst (λ m. Err (BadMethod m) ≡ asked_by c.args.method.now c.args.target.now c.args.body.now) (sym c.method-takes.ensures)
    (other_method c.args.method.now c.args.target.now c.args.body.now c.in-Some.route utf8 route other)

pub returns : goal.returns
returns c =
    let path = c.in-Ok.ensures.cases.0 ∙ c.before_query.ensures in
    let utf8 = subst IsUtf8 c.before_query.ensures c.in-Ok.ensures.cases.1 in
    let route : Some c.in-Some.route ≡ route_of (path_of c.args.target.now) = c.in-Some.ensures ∙ ap route_of path in
    let name : c.as_bytes.result.now ≡ method_name (method_of c.in-Some.route) = c.as_bytes.ensures.value ∙ c.name.ensures ∙ ap method_name c.method-takes.ensures in
    let same = subst (λ n. bytes_eq c.args.method.now n ≡ true) name (agrees _ c.if-ne.ensures) in
    IfOk-weaker c.asked_at.result _ _
    (λ judged h. h ∙ ap (λ p. asked_at c.in-Some.route p c.args.body.now) path
    ∙ asks c.args.method.now c.args.target.now c.args.body.now c.in-Some.route utf8 route same)
    c.asked_at.ensures
