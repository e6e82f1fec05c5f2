use Rattle.std.proofs.Common.{ap, ◌∙◌}
use Rattle.std.proofs.lemmas.Result.{IfOk-weaker}
use Rattle.serde_json.specs.Written.{has_float, compact_text}
use Rattle.wire_replies.proofs.BodiesLemmas.{tick_has_no_float}
use Rattle.wire_replies.proofs.bodies.tick_body.Goals as goal

pub returns : goal.returns
returns c =
    let e = c.in_ok-tick_value.ensures in
    let f = tick_has_no_float c.args.ends.now c.args.fired c.args.lines.now c.args.outcome in
    IfOk-weaker c.to_vec.result _ _ (λ b h. h (ap has_float e ∙ f) ∙ ap compact_text e) c.to_vec.ensures.text
