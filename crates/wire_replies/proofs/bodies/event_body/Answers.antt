use Rattle.std.proofs.Common.{ap, ◌∙◌}
use Rattle.std.proofs.lemmas.Result.{IfOk-weaker}
use Rattle.serde_json.specs.Written.{has_float, compact_text}
use Rattle.wire_replies.proofs.BodiesLemmas.{event_has_no_float}
use Rattle.wire_replies.proofs.bodies.event_body.Goals as goal

pub returns : goal.returns
returns c =
    let e = c.in_ok-event_value.ensures in
    let f = event_has_no_float c.args.ends.now c.args.handled c.args.lines.now c.args.outcome c.args.prevented in
    IfOk-weaker c.to_vec.result _ _ (λ b h. h (ap has_float e ∙ f) ∙ ap compact_text e) c.to_vec.ensures.text
