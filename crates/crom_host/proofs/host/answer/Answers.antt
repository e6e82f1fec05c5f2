use Rattle.std.proofs.lemmas.Result.{IfOk-weaker}
use Rattle.crom_host.specs.Replying.{refused}
use Rattle.crom_host.specs.Plain as p
use Rattle.crom_host.proofs.Obeying.{answered_so}
use Rattle.crom_host.proofs.Replied.{is_of}
use Rattle.crom_host.proofs.host.answer.Goals as goal

pub returns-in-Ok-clause-answered : goal.returns-in-Ok-clause-answered
returns-in-Ok-clause-answered c =
    IfOk-weaker c.obey.result _ _ (λ reply s. (s.0, answered_so _ _ _ _ _ _ c.in-Ok.is (p.whole _ _ _ _ _ s.0 s.1), s.2)) c.obey.ensures.step

pub returns-in-Err-clause-answered : goal.returns-in-Err-clause-answered
returns-in-Err-clause-answered c =
    let made = c.refusal_reply.ensures in
    IfOk-weaker c.refusal_reply.result _ _ (λ reply is. (refused c.in-Err.refusal, answered_so _ _ _ _ _ _ c.in-Err.is (p.refusal _ _), is))
    (is_of c.refusal_reply.result (refused c.in-Err.refusal) made.status made.html made.allow made.body)
