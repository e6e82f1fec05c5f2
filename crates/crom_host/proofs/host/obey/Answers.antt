use Rattle.std.proofs.Common.{refl}
use Rattle.std.proofs.lemmas.Result.{IfOk-weaker}
use Rattle.crom_host.specs.Replying.{halted, not_built}
use Rattle.crom_host.specs.Plain as p
use Rattle.crom_host.proofs.Obeying.{step_same}
use Rattle.crom_host.proofs.Replied.{is_of}
use Rattle.crom_host.proofs.host.obey.Goals as goal

pub returns-in-Dom-clause-step : goal.returns-in-Dom-clause-step
returns-in-Dom-clause-step c =
    IfOk-weaker c.serve.result _ _ (λ reply s. (s.0, step_same _ _ _ _ _ _ c.in-Dom.is c.serve.ensures.same (p.dom _ s.0 s.1), s.2)) c.serve.ensures.serves

pub returns-in-Node-clause-step : goal.returns-in-Node-clause-step
returns-in-Node-clause-step c =
    IfOk-weaker c.serve_element.result _ _ (λ reply s. (s.0, step_same _ _ _ _ _ _ c.in-Node.is c.serve_element.ensures.same (p.node _ _ s.0 s.1), s.2)) c.serve_element.ensures.step

pub returns-in-Halt-clause-step : goal.returns-in-Halt-clause-step
returns-in-Halt-clause-step c =
    let made = c.halted_reply.ensures in
    IfOk-weaker c.halted_reply.result _ _ (λ reply is. (halted, step_same _ _ _ _ _ _ c.in-Halt.is refl (p.halt _), is))
    (is_of c.halted_reply.result halted made.status made.html made.allow made.body)

pub returns-in-Load-clause-step : goal.returns-in-Load-clause-step
returns-in-Load-clause-step c =
    IfOk-weaker c.not_built.result _ _ (λ reply is. (not_built, step_same _ _ _ _ _ _ c.in-Load.is refl (p.load _), is)) c.not_built.ensures.is

pub returns-in-Stats-clause-step : goal.returns-in-Stats-clause-step
returns-in-Stats-clause-step c =
    IfOk-weaker c.not_built-in-Stats.result _ _ (λ reply is. (not_built, step_same _ _ _ _ _ _ c.in-Stats.is refl (p.stats _), is)) c.not_built-in-Stats.ensures.is

pub returns-in-Event-clause-step : goal.returns-in-Event-clause-step
returns-in-Event-clause-step c =
    IfOk-weaker c.not_built-in-Event.result _ _ (λ reply is. (not_built, step_same _ _ _ _ _ _ c.in-Event.is refl (p.event _ _), is)) c.not_built-in-Event.ensures.is

pub returns-in-Tick-clause-step : goal.returns-in-Tick-clause-step
returns-in-Tick-clause-step c =
    IfOk-weaker c.not_built-in-Tick.result _ _ (λ reply is. (not_built, step_same _ _ _ _ _ _ c.in-Tick.is refl (p.tick _ _), is)) c.not_built-in-Tick.ensures.is
