use Rattle.std.proofs.Common.{◌≤◌, ◌<◌, ℕ, length, ap, subst}
use Rattle.std.proofs.lemmas.Result.{IfOk-weaker}
use Rattle.http_wire.specs.Reply as written
use Rattle.crom_host.specs.Replying.{tree, long_text}
use Rattle.crom_host.specs.Plain as p
use Rattle.crom_host.proofs.Replied.{is_of}
use Rattle.crom_host.proofs.host.serve.Goals as goal

pub returns-in-Some-clause-serves : goal.returns-in-Some-clause-serves
returns-in-Some-clause-serves c =
    let text = rw c.in-Some.is at c.in_ok-text.ensures.text in
    let is = c.tree_reply.ensures.value in (
      tree c.in-Some.text.items,
      p.text c.in-Some.text.items text.0 (subst (λ (most : ℕ). length c.in-Some.text.items ≤ most) c.number.ensures text.1),
      record {
        code = ap (λ (w : written.Reply). w.status) is;
        html = ap (λ (w : written.Reply). w.html) is;
        allowed = ap (λ (w : written.Reply). w.allow) is;
        text = ap (λ (w : written.Reply). w.body.items) is;
      },
    )

pub returns-in-None-clause-serves : goal.returns-in-None-clause-serves
returns-in-None-clause-serves c =
    let text = rw c.in-None.is at c.in_ok-text.ensures.text in
    let long = subst (λ (most : ℕ). most < length text.0) c.number.ensures text.2 in
    let made = c.long_text_reply.ensures in
    IfOk-weaker c.long_text_reply.result _ _ (λ reply is. (long_text, p.long text.0 text.1 long, is))
    (is_of c.long_text_reply.result long_text made.status made.html made.allow made.body)
