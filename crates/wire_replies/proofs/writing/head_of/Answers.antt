use Rattle.std.proofs.Common.{◌∙◌, append_assoc, string_bytes}
use Rattle.std.proofs.lemmas.Result.{IfOk-weaker}
use Rattle.wire_replies.proofs.Heads.{head_and_body}
use Rattle.wire_replies.proofs.writing.head_of.Goals as goal

pub returns : goal.returns
returns c = IfOk-weaker c.format.result _ _
    (λ s h. head_and_body c.args.reply.now c.args.close (string_bytes s) c.phrase_of-phrase.result.now c.allow_line-allow.result.now
    c.media_type-kind.result.now c.close_line-close.result.now c.len-count.result (h ∙ simp append_assoc)
    c.phrase_of-phrase.ensures c.allow_line-allow.ensures c.media_type-kind.ensures (c.len-count.ensures ∙ c.args.reply.now.body.ok.0) c.close_line-close.ensures) c.format.ensures.ok
