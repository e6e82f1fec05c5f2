use Rattle.std.proofs.Common.{rules}
use Rattle.http_wire.specs.declared.request.Request.{Request}
use Rattle.http_wire.specs.Messages.{message_of}
use Rattle.http_wire.proofs.Ahead.{message_taken}
use Rattle.http_wire.proofs.framing.Frames.take.Goals as goal

pub returns : goal.returns
returns c =
    let request : Request = record { method = c.in_ok-method.method; target = c.in_ok-target.target; minor = c.args.whole.now.spans.version; close = c.args.whole.now.close; body = c.in_ok-body.body } in
    message_taken c.args.self.now c.in_ok-rest.rest.items c.args.whole.now (message_of request) c.requires (search rules) (search rules) (search rules) (search rules) (search rules) (search rules)
