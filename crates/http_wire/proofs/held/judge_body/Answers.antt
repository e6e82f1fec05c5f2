use Rattle.std.proofs.Common.{rules}
use Rattle.http_wire.proofs.Heads.{refused_behind, unfinished_behind, whole_behind}
use Rattle.http_wire.proofs.held.judge_body.Goals as goal

pub returns-in-Err : goal.returns-in-Err
returns-in-Err c = refused_behind c.args.bytes.now c.args.seen.now c.args.room.now c.args.spans c.of.result.now c.in-Err.refusal c.requires.prefix c.requires.few c.requires.whole c.requires.within (search rules) (search rules)

pub returns-in-Ok : goal.returns-in-Ok
returns-in-Ok c = unfinished_behind c.args.bytes.now c.args.seen.now c.args.room.now c.args.spans c.of.result.now c.in-Ok.body_length c.requires.prefix c.requires.few c.requires.whole c.requires.within (search rules) (search rules) (search rules)

pub returns-in-Ok-2 : goal.returns-in-Ok-2
returns-in-Ok-2 c = whole_behind c.args.bytes.now c.args.seen.now c.args.room.now (record { spans = c.args.spans; body_length = c.in-Ok.body_length; close = c.closes_behind-close.result }) c.of.result.now c.requires.prefix c.requires.few c.requires.whole c.requires.within (search rules) (search rules) c.if-bytes-spans.false (search rules)
