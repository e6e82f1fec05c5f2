use Rattle.std.proofs.Common.{◌∙◌}
use Rattle.wire_asks.proofs.Keys.{any_known}
use Rattle.wire_asks.proofs.bodies.is_among.Goals as goal

pub returns : goal.returns
returns c = c.contains.ensures.value ∙ any_known c.args.key.now c.args.keys.now
