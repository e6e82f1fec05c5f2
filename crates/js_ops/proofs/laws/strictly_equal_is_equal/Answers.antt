use Rattle.js_ops.proofs.Alike.{equal-strictly}
use Rattle.js_ops.proofs.laws.strictly_equal_is_equal.Goals as goal

pub returns : goal.returns
returns c = equal-strictly c.args._a.now c.args._b.now
