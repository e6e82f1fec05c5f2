use Rattle.js_ops.proofs.Alike.{equal-sym}
use Rattle.js_ops.proofs.laws.equal_is_symmetric.Goals as goal

pub returns : goal.returns
returns c = equal-sym c.args._a.now c.args._b.now
