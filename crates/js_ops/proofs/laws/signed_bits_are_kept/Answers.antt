use Rattle.js_ops.proofs.Alike.{to_uint32-to_int32}
use Rattle.js_ops.proofs.laws.signed_bits_are_kept.Goals as goal

pub returns : goal.returns
returns c = to_uint32-to_int32 c.args._number
