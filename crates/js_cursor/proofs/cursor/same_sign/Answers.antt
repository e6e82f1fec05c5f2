use Rattle.js_cursor.proofs.Signs.{sign_told}
use Rattle.js_cursor.proofs.cursor.same_sign.Goals as goal

pub returns : goal.returns
returns c = sign_told c.is_sign.result c.args.a c.args.b c.is_sign.ensures
