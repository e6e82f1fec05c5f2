use Rattle.js_cursor.proofs.Signs.{word_told}
use Rattle.js_cursor.proofs.cursor.same_word.Goals as goal

pub returns : goal.returns
returns c = word_told c.is_word.result c.args.a c.args.b c.is_word.ensures
