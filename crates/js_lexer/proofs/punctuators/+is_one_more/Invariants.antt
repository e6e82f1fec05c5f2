use Rattle.std.proofs.Common.{length}
use Rattle.js_lexer.proofs.punctuators.+is_one_more.Given as goal

abbrev pub decreases-is_one_more : goal.decreases-is_one_more
decreases-is_one_more l = length l.text.now
