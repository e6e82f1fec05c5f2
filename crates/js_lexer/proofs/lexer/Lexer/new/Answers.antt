use Rattle.std.proofs.Common.{length}
use Rattle.js_lexer.proofs.Within.{more_within}
use Rattle.js_lexer.proofs.lexer.Lexer.new.Goals as goal

pub invariant_of-result : goal.invariant_of-result
invariant_of-result c = more_within (length c.args.source.now) 1048576 c.new.result c.requires c.new.ensures.within
