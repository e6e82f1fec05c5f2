use Rattle.std.specs.Str.{chars}
use Rattle.js_lexer.specs.Tokens.{LexesAs}
use Rattle.js_lexer.proofs.Numerals.{numerals_given}
use Rattle.js_lexer.proofs.Whole.{lexed_exactly}
use Rattle.js_lexer.proofs.source.lex.Goals as goal

pub returns-clause-exactly : goal.returns-clause-exactly
returns-clause-exactly c = lexed_exactly (chars c.args.source.now) c.new.result c.new.ensures c.source.result c.source.new.self c.source.ensures.value c.source.ensures.over

pub returns-clause-numbers : goal.returns-clause-numbers
returns-clause-numbers c = numerals_given (chars c.args.source.now) (LexesAs (chars c.args.source.now)) c.source.result (returns-clause-exactly c).found
