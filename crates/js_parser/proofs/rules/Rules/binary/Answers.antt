use Rattle.std.proofs.Common.{arith, refl, None}
use Rattle.grammar.specs.Grammar.{first}
use Rattle.grammar.specs.Reading.{read}
use Rattle.js_parser.specs.Levels.{Level}
use Rattle.js_cursor.specs.Questions.{operand_too_deep}
use Rattle.js_parser.proofs.LevelsRead.{some_reads, none_reads}
use Rattle.js_parser.proofs.rules.Rules.binary.Goals as goal

pub returns-then-room-eq0-clause-value : goal.returns-then-room-eq0-clause-value
returns-then-room-eq0-clause-value g c = none_reads (λ (l : Level). read None (l.binary c.args.context c.args.n c.args.codes) c.args.tokens.now) c.args.room (operand_too_deep (first c.args.tokens.now None)) c.args.tokens.now c.operand_too_deep.result (omega arith) refl c.operand_too_deep.ensures

pub returns-clause-value : goal.returns-clause-value
returns-clause-value g c = some_reads (λ (l : Level). read None (l.binary c.args.context c.args.n c.args.codes) c.args.tokens.now) c.args.room c.binary_some.result c.binary_some.new.tokens (omega arith) c.binary_some.ensures.value
