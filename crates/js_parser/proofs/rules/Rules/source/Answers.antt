use Rattle.std.proofs.Common.{arith, refl, None}
use Rattle.grammar.specs.Grammar.{first}
use Rattle.grammar.specs.Reading.{read}
use Rattle.js_parser.specs.Levels.{Level}
use Rattle.js_cursor.specs.Questions.{source_too_deep}
use Rattle.js_parser.proofs.LevelsRead.{some_reads, none_reads}
use Rattle.js_parser.proofs.rules.Rules.source.Goals as goal

pub returns-then-room-eq0-clause-value : goal.returns-then-room-eq0-clause-value
returns-then-room-eq0-clause-value g c = none_reads (λ (l : Level). read None (l.source c.args.inside c.args.body) c.args.tokens.now) c.args.room (source_too_deep c.args.inside (first c.args.tokens.now None)) c.args.tokens.now c.source_too_deep.result (omega arith) refl c.source_too_deep.ensures

pub returns-clause-value : goal.returns-clause-value
returns-clause-value g c = some_reads (λ (l : Level). read None (l.source c.args.inside c.args.body) c.args.tokens.now) c.args.room c.source_some.result c.source_some.new.tokens (omega arith) c.source_some.ensures.value
