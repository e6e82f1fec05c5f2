use Rattle.std.proofs.Common.{◌≡◌, ◌-◌, ◌<◌, length, None}
use Rattle.grammar.specs.Grammar.{again}
use Rattle.grammar.specs.Reading.{read}
use Rattle.js_cursor.specs.Questions.{in_block}
use Rattle.js_parser.specs.Statements as statements
use Rattle.js_parser.specs.Sources.{level}
use Rattle.js_parser.proofs.rules.Rules.statements.Given as goal

abbrev pub invariant-statements : goal.invariant-statements
invariant-statements g l = record {
  height : l.series.depth.height < l.room;
  reading : read None (statements.statements l.inside (level (l.room - 1)) l.fn.state) l.fn.tokens
      ≡ read None (again (λ _ t. in_block t) (statements.series_more l.inside (level (l.room - 1))) l.series) l.tokens;
}

abbrev pub decreases-statements : goal.decreases-statements
decreases-statements g l = length l.tokens
