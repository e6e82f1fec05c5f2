use Rattle.std.proofs.Common.{◌≡◌, ◌-◌, ◌<◌, length, None}
use Rattle.grammar.specs.Grammar.{again}
use Rattle.grammar.specs.Reading.{read}
use Rattle.js_cursor.specs.Questions.{is_case}
use Rattle.js_parser.specs.Statements as statements
use Rattle.js_parser.specs.Sources.{level}
use Rattle.js_parser.proofs.rules.Rules.switch_cases.Given as goal

abbrev pub invariant-parts : goal.invariant-parts
invariant-parts g l = record {
  height : l.cases.depth.height < l.room;
  reading : read None (statements.switch_cases (level (l.room - 1)) l.inside l.fn.state) l.fn.tokens
      ≡ read None (again (λ _ u. is_case u) (statements.case_part (level (l.room - 1)) l.inside) l.cases) l.tokens;
}

abbrev pub decreases-parts : goal.decreases-parts
decreases-parts g l = length l.tokens
