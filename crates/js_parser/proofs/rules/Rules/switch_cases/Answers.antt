use Rattle.std.proofs.Common.{◌-◌, ◌∙◌}
use Rattle.js_parser.proofs.DecidedStatements.{switch_turns}
use Rattle.js_parser.proofs.DecidedSources.{level_known}
use Rattle.js_parser.proofs.Failing.{last_failed}
use Rattle.js_parser.proofs.Turns.{switch_turn}
use Rattle.js_parser.specs.Statements.{case_part}
use Rattle.js_cursor.specs.Questions.{is_case}
use Rattle.js_parser.specs.Sources.{level}
use Rattle.js_parser.proofs.rules.Rules.switch_cases.Goals as goal

pub parts-smaller : goal.parts-smaller
parts-smaller g c = (switch_turn c.args.inside (c.args.room - 1) c.parts.cases c.parts.tokens c.in_ok-cases.cases c.case_part.new.tokens (cc) c.in_ok-cases.ensures.value).1

pub parts-preserved : goal.parts-preserved
parts-preserved g c = record {
  height = c.in_ok-cases.ensures.height;
  reading = c.parts.invariant.reading ∙ (switch_turn c.args.inside (c.args.room - 1) c.parts.cases c.parts.tokens c.in_ok-cases.cases c.case_part.new.tokens (cc) c.in_ok-cases.ensures.value).0;
}

pub returns-in_err-cases-clause-value : goal.returns-in_err-cases-clause-value
returns-in_err-cases-clause-value g c = last_failed _ (λ _ u. is_case u) (case_part (level (c.args.room - 1)) c.args.inside) c.parts.cases c.parts.tokens c.in_err-cases.field-0.0 c.case_part.new.tokens c.from_residual.result (switch_turns (level (c.args.room - 1)) (level_known (c.args.room - 1)) c.args.inside c.parts.cases) c.parts.invariant.reading (cc) c.in_err-cases.ensures.value c.from_residual.ensures
