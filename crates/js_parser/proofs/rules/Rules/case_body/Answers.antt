use Rattle.std.proofs.Common.{◌≡◌, ◌-◌, subst, sym, ap, None}
use Rattle.js_nodes.specs.declared.series.Cases.{Cases}
use Rattle.js_parser.proofs.DecidedStatements.{case_turns}
use Rattle.js_parser.proofs.DecidedSources.{level_known}
use Rattle.js_parser.proofs.Failing.{loop_ended}
use Rattle.grammar.specs.Reading.{Got, read}
use Rattle.grammar.proofs.Words.{onward}
use Rattle.js_nodes.specs.declared.context.Inside.{Inside}
use Rattle.js_nodes.specs.Pieces.{choosing}
use Rattle.js_parser.specs.Statements.{series_more}
use Rattle.js_cursor.specs.Questions.{in_case}
use Rattle.js_parser.specs.Sources.{level}
use Rattle.js_parser.proofs.Turns.{case_turn}
use Rattle.js_parser.proofs.rules.Rules.case_body.Goals as goal

pub statements-smaller : goal.statements-smaller
unfolding series_more
statements-smaller g c =
    (case_turn (choosing c.args.inside) (c.args.room - 1) c.statements.series c.statements.tokens c.in_ok-series.series c.series_more.new.tokens (cc)
    (subst (λ (i : Inside). read None (series_more i (level (c.args.room - 1)) c.statements.series) c.statements.tokens ≡ Got c.in_ok-series.series c.series_more.new.tokens) c.in_switch.ensures c.in_ok-series.ensures.value)).1

pub statements-preserved : goal.statements-preserved
unfolding series_more
statements-preserved g c = record {
  height = c.in_ok-series.ensures.height;
  reading = onward _ _ _ _ c.statements.invariant.reading
      (case_turn (choosing c.args.inside) (c.args.room - 1) c.statements.series c.statements.tokens c.in_ok-series.series c.series_more.new.tokens (cc)
      (subst (λ (i : Inside). read None (series_more i (level (c.args.room - 1)) c.statements.series) c.statements.tokens ≡ Got c.in_ok-series.series c.series_more.new.tokens) c.in_switch.ensures c.in_ok-series.ensures.value)).0;
}

pub returns-clause-value : goal.returns-clause-value
unfolding series_more
returns-clause-value g c = loop_ended _ (λ _ t. in_case t) (series_more (choosing c.args.inside) (level (c.args.room - 1))) _ c.statements.series c.statements.tokens _ (case_turns (level (c.args.room - 1)) (level_known (c.args.room - 1)) (choosing c.args.inside) c.statements.series) c.statements.invariant.reading (cc) (ap (λ (v : Cases). Got v c.statements.tokens) (sym c.in_ok-more_cases.ensures.value))
