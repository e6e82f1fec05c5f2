use Rattle.std.proofs.Common.{◌-◌, ◌∙◌}
use Rattle.js_parser.proofs.Turns.{block_turn}
use Rattle.js_parser.proofs.rules.Rules.statements.Goals as goal

pub statements-smaller : goal.statements-smaller
statements-smaller g c = (block_turn c.args.inside (c.args.room - 1) c.statements.series c.statements.tokens c.in_ok-series.series c.series_more.new.tokens (cc) c.in_ok-series.ensures.value).1

pub statements-preserved : goal.statements-preserved
statements-preserved g c = record {
  height = c.in_ok-series.ensures.height;
  reading = c.statements.invariant.reading ∙ (block_turn c.args.inside (c.args.room - 1) c.statements.series c.statements.tokens c.in_ok-series.series c.series_more.new.tokens (cc) c.in_ok-series.ensures.value).0;
}
