use Rattle.std.proofs.Common.{◌≡◌, ◌-◌, arith, subst, None}
use Rattle.grammar.specs.Reading.{Got, read}
use Rattle.grammar.proofs.Words.{onward}
use Rattle.js_nodes.specs.declared.context.Inside.{Inside}
use Rattle.js_parser.specs.Sources.{level}
use Rattle.js_parser.proofs.Turns.{source_turn}
use Rattle.js_parser.proofs.rules.Rules.function_body.Goals as goal

pub sources-smaller : goal.sources-smaller
sources-smaller g c =
    (source_turn (c.args.room - 1) c.sources.body c.sources.tokens c.in_ok-body.body c.source_below.new.tokens (cc)
    (subst (λ (i : Inside). read None ((level (c.args.room - 1)).source i c.sources.body) c.sources.tokens ≡ Got c.in_ok-body.body c.source_below.new.tokens) c.called.ensures c.in_ok-body.ensures.value)).1

pub sources-preserved : goal.sources-preserved
sources-preserved g c = record {
  height = let h = c.in_ok-body.ensures.height in omega arith;
  reading = onward _ _ _ _ c.sources.invariant.reading
      (source_turn (c.args.room - 1) c.sources.body c.sources.tokens c.in_ok-body.body c.source_below.new.tokens (cc)
      (subst (λ (i : Inside). read None ((level (c.args.room - 1)).source i c.sources.body) c.sources.tokens ≡ Got c.in_ok-body.body c.source_below.new.tokens) c.called.ensures c.in_ok-body.ensures.value)).0;
}
