use Rattle.std.proofs.Common.{◌-◌}
use Rattle.js_lexer.specs.declared.token.Punct.TheVariants as p
use Rattle.js_nodes.specs.Next.{shows}
use Rattle.js_parser.specs.Primary.{list_more}
use Rattle.js_parser.proofs.DecidedOperands.{list_turns}
use Rattle.js_parser.proofs.DecidedSources.{level_known}
use Rattle.js_parser.proofs.Failing.{loop_failed}
use Rattle.grammar.proofs.Words.{onward}
use Rattle.js_parser.specs.Sources.{level}
use Rattle.js_parser.proofs.Turns.{list_turn}
use Rattle.js_parser.proofs.rules.Rules.list_items.Goals as goal
use Rattle.js_cursor.specs.Words as words
use Rattle.js_parser.specs.Primary as primaries

pub items-smaller : goal.items-smaller
items-smaller g c = (list_turn (c.args.room - 1) c.items.row c.items.tokens c.in_ok-row-2.row c.list_more.new.tokens (cc) c.in_ok-row-2.ensures.value).1

pub items-preserved : goal.items-preserved
items-preserved g c = record {
  height = c.in_ok-row-2.ensures.height;
  reading = onward _ _ _ _ c.items.invariant.reading (list_turn (c.args.room - 1) c.items.row c.items.tokens c.in_ok-row-2.row c.list_more.new.tokens (cc) c.in_ok-row-2.ensures.value).0;
}

pub returns-in_err-row-2-clause-value : goal.returns-in_err-row-2-clause-value
unfolding list_more primaries.item words.sign
returns-in_err-row-2-clause-value g c = loop_failed _ (λ _ t. shows p.Comma t) (list_more (level (c.args.room - 1))) _ c.items.row c.items.tokens c.in_err-row-2.field-0.0 c.list_more.new.tokens c.from_residual-in_err-row-2.result (list_turns (level (c.args.room - 1)) (level_known (c.args.room - 1)) c.items.row) c.items.invariant.reading (cc) c.in_err-row-2.ensures.value c.from_residual-in_err-row-2.ensures
