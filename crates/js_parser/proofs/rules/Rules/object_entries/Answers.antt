use Rattle.std.proofs.Common.{◌-◌}
use Rattle.js_lexer.specs.declared.token.Punct.TheVariants as p
use Rattle.js_nodes.specs.Next.{shows}
use Rattle.js_parser.specs.Primary.{object_more}
use Rattle.js_parser.proofs.DecidedOperands.{object_turns}
use Rattle.js_parser.proofs.DecidedSources.{level_known}
use Rattle.js_parser.proofs.Failing.{loop_failed}
use Rattle.grammar.proofs.Words.{onward}
use Rattle.js_parser.specs.Sources.{level}
use Rattle.js_parser.proofs.Turns.{object_turn}
use Rattle.js_parser.proofs.rules.Rules.object_entries.Goals as goal
use Rattle.js_cursor.specs.Words as words

pub entries-smaller : goal.entries-smaller
entries-smaller g c = (object_turn c.args.room (c.args.room - 1) c.entries.object c.entries.tokens c.in_ok-object-2.object c.object_more.new.tokens (cc) c.in_ok-object-2.ensures.value).1

pub entries-preserved : goal.entries-preserved
entries-preserved g c = record {
  height = c.in_ok-object-2.ensures.height;
  reading = onward _ _ _ _ c.entries.invariant.reading (object_turn c.args.room (c.args.room - 1) c.entries.object c.entries.tokens c.in_ok-object-2.object c.object_more.new.tokens (cc) c.in_ok-object-2.ensures.value).0;
}

pub returns-in_err-object-2-clause-value : goal.returns-in_err-object-2-clause-value
unfolding object_more words.sign
returns-in_err-object-2-clause-value g c = loop_failed _ (λ _ t. shows p.Comma t) (object_more c.args.room (level (c.args.room - 1))) _ c.entries.object c.entries.tokens c.in_err-object-2.field-0.0 c.object_more.new.tokens c.from_residual-in_err-object-2.result (object_turns (level (c.args.room - 1)) (level_known (c.args.room - 1)) c.args.room c.entries.object) c.entries.invariant.reading (cc) c.in_err-object-2.ensures.value c.from_residual-in_err-object-2.ensures
