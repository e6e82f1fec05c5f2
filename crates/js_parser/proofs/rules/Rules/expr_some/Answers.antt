use Rattle.std.proofs.Common.{◌-◌, ◌∙◌}
use Rattle.js_lexer.specs.declared.token.Punct.TheVariants as p
use Rattle.js_nodes.specs.Next.{shows}
use Rattle.js_parser.specs.Expressions.{comma}
use Rattle.js_parser.proofs.DecidedExpressions.{comma_turns}
use Rattle.js_parser.proofs.DecidedSources.{level_known}
use Rattle.js_parser.proofs.Failing.{last_failed}
use Rattle.js_parser.specs.Sources.{level}
use Rattle.js_parser.proofs.Turns.{comma_turn}
use Rattle.js_parser.proofs.rules.Rules.expr_some.Goals as goal

pub commas-smaller : goal.commas-smaller
commas-smaller g c = (comma_turn c.args.room (c.args.room - 1) c.args.context c.commas.x c.commas.tokens c.in_ok-x-2.x c.comma.new.tokens (cc) c.in_ok-x-2.ensures.value).1

pub commas-preserved : goal.commas-preserved
commas-preserved g c = record {
  height = c.in_ok-x-2.ensures.height;
  reading = c.commas.invariant.reading ∙ (comma_turn c.args.room (c.args.room - 1) c.args.context c.commas.x c.commas.tokens c.in_ok-x-2.x c.comma.new.tokens (cc) c.in_ok-x-2.ensures.value).0;
}

pub returns-in_err-x-2-clause-value : goal.returns-in_err-x-2-clause-value
returns-in_err-x-2-clause-value g c = last_failed _ (λ _ t. shows p.Comma t) (comma c.args.room (level (c.args.room - 1)) c.args.context) c.commas.x c.commas.tokens c.in_err-x-2.field-0.0 c.comma.new.tokens c.from_residual-in_err-x-2.result (comma_turns (level (c.args.room - 1)) (level_known (c.args.room - 1)) c.args.room c.args.context c.commas.x) c.commas.invariant.reading (cc) c.in_err-x-2.ensures.value c.from_residual-in_err-x-2.ensures
