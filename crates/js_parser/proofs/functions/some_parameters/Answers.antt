use Rattle.js_lexer.specs.declared.token.Punct.TheVariants as p
use Rattle.js_nodes.specs.Next.{shows}
use Rattle.js_cursor.specs.Rules.{more_parameters}
use Rattle.js_parser.proofs.Failing.{loop_failed}
use Rattle.js_parser.proofs.DecidedOperands.{parameter_turns}
use Rattle.grammar.proofs.Words.{onward}
use Rattle.js_parser.proofs.Turns.{parameter_turn}
use Rattle.js_parser.proofs.functions.some_parameters.Goals as goal
use Rattle.js_cursor.specs.Rules as rules
use Rattle.js_cursor.specs.Words as words

pub names-smaller : goal.names-smaller
names-smaller c = (parameter_turn c.names.names c.names.tokens c.in_ok-names-2.names c.more_parameters.new.self (cc) c.in_ok-names-2.ensures).1

pub names-preserved : goal.names-preserved
names-preserved c = record {
  reading = onward _ _ _ _ c.names.invariant.reading (parameter_turn c.names.names c.names.tokens c.in_ok-names-2.names c.more_parameters.new.self (cc) c.in_ok-names-2.ensures).0;
}

pub returns-in_err-names-2 : goal.returns-in_err-names-2
unfolding more_parameters rules.parameter words.sign words.sound
returns-in_err-names-2 c = loop_failed _ (λ _ t. shows p.Comma t) more_parameters _ c.names.names c.names.tokens c.in_err-names-2.field-0.0 c.more_parameters.new.self c.from_residual-in_err-names-2.result (parameter_turns c.names.names) c.names.invariant.reading (cc) c.in_err-names-2.ensures c.from_residual-in_err-names-2.ensures
