use Rattle.std.proofs.Common.{◌-◌, ◌∙◌, arith}
use Rattle.js_parser.proofs.Failing.{part_failed}
use Rattle.js_parser.specs.Sources.{level}
use Rattle.js_parser.proofs.LevelsRead.{binary_none, binary_some, binary_begun}
use Rattle.js_parser.proofs.Turns.{operation_turn, operation_failed}
use Rattle.js_parser.proofs.rules.Rules.+rules.Goals as goal

pub binary_more-operations-smaller : goal.binary_more-operations-smaller
binary_more-operations-smaller g t c = (operation_turn c.args.room (c.args.room - 1) c.args.context c.args.n c.operations.x c.operations.tokens c.in_ok-x-2.x c.operation.new.tokens (omega arith) (cc) c.in_ok-x-2.ensures.value).1

pub binary_more-operations-preserved : goal.binary_more-operations-preserved
binary_more-operations-preserved g t c = record {
  height = c.in_ok-x-2.ensures.height;
  reading = c.operations.invariant.reading ∙ (operation_turn c.args.room (c.args.room - 1) c.args.context c.args.n c.operations.x c.operations.tokens c.in_ok-x-2.x c.operation.new.tokens (omega arith) (cc) c.in_ok-x-2.ensures.value).0;
}

pub binary_more-returns-in_err-x-2-clause-value : goal.binary_more-returns-in_err-x-2-clause-value
binary_more-returns-in_err-x-2-clause-value g t c = operation_failed _ c.args.room (c.args.room - 1) c.args.context c.args.n c.operations.x c.operations.tokens c.in_err-x-2.field-0.0 c.operation.new.tokens c.from_residual-in_err-x-2.result (omega arith) c.operations.invariant.reading (cc) c.in_err-x-2.ensures.value c.from_residual-in_err-x-2.ensures

pub binary_more-returns-in_err-x-clause-value : goal.binary_more-returns-in_err-x-clause-value
binary_more-returns-in_err-x-clause-value g t c = part_failed _ _ _ c.in_err-x.field-0.0 c.binary_some.new.tokens c.from_residual.result (binary_some c.args.room (level (c.args.room - 1)) c.args.context c.args.n c.args.codes c.args.tokens.now (omega arith)) c.in_err-x.ensures.value c.from_residual.ensures

pub binary_more-operations-init : goal.binary_more-operations-init
binary_more-operations-init g t c = record {
  height = c.in_ok-x.ensures.height;
  reading = binary_begun c.args.room (level (c.args.room - 1)) c.args.context c.args.n c.args.codes c.args.tokens.now c.in_ok-x.x c.binary_some.new.tokens (omega arith) c.in_ok-x.ensures.value;
}

pub binary_some-returns-then-n-eq0-clause-value : goal.binary_some-returns-then-n-eq0-clause-value
binary_some-returns-then-n-eq0-clause-value g t c = binary_none c.args.room (level (c.args.room - 1)) c.args.context c.args.n c.args.codes c.args.tokens.now c.unary.result c.unary.new.tokens (omega arith) c.unary.ensures.value
