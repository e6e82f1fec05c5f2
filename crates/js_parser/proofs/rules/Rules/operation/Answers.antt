use Rattle.std.proofs.Common.{◌-◌, arith}
use Rattle.js_parser.specs.Sources.{level}
use Rattle.js_parser.proofs.LevelsRead.{no_operation}
use Rattle.js_parser.proofs.rules.Rules.operation.Goals as goal

pub returns-in_default-clause-value : goal.returns-in_default-clause-value
returns-in_default-clause-value g c = no_operation c.args.room (level (c.args.room - 1)) c.args.context c.args.n c.args.x c.args.tokens.now (omega arith) (cc)
