use Rattle.std.proofs.Common.{◌-◌}
use Rattle.js_parser.specs.Sources.{level}
use Rattle.js_parser.proofs.LevelsRead.{no_primary}
use Rattle.js_parser.proofs.rules.Rules.primary.Goals as goal

pub returns-in_default-clause-value : goal.returns-in_default-clause-value
returns-in_default-clause-value g c = no_primary c.args.room (level (c.args.room - 1)) c.args.codes c.args.tokens.now (cc)
