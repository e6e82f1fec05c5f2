use Rattle.std.proofs.Common.{◌∙◌, sym}
use Rattle.js_parser.proofs.LevelsRead.{lone_refused}
use Rattle.js_parser.proofs.heads.lone_name.Goals as goal

pub returns-else-at_name-clause-value : goal.returns-else-at_name-clause-value
returns-else-at_name-clause-value c = lone_refused c.args.codes c.args.tokens.now c.operand_too_deep.result (sym c.at_name.ensures ∙ c.if-at_name.false) c.operand_too_deep.ensures
