use Rattle.std.proofs.Common.{Some, sym, ◌∙◌}
use Rattle.js_nodes.specs.Operands.{prefix_flaw}
use Rattle.js_cursor.proofs.Refused.{prefix_refused}
use Rattle.js_cursor.proofs.cursor.Cursor.prefix_end.Goals as goal

pub returns-in-Some-clause-value : goal.returns-in-Some-clause-value
returns-in-Some-clause-value c = prefix_refused c.args.context (Some c.args.token.now) c.args.x (prefix_flaw c.args.token.now.kind c.args.x) c.in-Some.fault c.args.self.now c.flaw_shown.result (sym c.prefix_flaw.ensures ∙ c.in-Some.is) c.flaw_shown.ensures
