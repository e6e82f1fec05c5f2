use Rattle.std.proofs.Common.{◌-◌, ◌∙◌}
use Rattle.js_nodes.specs.Classes.{is_access}
use Rattle.js_parser.proofs.Turns.{link_turn}
use Rattle.js_parser.proofs.rules.Rules.callee_some.Goals as goal

pub links-smaller : goal.links-smaller
links-smaller g c = (link_turn is_access c.args.room (c.args.room - 1) c.links.x c.links.tokens c.in_ok-x-2.x c.access.new.tokens (cc) c.in_ok-x-2.ensures.value).1

pub links-preserved : goal.links-preserved
links-preserved g c = record {
  height = c.in_ok-x-2.ensures.height;
  reading = c.links.invariant.reading ∙ (link_turn is_access c.args.room (c.args.room - 1) c.links.x c.links.tokens c.in_ok-x-2.x c.access.new.tokens (cc) c.in_ok-x-2.ensures.value).0;
}
