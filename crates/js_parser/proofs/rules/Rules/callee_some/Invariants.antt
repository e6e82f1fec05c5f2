use Rattle.std.proofs.Common.{◌≡◌, ◌-◌, ◌≤◌, length, None}
use Rattle.grammar.specs.Grammar.{again}
use Rattle.grammar.specs.Reading.{read}
use Rattle.js_nodes.specs.Next.{of}
use Rattle.js_parser.specs.Chains as chains
use Rattle.js_parser.specs.Sources.{level}
use Rattle.js_nodes.specs.Classes as classes
use Rattle.js_parser.proofs.rules.Rules.callee_some.Given as goal

abbrev pub invariant-links : goal.invariant-links
invariant-links g l = record {
  height : l.x.depth.height ≤ l.room;
  reading : read None (chains.callee l.room (level (l.room - 1)) l.fn.codes) l.fn.tokens
      ≡ read None (again (λ _ t. of classes.is_access t) (chains.link classes.is_access l.room (level (l.room - 1))) l.x) l.tokens;
}

abbrev pub decreases-links : goal.decreases-links
decreases-links g l = length l.tokens
