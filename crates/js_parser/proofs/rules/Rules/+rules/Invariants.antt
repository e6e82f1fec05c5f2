use Rattle.std.proofs.Common.{◌≡◌, ◌+◌, ◌*◌, ◌-◌, ◌≤◌, length, None}
use Rattle.grammar.specs.Grammar.{again}
use Rattle.grammar.specs.Reading.{read}
use Rattle.js_parser.specs.Expressions as expressions
use Rattle.js_parser.specs.Sources.{level}
use Rattle.js_parser.proofs.rules.Rules.+rules.Given as goal

abbrev pub decreases-binary_some : goal.decreases-binary_some
decreases-binary_some g l = 2 * l.n + 1

abbrev pub decreases-binary_more : goal.decreases-binary_more
decreases-binary_more g l = 2 * l.n

abbrev pub invariant-binary_more-operations : goal.invariant-binary_more-operations
invariant-binary_more-operations g l = record {
  height : l.x.depth.height ≤ l.room;
  reading : read None (expressions.binary l.room (level (l.room - 1)) l.context l.n l.fn.codes) l.fn.tokens
      ≡ read None (again (λ _ t. expressions.binds_at l.context l.n t) (expressions.operation l.room (level (l.room - 1)) l.context l.n) l.x) l.tokens;
}

abbrev pub decreases-binary_more-operations : goal.decreases-binary_more-operations
decreases-binary_more-operations g l = length l.tokens
