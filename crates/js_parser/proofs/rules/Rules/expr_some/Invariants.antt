use Rattle.std.proofs.Common.{◌≡◌, ◌-◌, ◌≤◌, length, None}
use Rattle.grammar.specs.Grammar.{again}
use Rattle.grammar.specs.Reading.{read}
use Rattle.js_lexer.specs.declared.token.Punct.TheVariants as p
use Rattle.js_nodes.specs.Next.{shows}
use Rattle.js_parser.specs.Expressions as expressions
use Rattle.js_parser.specs.Sources.{level}
use Rattle.js_parser.proofs.rules.Rules.expr_some.Given as goal

abbrev pub invariant-commas : goal.invariant-commas
invariant-commas g l = record {
  height : l.x.depth.height ≤ l.room;
  reading : read None (expressions.expr l.room (level (l.room - 1)) l.context l.fn.codes) l.fn.tokens
      ≡ read None (again (λ _ t. shows p.Comma t) (expressions.comma l.room (level (l.room - 1)) l.context) l.x) l.tokens;
}

abbrev pub decreases-commas : goal.decreases-commas
decreases-commas g l = length l.tokens
