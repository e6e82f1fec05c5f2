use Rattle.std.proofs.Common.{◌≡◌, ◌-◌, ◌<◌, length, None}
use Rattle.grammar.specs.Grammar.{again, done}
use Rattle.grammar.specs.Reading.{read, and_then}
use Rattle.grammar.specs.Words.{◌>>◌}
use Rattle.js_lexer.specs.declared.token.Punct.TheVariants as p
use Rattle.js_nodes.specs.Next.{shows}
use Rattle.js_cursor.specs.Words.{sign}
use Rattle.js_parser.specs.Primary as primary
use Rattle.js_parser.specs.Sources.{level}
use Rattle.js_parser.proofs.rules.Rules.list_items.Given as goal

abbrev pub invariant-items : goal.invariant-items
invariant-items g l = record {
  height : l.row.depth.height < l.room;
  reading : read None (primary.list_items (level (l.room - 1)) l.fn.codes) l.fn.tokens
      ≡ and_then (read None (again (λ _ t. shows p.Comma t) (primary.list_more (level (l.room - 1))) l.row) l.tokens) (λ r s. read None (sign p.RightBracket >> done r) s);
}

abbrev pub decreases-items : goal.decreases-items
decreases-items g l = length l.tokens
