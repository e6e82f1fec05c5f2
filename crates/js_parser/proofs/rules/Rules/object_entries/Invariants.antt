use Rattle.std.proofs.Common.{◌≡◌, ◌-◌, ◌<◌, length, None}
use Rattle.grammar.specs.Grammar.{again, done}
use Rattle.grammar.specs.Reading.{read, and_then}
use Rattle.grammar.specs.Words.{◌>>◌}
use Rattle.js_lexer.specs.declared.token.Punct.TheVariants as p
use Rattle.js_nodes.specs.Next.{shows}
use Rattle.js_cursor.specs.Words.{sign}
use Rattle.js_parser.specs.Primary as primary
use Rattle.js_parser.specs.Sources.{level}
use Rattle.js_parser.proofs.rules.Rules.object_entries.Given as goal

abbrev pub invariant-entries : goal.invariant-entries
invariant-entries g l = record {
  height : l.object.depth.height < l.room;
  reading : read None (primary.object_entries l.room (level (l.room - 1)) l.fn.codes) l.fn.tokens
      ≡ and_then (read None (again (λ _ t. shows p.Comma t) (primary.object_more l.room (level (l.room - 1))) l.object) l.tokens) (λ r s. read None (sign p.RightBrace >> done r) s);
}

abbrev pub decreases-entries : goal.decreases-entries
decreases-entries g l = length l.tokens
