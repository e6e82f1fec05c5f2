use Rattle.std.proofs.Common.{◌≡◌, ◌-◌, ◌<◌, length, None}
use Rattle.grammar.specs.Grammar.{again, done}
use Rattle.grammar.specs.Reading.{read, and_then}
use Rattle.grammar.specs.Words.{◌>>◌}
use Rattle.js_lexer.specs.declared.token.Punct.TheVariants as p
use Rattle.js_cursor.specs.Words.{sign}
use Rattle.js_parser.specs.Functions as functions
use Rattle.js_cursor.specs.Questions.{in_block}
use Rattle.js_nodes.specs.Pieces.{called}
use Rattle.js_parser.specs.Sources.{level}
use Rattle.js_parser.proofs.rules.Rules.function_body.Given as goal

abbrev pub invariant-sources : goal.invariant-sources
invariant-sources g l = record {
  height : l.body.depth.height < l.room;
  reading : read None (functions.function_body (level (l.room - 1)) l.fn.codes) l.fn.tokens
      ≡ and_then (read None (again (λ _ t. in_block t) (λ b. (level (l.room - 1)).source called b) l.body) l.tokens) (λ r s. read None (sign p.RightBrace >> done r) s);
}

abbrev pub decreases-sources : goal.decreases-sources
decreases-sources g l = length l.tokens
