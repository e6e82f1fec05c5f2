use Rattle.std.proofs.Common.{◌≡◌, length}
use Rattle.grammar.specs.Grammar.{again, done}
use Rattle.grammar.specs.Reading.{read, and_then}
use Rattle.grammar.specs.Words.{◌>>◌}
use Rattle.js_lexer.specs.declared.token.Punct.TheVariants as p
use Rattle.js_nodes.specs.Next.{shows}
use Rattle.js_cursor.specs.Words.{sign}
use Rattle.js_parser.specs.Functions as functions
use Rattle.std.specs.Prelude.{None}
use Rattle.js_parser.proofs.functions.some_parameters.Given as goal
use Rattle.js_cursor.specs.Rules as rules

abbrev pub invariant-names : goal.invariant-names
invariant-names l = record {
  reading : read None functions.some_parameters l.fn.tokens ≡ and_then (read None (again (λ _ t. shows p.Comma t) rules.more_parameters l.names) l.tokens) (λ ns r. read None (sign p.RightParen >> done ns) r);
}

abbrev pub decreases-names : goal.decreases-names
decreases-names l = length l.tokens
