use Rattle.std.proofs.Common.{◌≡◌, length}
use Rattle.grammar.specs.Grammar.{again, done}
use Rattle.grammar.specs.Reading.{read, and_then}
use Rattle.grammar.specs.Words.{◌>>◌}
use Rattle.placed_chars.specs.Chars.{stop}
use Rattle.js_lexer.specs.Source.{source, goes, piece, last, lexed}
use Rattle.js_lexer.proofs.lexer.Lexer.source.Given as goal

abbrev pub invariant-elements : goal.invariant-elements
invariant-elements l = record {
  reading : read stop source l.fn.self ≡ and_then (read stop (again goes piece (lexed l.tokens.items l.newline)) l.self) (λ s r. read stop (last >> done s.tokens) r);
}

abbrev pub decreases-elements : goal.decreases-elements
decreases-elements l = length l.self
