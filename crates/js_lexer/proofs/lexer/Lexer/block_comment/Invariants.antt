use Rattle.std.proofs.Common.{◌≡◌, cond, length}
use Rattle.grammar.specs.Grammar.{again, done}
use Rattle.grammar.specs.Reading.{read, and_then}
use Rattle.grammar.specs.Words.{must, ◌>>◌}
use Rattle.placed_chars.specs.Chars.{stop}
use Rattle.js_lexer.specs.declared.fault.LexFault.TheVariants.{UnclosedComment}
use Rattle.js_lexer.specs.declared.lexer.Element.TheVariants.{White, Newline}
use Rattle.js_lexer.specs.Chars.{of, is}
use Rattle.js_lexer.specs.Blanks.{block_comment, block_goes, block_char, inside}
use Rattle.js_lexer.proofs.lexer.Lexer.block_comment.Given as goal

abbrev pub invariant-chars : goal.invariant-chars
invariant-chars l = record {
  reading : read stop (block_comment l.fn.at) l.fn.self ≡ and_then (read stop (again block_goes block_char (inside l.starred l.newline)) l.self) (λ s r. read stop (must (of (is 0x2F)) (λ _. UnclosedComment l.fn.at) >> done (cond s.newline Newline White)) r);
}

abbrev pub decreases-chars : goal.decreases-chars
decreases-chars l = length l.self
