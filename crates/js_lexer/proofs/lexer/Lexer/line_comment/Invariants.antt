use Rattle.std.proofs.Common.{◌≡◌, length}
use Rattle.grammar.specs.Grammar.{again}
use Rattle.grammar.specs.Reading.{read}
use Rattle.placed_chars.specs.Chars.{stop}
use Rattle.js_lexer.specs.Blanks.{line_comment, line_goes, line_char}
use Rattle.js_lexer.proofs.lexer.Lexer.line_comment.Given as goal

abbrev pub invariant-chars : goal.invariant-chars
invariant-chars l = record { reading : read stop line_comment l.fn.self ≡ read stop (again line_goes line_char tt) l.self }

abbrev pub decreases-chars : goal.decreases-chars
decreases-chars l = length l.self
