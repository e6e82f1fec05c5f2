use Rattle.std.proofs.Common.{◌≡◌, ◌≤◌, ◌+◌, length}
use Rattle.grammar.specs.Grammar.{again, done}
use Rattle.grammar.specs.Reading.{read, and_then}
use Rattle.grammar.specs.Words.{barred, ◌>>◌}
use Rattle.page_units.specs.Numbers.{greatest_number}
use Rattle.placed_chars.specs.Chars.{stop}
use Rattle.js_lexer.specs.Numbers.{hex, hex_goes, more_hex, hex_fault}
use Rattle.js_lexer.proofs.lexer.Lexer.hex.Given as goal

abbrev pub invariant-digits : goal.invariant-digits
invariant-digits l = record {
  small : l.numeral.value ≤ greatest_number + 1;
  reading : read stop (hex l.fn.at) l.fn.self ≡ and_then (read stop (again hex_goes more_hex l.numeral) l.self) (λ s r. read stop (barred (hex_fault l.fn.at s) >> done s) r);
}

abbrev pub decreases-digits : goal.decreases-digits
decreases-digits l = length l.self
