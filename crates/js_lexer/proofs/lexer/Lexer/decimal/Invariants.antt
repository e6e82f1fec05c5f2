use Rattle.std.proofs.Common.{◌≡◌, ◌≤◌, ◌+◌, length}
use Rattle.grammar.specs.Grammar.{again, done}
use Rattle.grammar.specs.Reading.{read, and_then}
use Rattle.grammar.specs.Words.{choice, barred, ◌>>◌}
use Rattle.page_units.specs.Numbers.{greatest_number}
use Rattle.placed_chars.specs.Chars.{stop}
use Rattle.js_lexer.specs.Chars.{of}
use Rattle.js_lexer.specs.Numbers.{decimal, digits_go, more_digits, is_exponent, exponent, digits_fault}
use Rattle.js_lexer.proofs.lexer.Lexer.decimal.Given as goal

abbrev pub invariant-digits : goal.invariant-digits
invariant-digits l = record {
  small : l.numeral.value ≤ greatest_number + 1;
  reading : read stop (decimal l.fn.at l.fn.leads_zero l.fn.start) l.fn.self ≡ and_then (read stop (again digits_go (more_digits l.fn.leads_zero) l.numeral) l.self) (λ s r. read stop (choice (of is_exponent) (exponent l.fn.at) (barred (digits_fault l.fn.at s) >> done s)) r);
}

abbrev pub decreases-digits : goal.decreases-digits
decreases-digits l = length l.self
