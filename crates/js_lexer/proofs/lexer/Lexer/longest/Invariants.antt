use Rattle.std.proofs.Common.{◌≡◌, length}
use Rattle.grammar.specs.Grammar.{again, done}
use Rattle.grammar.specs.Reading.{read, and_then}
use Rattle.placed_chars.specs.Chars.{stop}
use Rattle.js_lexer.specs.declared.token.Kind.TheVariants as k
use Rattle.js_lexer.specs.Elements.{lexeme}
use Rattle.js_lexer.specs.Punctuators.{mark, mark_goes, more_mark, longest}
use Rattle.js_lexer.proofs.lexer.Lexer.longest.Given as goal

abbrev pub invariant-chars : goal.invariant-chars
invariant-chars l = record {
  reading : read stop (longest l.fn.shortest l.fn.at l.fn.past) l.fn.self ≡ and_then (read stop (again mark_goes more_mark (mark l.punct l.end)) l.self) (λ m r. read stop (done (lexeme (k.Punct m.punct) l.fn.at m.past)) r);
}

abbrev pub decreases-chars : goal.decreases-chars
decreases-chars l = length l.self
