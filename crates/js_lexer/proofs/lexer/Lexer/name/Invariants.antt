use Rattle.std.proofs.Common.{◌≡◌, length}
use Rattle.grammar.specs.Grammar.{first, again, done}
use Rattle.grammar.specs.Reading.{read, and_then}
use Rattle.placed_chars.specs.Chars.{stop}
use Rattle.js_lexer.specs.Elements.{lexeme}
use Rattle.js_lexer.specs.Names.{name, name_goes, more_name, spelled, kind_of_name}
use Rattle.js_lexer.proofs.lexer.Lexer.name.Given as goal
use Rattle.std.specs.Prelude.{drop}

abbrev pub invariant-chars : goal.invariant-chars
invariant-chars l = record {
  reading : read stop (name (first l.fn.self stop)) (drop 1 l.fn.self) ≡ and_then (read stop (again name_goes more_name (spelled l.units.items l.end)) l.self) (λ s r. read stop (done (lexeme (kind_of_name s.units) l.at s.past)) r);
}

abbrev pub decreases-chars : goal.decreases-chars
decreases-chars l = length l.self
