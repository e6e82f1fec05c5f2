use Rattle.std.proofs.Common.{◌≡◌, length}
use Rattle.grammar.specs.Grammar.{again, done}
use Rattle.grammar.specs.Reading.{read, and_then}
use Rattle.grammar.specs.Words.{need, ◌>>=◌}
use Rattle.placed_chars.specs.Chars.{stop}
use Rattle.js_lexer.specs.declared.fault.LexFault.TheVariants.{UnclosedText}
use Rattle.js_lexer.specs.declared.token.Kind.TheVariants as k
use Rattle.js_lexer.specs.Chars.{of, is}
use Rattle.js_lexer.specs.Elements.{lexeme}
use Rattle.js_lexer.specs.Texts.{text, text_goes, text_piece}
use Rattle.js_lexer.proofs.lexer.Lexer.text.Given as goal

abbrev pub invariant-pieces : goal.invariant-pieces
invariant-pieces l = record {
  reading : read stop (text l.fn.at l.fn.quote) l.fn.self ≡ and_then (read stop (again (text_goes l.fn.quote) (text_piece l.fn.at l.fn.quote) l.units.items) l.self) (λ units r. read stop (need (of (is l.fn.quote)) (λ _. UnclosedText l.fn.at) >>= (λ q. done (lexeme (k.Str units) l.fn.at q.past))) r);
}

abbrev pub decreases-pieces : goal.decreases-pieces
decreases-pieces l = length l.self
