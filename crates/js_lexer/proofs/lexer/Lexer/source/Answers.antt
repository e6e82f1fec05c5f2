use Rattle.grammar.proofs.Words.{onward}
use Rattle.js_lexer.specs.Source.{lexed}
use Rattle.js_lexer.proofs.Turns.{source_turn}
use Rattle.js_lexer.proofs.lexer.Lexer.source.Goals as goal

pub elements-smaller : goal.elements-smaller
elements-smaller c = (source_turn (lexed c.elements.tokens.items c.elements.newline) c.elements.self (lexed c.piece.new.tokens.items c.in_ok-newline.newline) c.piece.new.self c.in_ok-newline.ensures).1

pub elements-preserved : goal.elements-preserved
elements-preserved c = record {
  reading = onward _ _ _ _ c.elements.invariant.reading (source_turn (lexed c.elements.tokens.items c.elements.newline) c.elements.self (lexed c.piece.new.tokens.items c.in_ok-newline.newline) c.piece.new.self c.in_ok-newline.ensures).0;
}
