use Rattle.grammar.proofs.Words.{onward}
use Rattle.js_lexer.proofs.Turns.{text_turn}
use Rattle.js_lexer.proofs.lexer.Lexer.text.Goals as goal

pub pieces-smaller : goal.pieces-smaller
pieces-smaller c = (text_turn c.args.at c.args.quote c.pieces.units.items c.pieces.self c.text_piece.new.units.items c.text_piece.new.self (cc) c.in_ok-text_piece.ensures).1

pub pieces-preserved : goal.pieces-preserved
pieces-preserved c = record {
  reading = onward _ _ _ _ c.pieces.invariant.reading (text_turn c.args.at c.args.quote c.pieces.units.items c.pieces.self c.text_piece.new.units.items c.text_piece.new.self (cc) c.in_ok-text_piece.ensures).0;
}
