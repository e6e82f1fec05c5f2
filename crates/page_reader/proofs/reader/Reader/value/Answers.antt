use Rattle.grammar.proofs.Words.{onward}
use Rattle.page_reader.proofs.Turns.{value_turn}
use Rattle.page_reader.proofs.reader.Reader.value.Goals as goal

pub pieces-smaller : goal.pieces-smaller
pieces-smaller c = (value_turn c.args.tag_at c.args.quote c.pieces.units.items c.pieces.self c.value_piece.new.units.items c.value_piece.new.self (cc) c.in_ok-value_piece.ensures).1

pub pieces-preserved : goal.pieces-preserved
pieces-preserved c = record {
  reading = onward _ _ _ _ c.pieces.invariant.reading (value_turn c.args.tag_at c.args.quote c.pieces.units.items c.pieces.self c.value_piece.new.units.items c.value_piece.new.self (cc) c.in_ok-value_piece.ensures).0;
}
