use Rattle.grammar.proofs.Words.{onward}
use Rattle.page_reader.specs.Attributes.{Listing}
use Rattle.page_reader.proofs.Turns.{attributes_turned}
use Rattle.page_reader.proofs.reader.Reader.attributes.Goals as goal

pub pieces-smaller : goal.pieces-smaller
pieces-smaller c = (attributes_turned c.args.tag_at c.args.tag.now (Listing c.pieces.earlier c.pieces.is_spaced) c.pieces.self (Listing c.attributes_piece.new.earlier c.in_ok-is_spaced.is_spaced) c.attributes_piece.new.self (cc) c.in_ok-is_spaced.ensures).1

pub pieces-preserved : goal.pieces-preserved
pieces-preserved c = record {
  reading = onward _ _ _ _ c.pieces.invariant.reading (attributes_turned c.args.tag_at c.args.tag.now (Listing c.pieces.earlier c.pieces.is_spaced) c.pieces.self (Listing c.attributes_piece.new.earlier c.in_ok-is_spaced.is_spaced) c.attributes_piece.new.self (cc) c.in_ok-is_spaced.ensures).0;
}
