use Rattle.std.proofs.Common.{◌∙◌, ap}
use Rattle.page_reader.specs.Reads.{content}
use Rattle.std.proofs.Common.{List, [], ◌∷◌, ◌++◌}
use Rattle.page_reader.specs.declared.node.Node.{Node}
use Rattle.page_reader.specs.Content.{found}
use Rattle.grammar.proofs.Words.{onward}
use Rattle.page_reader.proofs.Turns.{content_step}
use Rattle.page_reader.proofs.Levels.{child_read}
use Rattle.page_reader.proofs.reader.Reader.+element.Goals as goal

pub full_body-pieces-smaller : goal.full_body-pieces-smaller
full_body-pieces-smaller t c = (content_step c.args.room c.args.tag_at c.args.tag c.pieces.is_closed c.pieces.children c.pieces.units.items c.pieces.scripts c.pieces.self (content c.in_ok-is_closed.is_closed c.piece.new.children c.piece.new.units.items c.piece.new.scripts) c.piece.new.self (cc) (cc) c.in_ok-is_closed.ensures).1

pub full_body-pieces-preserved : goal.full_body-pieces-preserved
full_body-pieces-preserved t c = record {
  reading = onward _ _ _ _ c.pieces.invariant.reading (content_step c.args.room c.args.tag_at c.args.tag c.pieces.is_closed c.pieces.children c.pieces.units.items c.pieces.scripts c.pieces.self (content c.in_ok-is_closed.is_closed c.piece.new.children c.piece.new.units.items c.piece.new.scripts) c.piece.new.self (cc) (cc) c.in_ok-is_closed.ensures).0;
}

pub markup-returns-then-is_letter : goal.markup-returns-then-is_letter
markup-returns-then-is_letter t c = child_read c.args.room c.args.tag.now c.args.at c.args.children.now c.args.units.now.items c.args.scripts.now c.args.self.now (found c.in_ok-child.child c.opened.new.scripts) c.opened.new.self c.push.new.self c.flush-then-is_letter.new.units.items (cc) c.in_ok-child.ensures (c.in_ok-push.ensures.ok ∙ ap (λ (l : List Node). l ++ c.in_ok-child.child ∷ []) c.in_ok-flush-2.ensures.children) c.in_ok-flush-2.ensures.units
