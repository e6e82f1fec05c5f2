use Rattle.cell_places.proofs.Runs.{Still-trans}
use Rattle.tree_writer.proofs.attributes.append_own.Goals as goal

pub returns-clause-still : goal.returns-clause-still
returns-clause-still g c = Still-trans _ _ _ c.answer_at.ensures.still c.append_attributes.ensures.still
