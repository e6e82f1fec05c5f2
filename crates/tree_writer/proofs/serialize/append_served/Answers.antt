use Rattle.cell_places.proofs.Runs.{Still-trans}
use Rattle.tree_writer.proofs.serialize.append_served.Goals as goal

pub returns-in_ok-children-in-Document-clause-still :
    goal.returns-in_ok-children-in-Document-clause-still
returns-in_ok-children-in-Document-clause-still g c = Still-trans _ _ _ c.answer_at.ensures.still c.append_nodes.ensures.still
