use Rattle.tree_shape.proofs.Asking.{asked_still}
use Rattle.tree_shape.proofs.answers.answer_at.Goals as goal

pub returns-clause-still : goal.returns-clause-still
returns-clause-still g c = asked_still _ _ _ c.ask.result c.ask.ensures.ok c.ask.ensures.err
