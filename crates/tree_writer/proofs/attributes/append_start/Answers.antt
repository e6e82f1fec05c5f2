use Rattle.cell_places.proofs.Runs.{Still-refl}
use Rattle.tree_writer.proofs.attributes.append_start.Goals as goal

pub returns-in_err-append-clause-still : goal.returns-in_err-append-clause-still
returns-in_err-append-clause-still g c = Still-refl _

pub returns-then-not-branch-clause-still : goal.returns-then-not-branch-clause-still
returns-then-not-branch-clause-still g c = Still-refl _

pub returns-in_err-append-2-clause-still : goal.returns-in_err-append-2-clause-still
returns-in_err-append-2-clause-still g c = Still-refl _

pub returns-then-not-branch-2-clause-still : goal.returns-then-not-branch-2-clause-still
returns-then-not-branch-2-clause-still g c = Still-refl _
