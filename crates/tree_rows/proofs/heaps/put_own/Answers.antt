use Rattle.std.proofs.Common.{refl}
use Rattle.cell_places.specs.declared.place.Slot.TheVariants.{Own}
use Rattle.tree_rows.proofs.Asking.{document_put}
use Rattle.tree_rows.proofs.heaps.put_own.Goals as goal

pub put-requires : goal.put-requires
put-requires c = document_put _ (Own c.in_ok-text_of.field-0) _ c.requires.kinds refl refl c.requires.number
