use Rattle.std.proofs.Common.{refl}
use Rattle.cell_places.specs.declared.place.Slot.TheVariants.{Own}
use Rattle.tree_rows.proofs.Asking.{document_asked}
use Rattle.tree_rows.proofs.heaps.own_cell.Goals as goal

pub ask-requires : goal.ask-requires
ask-requires c = document_asked _ (Own c.in_ok-text_of.field-0) c.requires refl
