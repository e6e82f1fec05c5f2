use Rattle.tree_rows.proofs.Asking.{page_asked}
use Rattle.tree_rows.proofs.heaps.page_number.Goals as goal

pub ask-requires : goal.ask-requires
ask-requires c = page_asked _ _ c.requires.kinds c.requires.slot
