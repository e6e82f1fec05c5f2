-- The tree text of a node in a heap.
use Rattle.std.specs.Prelude.{◌≡◌, ℕ, List, Bool, false, ◌&&◌}
use Rattle.page_units.specs.declared.value.CellName.{CellName}
use Rattle.page_units.specs.declared.value.Value.TheVariants.{Cell}
use Rattle.cell_places.specs.declared.place.Slot.TheVariants.{Parent}
use Rattle.cell_places.specs.declared.answer.Answer.{Answer}
use Rattle.cell_places.specs.declared.answer.Answer.TheVariants.{One}
use Rattle.cell_places.specs.declared.kind.CellKind.{CellKind}
use Rattle.cell_places.specs.declared.kind.CellKind.TheVariants.{Element}
use Rattle.cell_places.specs.Kinds.{is_chars}
use Rattle.cell_places.specs.Heap.{Heap, place, kind_at}
use Rattle.tree_shape.specs.Names.{is_raw}
use Rattle.tree_shape.specs.Trees.{Trees}
use Rattle.tree_shape.specs.Holds.{Holds, served}
use Rattle.tree_writer.specs.TreeText.{trees_text}

-- an element whose text is raw
abbrev pub is_raw_element : CellKind → Bool
is_raw_element (Element name) = is_raw name
is_raw_element _ = false

-- the parent that is answered is such an element
abbrev pub is_raw_parent : Heap → Answer → Bool
is_raw_parent H (One (Cell n)) = is_raw_element (kind_at H n)
is_raw_parent H _ = false

-- a text node in a `script` or `style`
abbrev pub is_raw_text : Heap → CellName → Bool
is_raw_text H n = is_chars (kind_at H n) && is_raw_parent H (H.at (place n Parent))

-- the tree text of a node
pub record IsTreeText (H : Heap) (n : CellName) (bytes : List ℕ) : Type 0 where
  pub trees : Trees
  pub holds : Holds H (served H n) trees
  pub text : bytes ≡ trees_text (is_raw_text H n) trees
