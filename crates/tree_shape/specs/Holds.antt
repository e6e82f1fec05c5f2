-- The trees that a heap holds.
use Rattle.std.specs.Prelude.{◌≡◌, ℕ, List, [], ◌∷◌, cond, map}
use Rattle.page_units.specs.declared.value.CellName.{CellName}
use Rattle.cell_places.specs.declared.place.Slot.TheVariants as s
use Rattle.cell_places.specs.declared.kind.CellKind.TheVariants.{Element, Chars}
use Rattle.cell_places.specs.Kinds.{is_document}
use Rattle.cell_places.specs.Heap.{Heap, place, kind_at, names_in, text_in, children_at}
use Rattle.tree_shape.specs.Trees.{Trees, Attribute}
use Rattle.tree_shape.specs.Trees as t

-- the attribute of this name
abbrev pub attribute_at : Heap → CellName → List ℕ → Attribute
attribute_at H n name = (name, text_in (H.at (place n (s.Attr name))))

-- the attributes of an element, in order of insertion
abbrev pub attributes_at : Heap → CellName → List Attribute
attributes_at H n = map (attribute_at H n) (names_in (H.at (place n s.AttrNames)))

-- the heap holds these trees as these cells, which are siblings
pub data Holds (H : Heap) : List CellName → Trees → Type 0 where
  none : Holds H [] t.none
  text : (n : CellName) (cells : List CellName) (more : Trees) → kind_at H n ≡ Chars → Holds H cells more
      → Holds H (n ∷ cells) (t.text (text_in (H.at (place n s.Chars))) more)
  element : (n : CellName) (name : List ℕ) (cells : List CellName) (children more : Trees) → kind_at H n ≡ Element name
      → Holds H (children_at H n) children → Holds H cells more
      → Holds H (n ∷ cells) (t.element name (attributes_at H n) children more)

-- what is served for a node: the children of the document, or the node itself
abbrev pub served : Heap → CellName → List CellName
served H n = cond (is_document (kind_at H n)) (children_at H n) (n ∷ [])
