-- How trees are put into a heap: nodes are numbered from the count on in tree order, a parent before its children; each
-- has the nodes' prototype and its parent; attributes and children are put where there are any (this project's own).
use Rattle.std.specs.Prelude.{ℕ, ◌+◌, List, [], ◌∷◌, ◌++◌, map, length}
use Rattle.page_units.specs.declared.value.CellName.{CellName}
use Rattle.page_units.specs.declared.value.Value.TheVariants as v
use Rattle.cell_places.specs.declared.place.Slot.TheVariants as s
use Rattle.cell_places.specs.declared.answer.Answer.TheVariants.{One, Names, Cells}
use Rattle.cell_places.specs.declared.kind.CellKind.{CellKind}
use Rattle.cell_places.specs.declared.kind.CellKind.TheVariants.{Element, Chars}
use Rattle.cell_places.specs.Heap.{Heap, cell, place}
use Rattle.cell_places.specs.Acts.{Act, made, placed, after}
use Rattle.cell_places.specs.Start.{document_cell, node_prototype}
use Rattle.tree_shape.specs.Trees.{Trees, Attribute, none, text, element}

-- how many nodes the trees have
abbrev pub node_count : Trees → ℕ
node_count none = 0
node_count (text units more) = 1 + node_count more
node_count (element name attributes children more) = 1 + (node_count children + node_count more)

-- the names of the siblings, the first of which is n
abbrev pub root_names : ℕ → Trees → List CellName
root_names n none = []
root_names n (text units more) = cell n ∷ root_names (n + 1) more
root_names n (element name attributes children more) = cell n ∷ root_names (n + 1 + node_count children) more

-- a node of this kind under its parent
abbrev pub node_acts : ℕ → CellKind → CellName → List Act
node_acts n kind parent =
    made (cell n) kind
    ∷ placed (place (cell n) s.Proto) (One (v.Cell node_prototype))
    ∷ placed (place (cell n) s.Parent) (One (v.Cell parent))
    ∷ []

abbrev pub name_acts : CellName → List (List ℕ) → List Act
name_acts n [] = []
name_acts n (name ∷ names) = placed (place n s.AttrNames) (Names (name ∷ names)) ∷ []

abbrev pub attribute_acts : CellName → List Attribute → List Act
attribute_acts n attributes =
    map (λ (a : Attribute). placed (place n (s.Attr a.0)) (One (v.Str a.1))) attributes
    ++ name_acts n (map (λ (a : Attribute). a.0) attributes)

abbrev pub children_acts : CellName → List CellName → List Act
children_acts n [] = []
children_acts n (first ∷ others) = placed (place n s.Children) (Cells (first ∷ others)) ∷ []

-- the trees under a parent, numbered from n on
abbrev pub trees_acts : CellName → ℕ → Trees → List Act
trees_acts parent n none = []
trees_acts parent n (text units more) =
    (node_acts n Chars parent ++ placed (place (cell n) s.Chars) (One (v.Str units)) ∷ []) ++ trees_acts parent (n + 1) more
trees_acts parent n (element name attributes children more) =
    (node_acts n (Element name) parent ++ (attribute_acts (cell n) attributes
    ++ (trees_acts (cell n) (n + 1) children ++ children_acts (cell n) (root_names (n + 1) children))))
    ++ trees_acts parent (n + 1 + node_count children) more

-- the trees under the document
abbrev pub planting : Heap → Trees → List Act
planting H trees = trees_acts document_cell (length H.kinds) trees ++ children_acts document_cell (root_names (length H.kinds) trees)

-- the heap with the trees under the document
abbrev pub planted : Heap → Trees → Heap
planted H trees = after H (planting H trees)
