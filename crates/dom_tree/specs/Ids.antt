-- Finding an element by its id (WHATWG DOM, 4.2.4: the first element, in tree order, whose ID it is; that the acts are
-- these, in this order, is this project's own).
use Rattle.std.specs.Prelude.{◌≡◌, ℕ, ◌+◌, Bool, cond, ◌&&◌, false, true, nat_lt, List, [], ◌∷◌, ◌++◌, length, Option, Some, None, codes}
use Rattle.page_units.specs.declared.value.CellName.{CellName}
use Rattle.cell_places.specs.declared.place.Slot.{Slot}
use Rattle.cell_places.specs.declared.place.Slot.TheVariants as s
use Rattle.cell_places.specs.Kinds.{is_element}
use Rattle.cell_places.specs.Heap.{Heap, place, kind_at, is_text, children_at}
use Rattle.cell_places.specs.Acts.{Act, asked, looked}
use Rattle.cell_places.specs.Known.{document_cell}

-- The nodes among these siblings and below them, in tree order: a node comes before those below it, and these come
-- before its later siblings. Elements alone have nodes below them.
pub data InTreeOrder (H : Heap) : List CellName → List CellName → Type 0 where
  none : InTreeOrder H [] []
  other : (n : CellName) (cells nodes : List CellName) → is_element (kind_at H n) ≡ false → InTreeOrder H cells nodes → InTreeOrder H (n ∷ cells) (n ∷ nodes)
  element : (n : CellName) (cells below nodes : List CellName) → is_element (kind_at H n) ≡ true → InTreeOrder H (children_at H n) below → InTreeOrder H cells nodes
      → InTreeOrder H (n ∷ cells) (n ∷ below ++ nodes)

-- the id of the element is this
abbrev pub has_id : Heap → List ℕ → CellName → Bool
has_id H id n = is_text id (H.at (place n (s.Attr (codes "id"))))

-- the first of these nodes that is an element with the id
abbrev pub first_with : Heap → List ℕ → List CellName → Option CellName
first_with H id [] = None
first_with H id (n ∷ nodes) = cond (is_element (kind_at H n) && has_id H id n) (Some n) (first_with H id nodes)

-- how many of them are asked for their id: the elements up to the one that has it
abbrev pub visited : Heap → List ℕ → List CellName → ℕ
visited H id [] = 0
visited H id (n ∷ nodes) = cond (is_element (kind_at H n)) (1 + cond (has_id H id n) 0 (visited H id nodes)) (visited H id nodes)

-- a place is asked, with the heap's answer
abbrev pub ask_at : Heap → CellName → Slot → Act
ask_at H n slot = asked (place n slot) (H.at (place n slot))

-- a node is looked at: its kind is the heap's
abbrev pub look_at : Heap → CellName → Act
look_at H n = looked n (kind_at H n)

-- What is done with these nodes: each is looked at, and an element is asked for its id and then for its children, up to
-- the element that has the id.
abbrev pub visits : Heap → List ℕ → List CellName → List Act
visits H id [] = []
visits H id (n ∷ nodes) =
    look_at H n
    ∷ cond (is_element (kind_at H n))
    (ask_at H n (s.Attr (codes "id")) ∷ cond (has_id H id n) [] (ask_at H n s.Children ∷ visits H id nodes))
    (visits H id nodes)

-- What finding an element by an id gives and does; no element counts as having the empty id, and nothing is done for it.
pub record Finds (H : Heap) (id : List ℕ) (cell : Option CellName) (count : ℕ) (acts : List Act) : Type 0 where
  pub nodes : List CellName
  pub ordered : InTreeOrder H (children_at H document_cell) nodes
  pub found : cell ≡ cond (nat_lt 0 (length id)) (first_with H id nodes) None
  pub counted : count ≡ cond (nat_lt 0 (length id)) (visited H id nodes) 0
  pub done : acts ≡ cond (nat_lt 0 (length id)) (ask_at H document_cell s.Children ∷ visits H id nodes) []
