-- A sound heap holds trees below each node.
use Rattle.std.proofs.Common.{◌≡◌, ℕ, zero, suc, ◌+◌, ◌≤◌, length, List, [], ◌∷◌, Bool, true, false, cond, refl, inl, inr, ◌⊎◌, arith}
use Rattle.page_units.specs.declared.value.CellName.{CellName}
use Rattle.cell_places.specs.declared.place.Slot.TheVariants as s
use Rattle.cell_places.specs.declared.kind.CellKind.{CellKind}
use Rattle.cell_places.specs.declared.kind.CellKind.TheVariants as kind
use Rattle.cell_places.specs.Lists.{Every, Among}
use Rattle.cell_places.specs.Kinds.{is_document, is_child, is_node}
use Rattle.cell_places.specs.Heap.{Heap, place, kind_at, text_in, children_at}
use Rattle.cell_places.specs.Sound.{up, IsSound}
use Rattle.tree_shape.specs.Trees.{Trees}
use Rattle.tree_shape.specs.Trees as t
use Rattle.tree_shape.specs.Holds as holds
use Rattle.tree_shape.specs.Holds.{Holds, served, attributes_at}
use Rattle.tree_shape.proofs.Depths.{kind_there, depth, depth_once, depth_below}

-- the cells hold trees
abbrev pub Form : Heap → List CellName → Type 0
Form H cells = (trees : Trees) × Holds H cells trees

-- what can be a child is a text node or an element
child_cases : (k : CellKind) → is_child k ≡ true → (k ≡ kind.Chars) ⊎ ((name : List ℕ) × (k ≡ kind.Element name))
child_cases (kind.Scope outer) h = absurd (cc)
child_cases kind.Plain h = absurd (cc)
child_cases kind.List h = absurd (cc)
child_cases (kind.Fault name) h = absurd (cc)
child_cases (kind.Fun code scope) h = absurd (cc)
child_cases (kind.Native which) h = absurd (cc)
child_cases kind.Page h = absurd (cc)
child_cases kind.Document h = absurd (cc)
child_cases (kind.Element name) h = inr (name, refl)
child_cases kind.Chars h = inl refl
child_cases kind.Event h = absurd (cc)

-- a node other than the document can be a child
node_child : (k : CellKind) → is_node k ≡ true → is_document k ≡ false → is_child k ≡ true
node_child (kind.Scope outer) h e = absurd (cc)
node_child kind.Plain h e = absurd (cc)
node_child kind.List h e = absurd (cc)
node_child (kind.Fault name) h e = absurd (cc)
node_child (kind.Fun code scope) h e = absurd (cc)
node_child (kind.Native which) h e = absurd (cc)
node_child kind.Page h e = absurd (cc)
node_child kind.Document h e = absurd (cc)
node_child (kind.Element name) h e = refl
node_child kind.Chars h e = refl
node_child kind.Event h e = absurd (cc)

every_of : {X : Type 0} (P : X → Type 0) (xs : List X) → ((x : X) → Among x xs → P x) → Every P xs
every_of P [] h = tt
every_of P (x ∷ xs) h = (h x (inl refl), every_of P xs (λ y among. h y (inr among)))

-- a child under which so many levels at most can lie
record Fits (codes : ℕ) (H : Heap) (sound : IsSound codes H) (room : ℕ) (n : CellName) : Type 0 where
  child : is_child (kind_at H n) ≡ true
  deep : length H.kinds ≤ depth H n (sound.nodes.ends n) + room

abbrev AllFit : (codes : ℕ) (H : Heap) → IsSound codes H → ℕ → List CellName → Type 0
AllFit codes H sound room cells = Every (Fits codes H sound room) cells

-- the children of a cell lie one deeper
children_fit : (codes : ℕ) (H : Heap) (sound : IsSound codes H) (room : ℕ) (n : CellName) → length H.kinds ≤ depth H n (sound.nodes.ends n) + suc room → AllFit codes H sound room (children_at H n)
children_fit codes H sound room n deep =
    every_of (Fits codes H sound room) (children_at H n) (λ m among. record {
      child = sound.nodes.kinds n m among;
      deep =
          let same = depth_once H m m refl (sound.nodes.ends m) (up m n (sound.nodes.parents n m among) (sound.nodes.ends n)) in
          omega arith;
    })

-- the first cell and the others
first_held : (H : Heap) (n : CellName) (cells : List CellName) → (kind_at H n ≡ kind.Chars) ⊎ ((name : List ℕ) × (kind_at H n ≡ kind.Element name)) → Form H (children_at H n) → Form H cells → Form H (n ∷ cells)
first_held H n cells (inl e) inner others = (t.text (text_in (H.at (place n s.Chars))) others.0, holds.text n cells others.0 e others.1)
first_held H n cells (inr e) inner others =
    (t.element e.0 (attributes_at H n) inner.0 others.0, holds.element n e.0 cells inner.0 others.0 e.1 inner.1 others.1)

siblings_held : (codes : ℕ) (H : Heap) (sound : IsSound codes H) (room : ℕ) → ((n : CellName) → Fits codes H sound room n → Form H (children_at H n)) → (cells : List CellName) → AllFit codes H sound room cells → Form H cells
siblings_held codes H sound room inner [] fit = (t.none, holds.none)
siblings_held codes H sound room inner (n ∷ cells) fit =
    first_held H n cells (child_cases (kind_at H n) fit.0.child) (inner n fit.0) (siblings_held codes H sound room inner cells fit.1)

-- no cell has no room
no_room : (codes : ℕ) (H : Heap) (sound : IsSound codes H) (n : CellName) → Fits codes H sound 0 n → ⊥
no_room codes H sound n fit =
    let there = kind_there is_child refl H.kinds n.0 fit.child in
    let less = depth_below H sound.valid sound.nodes.ends n there in
    let deep = fit.deep in
    absurd (omega arith)

cells_held : (codes : ℕ) (H : Heap) (sound : IsSound codes H) (room : ℕ) (cells : List CellName) → AllFit codes H sound room cells → Form H cells
cells_held codes H sound zero cells fit = siblings_held codes H sound 0 (λ n one. absurd (no_room codes H sound n one)) cells fit
cells_held codes H sound (suc room) cells fit =
    siblings_held codes H sound (suc room) (λ n one. cells_held codes H sound room (children_at H n) (children_fit codes H sound room n one.deep)) cells fit

served_held : (codes : ℕ) (H : Heap) (sound : IsSound codes H) (n : CellName) (b : Bool) → is_document (kind_at H n) ≡ b → is_node (kind_at H n) ≡ true → Form H (cond b (children_at H n) (n ∷ []))
served_held codes H sound n true e h =
    cells_held codes H sound (length H.kinds) (children_at H n) (children_fit codes H sound (length H.kinds) n (omega arith))
served_held codes H sound n false e h =
    cells_held codes H sound (length H.kinds) (n ∷ []) (record { child = node_child (kind_at H n) h e; deep = omega arith }, tt)

-- so what is served for a node is trees
pub sound_form : (codes : ℕ) (H : Heap) (n : CellName) → IsSound codes H → is_node (kind_at H n) ≡ true → Form H (served H n)
sound_form codes H n sound h = served_held codes H sound n (is_document (kind_at H n)) refl h
