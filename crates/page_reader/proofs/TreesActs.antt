-- What the acts of planting trees put, and how many cells they make.
use Rattle.std.proofs.Common.{◌≡◌, ◌≢◌, ℕ, ◌+◌, ◌-◌, ◌<◌, ◌≤◌, length, slice_get, Some, List, [], ◌∷◌, ◌++◌, Bool, true, false, refl, ap, ◌∙◌, subst, arith}
use Rattle.page_units.specs.declared.value.CellName.{CellName}
use Rattle.page_units.specs.declared.value.Value.TheVariants as v
use Rattle.cell_places.specs.declared.place.Place.{Place}
use Rattle.cell_places.specs.declared.place.Slot.{Slot}
use Rattle.cell_places.specs.declared.place.Slot.TheVariants as s
use Rattle.cell_places.specs.declared.answer.Answer.TheVariants as a
use Rattle.cell_places.specs.declared.kind.CellKind.{CellKind}
use Rattle.cell_places.specs.declared.kind.CellKind.TheVariants.{Element, Chars}
use Rattle.cell_places.specs.Heap.{Heap, cell, place, weight_left}
use Rattle.cell_places.specs.Acts.{Act, placed, moved, after}
use Rattle.cell_places.proofs.Grown.{slice_get-last, length-grown}
use Rattle.cell_places.proofs.Spared.{PutsIn, PutsIn-map, PutsIn-append, Spares, after-append, after-weight}
use Rattle.tree_shape.specs.Trees.{Trees, Attribute, HaveNamesOnce, none, text, element}
use Rattle.page_reader.specs.Planting.{node_count, root_names, node_acts, attribute_acts, children_acts, trees_acts}
use Rattle.page_reader.proofs.AttributesPut.{attributes_puts, attributes_heap}

-- the heap with a node of this kind under its parent
abbrev pub with_node : Heap → ℕ → CellKind → CellName → Heap
with_node H n kind parent = after H (node_acts n kind parent)

-- the heap with a text under its parent
abbrev pub with_text : Heap → ℕ → List ℕ → CellName → Heap
with_text H n units parent = moved (with_node H n Chars parent) (placed (place (cell n) s.Chars) (a.One (v.Str units)))

-- the heap with an element and its attributes under its parent
abbrev pub with_element : Heap → ℕ → List ℕ → List Attribute → CellName → Heap
with_element H n name attributes parent = after (with_node H n (Element name) parent) (attribute_acts (cell n) attributes)

-- the heap with an element's children under it
abbrev pub with_inner : Heap → ℕ → Trees → Heap
with_inner H n children = after (after H (trees_acts (cell n) (n + 1) children)) (children_acts (cell n) (root_names (n + 1) children))

-- an element, all that is in it, and the later siblings
pub element_after : (H : Heap) (p : CellName) (n : ℕ) (name : List ℕ) (attributes : List Attribute) (children more : Trees)
    → after H (trees_acts p n (element name attributes children more)) ≡ after (with_inner (with_element H n name attributes p) n children) (trees_acts p (n + 1 + node_count children) more)
element_after H p n name attributes children more =
    let G = with_node H n (Element name) p in
    let own = attribute_acts (cell n) attributes in
    let inner = trees_acts (cell n) (n + 1) children in
    let list = children_acts (cell n) (root_names (n + 1) children) in
    let later = trees_acts p (n + 1 + node_count children) more in
    after-append G (own ++ (inner ++ list)) later ∙ ap (λ (K : Heap). after K later) (after-append G own (inner ++ list) ∙ after-append (after G own) inner list)

-- ---- how many cells are made

-- the kind of the next cell
pub kind_new : (H : Heap) (k : CellKind) (n : ℕ) → length H.kinds ≡ n → slice_get (H.kinds ++ k ∷ []) n ≡ Some k
kind_new H k n e = subst (λ (m : ℕ). slice_get (H.kinds ++ k ∷ []) m ≡ Some k) e (slice_get-last H.kinds k)

-- a list of children makes no cell
pub children_length : (H : Heap) (p : CellName) (cs : List CellName) → (after H (children_acts p cs)).kinds ≡ H.kinds
children_length H p [] = refl
children_length H p (c ∷ cs) = refl

-- nor do attributes
pub element_kinds : (H : Heap) (n : ℕ) (name : List ℕ) (attributes : List Attribute) (p : CellName) → (with_element H n name attributes p).kinds ≡ H.kinds ++ Element name ∷ []
element_kinds H n name attributes p = ap (λ (K : Heap). K.kinds) (attributes_heap (with_node H n (Element name) p) (cell n) attributes)

-- and they charge nothing
pub element_weight : (H : Heap) (n : ℕ) (name : List ℕ) (attributes : List Attribute) (p : CellName) → weight_left (with_element H n name attributes p) ≡ weight_left H
element_weight H n name attributes p = ap (λ (K : Heap). weight_left K) (attributes_heap (with_node H n (Element name) p) (cell n) attributes)

-- trees make a cell for each node
pub trees_length : (trees : Trees) (H : Heap) (p : CellName) (n : ℕ) → HaveNamesOnce trees → length (after H (trees_acts p n trees)).kinds ≡ length H.kinds + node_count trees
trees_length none H p n h = omega arith
trees_length (text units more) H p n h =
    let later = trees_length more (with_text H n units p) p (n + 1) h in
    let one = length-grown H.kinds Chars in
    omega arith
trees_length (element name attributes children more) H p n h =
    let G = with_element H n name attributes p in
    let made = ap (λ (ks : List CellKind). length ks) (element_kinds H n name attributes p) in
    let one = length-grown H.kinds (Element name) in
    let inner = trees_length children G (cell n) (n + 1) h.1 in
    let list = ap (λ (ks : List CellKind). length ks) (children_length (after G (trees_acts (cell n) (n + 1) children)) (cell n) (root_names (n + 1) children)) in
    let later = trees_length more (with_inner G n children) p (n + 1 + node_count children) h.2 in
    let whole = ap (λ (K : Heap). length K.kinds) (element_after H p n name attributes children more) in
    omega arith

-- ---- where they put

-- the slots of nodes that planting puts
abbrev pub is_planted : Slot → Bool
is_planted s.Proto = true
is_planted s.Parent = true
is_planted s.Children = true
is_planted (s.Attr name) = true
is_planted s.AttrNames = true
is_planted s.Chars = true
is_planted _ = false

-- a cell from n to before m, and such a slot
pub record IsOf (n m : ℕ) (q : Place) : Type 0 where
  pub from : n ≤ q.cell.0
  pub to : q.cell.0 < m
  pub slot : is_planted q.slot ≡ true

-- a place among fewer cells is one among more
pub IsOf-more : (n m k l : ℕ) → k ≤ n → m ≤ l → (q : Place) → IsOf n m q → IsOf k l q
IsOf-more n m k l le ge q h = record { from = let f = h.from in omega arith; to = let t = h.to in omega arith; slot = h.slot }

-- a list of children is put at one place at most
pub children_puts : (D : Place → Type 0) (p : CellName) (cs : List CellName) → D (place p s.Children) → PutsIn D (children_acts p cs)
children_puts D p [] h = tt
children_puts D p (c ∷ cs) h = (h, tt)

-- planting puts at its own cells alone
pub trees_puts : (trees : Trees) (p : CellName) (n : ℕ) → HaveNamesOnce trees → PutsIn (IsOf n (n + node_count trees)) (trees_acts p n trees)
trees_puts none p n h = tt
trees_puts (text units more) p n h =
    let m = n + (1 + node_count more) in (
      tt,
      (
        record { from = omega arith; to = omega arith; slot = refl },
        (
          record { from = omega arith; to = omega arith; slot = refl },
          (
            record { from = omega arith; to = omega arith; slot = refl },
            PutsIn-map (IsOf (n + 1) (n + 1 + node_count more)) (IsOf n m) (IsOf-more (n + 1) (n + 1 + node_count more) n m (omega arith) (omega arith)) (trees_acts p (n + 1) more) (trees_puts more p (n + 1) h),
          ),
        ),
      ),
    )
trees_puts (element name attributes children more) p n h =
    let m = n + (1 + (node_count children + node_count more)) in
    let k = n + 1 + node_count children in
    let own = attribute_acts (cell n) attributes in
    let inner = trees_acts (cell n) (n + 1) children in
    let list = children_acts (cell n) (root_names (n + 1) children) in
    let later = trees_acts p k more in (
      tt,
      (
        record { from = omega arith; to = omega arith; slot = refl },
        (
          record { from = omega arith; to = omega arith; slot = refl },
          PutsIn-append (IsOf n m) (own ++ (inner ++ list)) later
              (PutsIn-append (IsOf n m) own (inner ++ list)
              (attributes_puts (IsOf n m) (cell n) attributes (λ name. record { from = omega arith; to = omega arith; slot = refl }) (record { from = omega arith; to = omega arith; slot = refl }))
              (PutsIn-append (IsOf n m) inner list
              (PutsIn-map (IsOf (n + 1) k) (IsOf n m) (IsOf-more (n + 1) k n m (omega arith) (omega arith)) inner (trees_puts children (cell n) (n + 1) h.1))
              (children_puts (IsOf n m) (cell n) (root_names (n + 1) children) (record { from = omega arith; to = omega arith; slot = refl }))))
              (PutsIn-map (IsOf k (k + node_count more)) (IsOf n m) (IsOf-more k (k + node_count more) n m (omega arith) (omega arith)) later (trees_puts more p k h.2)),
        ),
      ),
    )

-- a place of an earlier cell, or behind them, is spared
pub trees_spare : (trees : Trees) (p : CellName) (n : ℕ) (q : Place) → HaveNamesOnce trees → (q.cell.0 < n) → Spares q (trees_acts p n trees)
trees_spare trees p n q h below =
    PutsIn-map (IsOf n (n + node_count trees)) (λ r. q ≢ r) (λ r is e. let c = ap (λ (x : Place). x.cell.0) e in let f = is.from in absurd (omega arith)) (trees_acts p n trees) (trees_puts trees p n h)

-- and one of a later cell
pub trees_spare_past : (trees : Trees) (p : CellName) (n : ℕ) (q : Place) → HaveNamesOnce trees → (n + node_count trees ≤ q.cell.0) → Spares q (trees_acts p n trees)
trees_spare_past trees p n q h past =
    PutsIn-map (IsOf n (n + node_count trees)) (λ r. q ≢ r) (λ r is e. let c = ap (λ (x : Place). x.cell.0) e in let t = is.to in absurd (omega arith)) (trees_acts p n trees) (trees_puts trees p n h)

-- ---- weights

-- acts that charge nothing leave as much
pub weight_after : (D : Place → Type 0) (H : Heap) (acts : List Act) → PutsIn D acts → weight_left (after H acts) ≡ weight_left H
weight_after D H acts h = let e = after-weight D H acts h in λ i. e.1 i - e.0 i

-- planting leaves as much weight
pub trees_weight : (trees : Trees) (H : Heap) (p : CellName) (n : ℕ) → HaveNamesOnce trees → weight_left (after H (trees_acts p n trees)) ≡ weight_left H
trees_weight trees H p n h = weight_after (IsOf n (n + node_count trees)) H (trees_acts p n trees) (trees_puts trees p n h)

-- and so does a list of children
pub children_weight : (H : Heap) (p : CellName) (cs : List CellName) → weight_left (after H (children_acts p cs)) ≡ weight_left H
children_weight H p [] = refl
children_weight H p (c ∷ cs) = refl
