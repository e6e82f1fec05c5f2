-- The nodes of a sound heap, in tree order: each once, so no more than there are cells.
use Rattle.std.proofs.Common.{◌≡◌, ℕ, suc, ◌<◌, ◌≤◌, length, Some, slice_get, List, [], ◌∷◌, ◌++◌, Bool, true, false, cond, ◌||◌, refl, ap, sym, ◌∙◌, subst, inl, inr, ◌⊎◌, arith}
use Rattle.std.specs.List.{list_any, IsDistinct, AllByRecursion}
use Rattle.std.proofs.lemmas.Bool.{eqb-true, ne_eqb}
use Rattle.std.proofs.lemmas.Map.Steps.{length-le_from_distinct_below}
use lib.Dec.{eqb}
use Rattle.page_units.specs.declared.value.CellName.{CellName}
use Rattle.page_units.specs.declared.value.Value.TheVariants as v
use Rattle.cell_places.specs.declared.kind.CellKind.TheVariants as kind
use Rattle.cell_places.specs.declared.answer.Answer.TheVariants as a
use Rattle.cell_places.specs.Lists.{Every, Among, Distinct}
use Rattle.cell_places.specs.Kinds.{is_element, is_document, is_node}
use Rattle.cell_places.specs.Heap.{Heap, cell, kind_at, children_at}
use Rattle.cell_places.specs.Known.{document_cell}
use Rattle.cell_places.specs.Valid.{IsValid}
use Rattle.cell_places.specs.Sound.{HasParent, up, IsSound}
use Rattle.cell_places.proofs.Grown.{kind-start}
use Rattle.tree_shape.specs.Trees.{Trees}
use Rattle.tree_shape.specs.Holds as holds
use Rattle.tree_shape.specs.Holds.{Holds}
use Rattle.dom_tree.specs.Ids as ids
use Rattle.dom_tree.specs.Ids.{InTreeOrder}
use Rattle.dom_tree.specs.Searched.{CanSearch}
use Rattle.tree_shape.proofs.Depths.{depth, depth_once}
use Rattle.tree_shape.proofs.Nodes.{kind_found, children_there}
use Rattle.tree_shape.proofs.SoundTrees.{Form, sound_form}

-- ---- the nodes of trees

-- cells that hold trees have an order of nodes
pub nodes_held : (H : Heap) (cells : List CellName) (trees : Trees) → Holds H cells trees → (nodes : List CellName) × InTreeOrder H cells nodes
nodes_held H _ _ holds.none = ([], ids.none)
nodes_held H _ _ (holds.text n cells more k rest) =
    let others = nodes_held H cells more rest in
    (n ∷ others.0, ids.other n cells others.0 (ap is_element k) others.1)
nodes_held H _ _ (holds.element n name cells children more k below rest) =
    let inner = nodes_held H _ children below in
    let others = nodes_held H cells more rest in
    (n ∷ inner.0 ++ others.0, ids.element n cells inner.0 others.0 (ap is_element k) inner.1 others.1)

-- ---- words on lists

among_append : (m : CellName) (xs ys : List CellName) → Among m (xs ++ ys) → Among m xs ⊎ Among m ys
among_append m [] ys h = inr h
among_append m (x ∷ xs) ys h =
    elim h [ inl e ↦ inl (inl e) | inr i ↦ elim (among_append m xs ys i) [ inl j ↦ inl (inr j) | inr j ↦ inr j ] ]

every_append : (P : CellName → Type 0) (xs ys : List CellName) → Every P xs → Every P ys → Every P (xs ++ ys)
every_append P [] ys h k = k
every_append P (x ∷ xs) ys h k = (h.0, every_append P xs ys h.1 k)

distinct_append : (xs ys : List CellName) → Distinct xs → Distinct ys → ((m : CellName) → Among m xs → Among m ys → ⊥) → Distinct (xs ++ ys)
distinct_append [] ys h k apart = k
distinct_append (x ∷ xs) ys h k apart = (
  (λ i. elim (among_append x xs ys i) [ inl j ↦ h.0 j | inr j ↦ apart x (inl refl) j ]),
  distinct_append xs ys h.1 k (λ m i j. apart m (inr i) j),
)

numbers : List CellName → List ℕ
numbers [] = []
numbers (x ∷ xs) = x.0 ∷ numbers xs

length_numbers : (xs : List CellName) → length (numbers xs) ≡ length xs
unfolding numbers
length_numbers [] = refl
length_numbers (x ∷ xs) = ap suc (length_numbers xs)

apart_numbers : (x : CellName) (xs : List CellName) → (Among x xs → ⊥) → AllByRecursion (λ y. eqb x.0 y ≡ false) (numbers xs)
unfolding numbers
apart_numbers x [] h = tt
apart_numbers x (y ∷ ys) h = (ne_eqb x.0 y.0 (λ (e : x.0 ≡ y.0). h (inl (ap cell (sym e)))), apart_numbers x ys (λ i. h (inr i)))

distinct_numbers : (xs : List CellName) → Distinct xs → IsDistinct eqb (numbers xs)
unfolding numbers IsDistinct
distinct_numbers [] h = tt
distinct_numbers (x ∷ xs) h = (apart_numbers x xs h.0, distinct_numbers xs h.1)

or_cases : (x y : Bool) → x || y ≡ true → (x ≡ true) ⊎ (y ≡ true)
or_cases true y h = inl refl
or_cases false y h = inr h

numbers_below : (n : ℕ) (xs : List CellName) → Every (λ (m : CellName). m.0 < n) xs → (q : ℕ) → list_any (eqb q) (numbers xs) ≡ true → q < n
unfolding numbers
numbers_below n [] h q e = absurd (cc)
numbers_below n (x ∷ xs) h q e =
    elim (or_cases (eqb q x.0) (list_any (eqb q) (numbers xs)) e) [
      | inl f ↦ (let same = eqb-true q x.0 f in let below = h.0 in omega arith)
      | inr f ↦ numbers_below n xs h.1 q f
    ]

-- distinct cells that are there are no more than there are cells
distinct_there : (n : ℕ) (xs : List CellName) → Distinct xs → Every (λ (m : CellName). m.0 < n) xs → length xs ≤ n
distinct_there n xs once there =
    omega (arith, length-le_from_distinct_below (numbers xs) n (distinct_numbers xs once) (numbers_below n xs there), length_numbers xs)

-- ---- a cell and those below it

-- n is m or stands above it
data Above (H : Heap) (n : CellName) : CellName → Type 0 where
  here : (m : CellName) → n ≡ m → Above H n m
  over : (m p : CellName) → HasParent H m p → Above H n p → Above H n m

deep : (codes : ℕ) (H : Heap) → IsSound codes H → CellName → ℕ
deep codes H sound n = depth H n (sound.nodes.ends n)

child_deep : (codes : ℕ) (H : Heap) (sound : IsSound codes H) (m p : CellName) → HasParent H m p → deep codes H sound m ≡ suc (deep codes H sound p)
unfolding deep
child_deep codes H sound m p has = depth_once H m m refl (sound.nodes.ends m) (up m p has (sound.nodes.ends p))

above_deep : (codes : ℕ) (H : Heap) (sound : IsSound codes H) (n m : CellName) → Above H n m → deep codes H sound n ≤ deep codes H sound m
above_deep codes H sound n m (here _ e) = let same = ap (deep codes H sound) e in omega arith
above_deep codes H sound n m (over _ p has rest) =
    omega (arith, above_deep codes H sound n p rest, child_deep codes H sound m p has)

one_parent : (H : Heap) (m p q : CellName) → HasParent H m p → HasParent H m q → p ≡ q
one_parent H m p q h k = let both : a.One (v.Cell p) ≡ a.One (v.Cell q) = sym h ∙ k in cc

-- of cells at one depth one at most stands above another
one_above : (codes : ℕ) (H : Heap) (sound : IsSound codes H) (n o m : CellName) → deep codes H sound n ≡ deep codes H sound o → Above H n m → Above H o m → n ≡ o
one_above codes H sound n o m same (here _ e) (here _ f) = e ∙ sym f
one_above codes H sound n o m same (here _ e) (over _ p has rest) =
    absurd (omega (arith, same, ap (deep codes H sound) e, above_deep codes H sound o p rest, child_deep codes H sound m p has))
one_above codes H sound n o m same (over _ p has rest) (here _ f) =
    absurd (omega (arith, same, ap (deep codes H sound) f, above_deep codes H sound n p rest, child_deep codes H sound m p has))
one_above codes H sound n o m same (over _ p has rest) (over _ q also others) =
    one_above codes H sound n o p same rest (subst (Above H o) (one_parent H m q p also has) others)

-- what stands above a child's descendants stands above the child's parent's
above_parent : (H : Heap) (c n m : CellName) → HasParent H c n → Above H c m → Above H n m
above_parent H c n m has (here _ e) = subst (Above H n) e (over c n has (here n refl))
above_parent H c n m has (over _ p also rest) = over m p also (above_parent H c n p has rest)

-- each node stands below one of the siblings
nodes_under : (codes : ℕ) (H : Heap) (sound : IsSound codes H) (cells nodes : List CellName) → InTreeOrder H cells nodes → (m : CellName) → Among m nodes → (c : CellName) × Among c cells × Above H c m
nodes_under codes H sound _ _ ids.none m h = absurd h
nodes_under codes H sound _ _ (ids.other n cells found k rest) m h =
    elim h [
      | inl e ↦ (n, inl refl, here m e)
      | inr i ↦ (let one = nodes_under codes H sound cells found rest m i in (one.0, inr one.1, one.2))
    ]
nodes_under codes H sound _ _ (ids.element n cells below found k inner rest) m h =
    elim h [
      | inl e ↦ (n, inl refl, here m e)
      | inr i ↦ elim (among_append m below found i) [
        | inl j ↦ (let one = nodes_under codes H sound (children_at H n) below inner m j in (n, inl refl, above_parent H one.0 n m (sound.nodes.parents n one.0 one.1) one.2))
        | inr j ↦ (let one = nodes_under codes H sound cells found rest m j in (one.0, inr one.1, one.2))
      ]
    ]

-- the nodes among distinct cells at one depth, and below them, are distinct
nodes_once : (codes : ℕ) (H : Heap) (sound : IsSound codes H) (level : ℕ) (cells nodes : List CellName) → InTreeOrder H cells nodes → Distinct cells → ((c : CellName) → Among c cells → deep codes H sound c ≡ level) → Distinct nodes
nodes_once codes H sound level _ _ ids.none once flat = tt
nodes_once codes H sound level _ _ (ids.other n cells found k rest) once flat = (
  (λ i.
      let one = nodes_under codes H sound cells found rest n i in
      once.0 (subst (λ z. Among z cells) (sym (one_above codes H sound n one.0 n (flat n (inl refl) ∙ sym (flat one.0 (inr one.1))) (here n refl) one.2)) one.1)),
  nodes_once codes H sound level cells found rest once.1 (λ c i. flat c (inr i)),
)
nodes_once codes H sound level _ _ (ids.element n cells below found k inner rest) once flat =
    let within : (m : CellName) → Among m below → (c : CellName) × Among c (children_at H n) × Above H c m = nodes_under codes H sound (children_at H n) below inner in
    let beside : (m : CellName) → Among m found → (c : CellName) × Among c cells × Above H c m = nodes_under codes H sound cells found rest in
    let lower : (c : CellName) → Among c (children_at H n) → deep codes H sound c ≡ suc (deep codes H sound n) = λ c i. child_deep codes H sound c n (sound.nodes.parents n c i) in
    let never : (m c : CellName) → Above H n m → Among c cells → Above H c m → ⊥ =
    λ m c i j l. once.0 (subst (λ z. Among z cells) (sym (one_above codes H sound n c m (flat n (inl refl) ∙ sym (flat c (inr j))) i l)) j) in (
      (λ i. elim (among_append n below found i) [
        | inl j ↦ (let one = within n j in absurd (omega (arith, lower one.0 one.1, above_deep codes H sound one.0 n one.2)))
        | inr j ↦ (let one = beside n j in never n one.0 (here n refl) one.1 one.2)
      ]),
      distinct_append below found
          (nodes_once codes H sound (suc (deep codes H sound n)) (children_at H n) below inner (sound.nodes.once n) lower)
          (nodes_once codes H sound level cells found rest once.1 (λ c i. flat c (inr i)))
          (λ m i j. let one = within m i in let other = beside m j in never m other.0 (above_parent H one.0 n m (sound.nodes.parents n one.0 one.1) one.2) other.1 other.2),
    )

-- ---- cells that are there

-- the nodes among cells that are there, and below them, are there
pub nodes_there : (H : Heap) → IsValid H → (cells nodes : List CellName) → InTreeOrder H cells nodes → Every (λ (n : CellName). n.0 < length H.kinds) cells → Every (λ (n : CellName). n.0 < length H.kinds) nodes
nodes_there H valid _ _ ids.none there = tt
nodes_there H valid _ _ (ids.other n cells found k rest) there = (there.0, nodes_there H valid cells found rest there.1)
nodes_there H valid _ _ (ids.element n cells below found k inner rest) there =
    (there.0, every_append (λ (m : CellName). m.0 < length H.kinds) below found (nodes_there H valid (children_at H n) below inner (children_there H valid n)) (nodes_there H valid cells found rest there.1))

-- ---- the document

pub document_kind : (codes : ℕ) (H : Heap) → IsSound codes H → slice_get H.kinds 2 ≡ Some kind.Document
document_kind codes H sound = kind-start H.kinds sound.start 2 kind.Document refl

-- what is below the document can be searched
pub sound_search : (codes : ℕ) (H : Heap) → IsSound codes H → CanSearch H (children_at H document_cell) 0
sound_search codes H sound =
    let is : kind_at H document_cell ≡ kind.Document = kind_found H document_cell kind.Document (document_kind codes H sound) in
    let served_form = sound_form codes H document_cell sound (ap is_node is) in
    let form : Form H (children_at H document_cell) = subst (λ (b : Bool). Form H (cond b (children_at H document_cell) (document_cell ∷ []))) (ap is_document is) served_form in
    let held = nodes_held H (children_at H document_cell) form.0 form.1 in
    let once = nodes_once codes H sound (suc (deep codes H sound document_cell)) (children_at H document_cell) held.0 held.1 (sound.nodes.once document_cell)
    (λ c i. child_deep codes H sound c document_cell (sound.nodes.parents document_cell c i)) in
    let there = children_there H sound.valid document_cell in
    let bound = distinct_there (length H.kinds) held.0 once (nodes_there H sound.valid (children_at H document_cell) held.0 held.1 there) in
    record {
      valid = sound.valid;
      there = there;
      nodes = held.0;
      ordered = held.1;
      room = omega (arith, bound, sound.valid.count);
    }
