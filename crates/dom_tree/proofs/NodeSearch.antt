-- A search at one node.
use Rattle.std.proofs.Common.{◌≡◌, ℕ, ◌+◌, ◌<◌, ◌≤◌, length, List, [], ◌∷◌, ◌++◌, Bool, true, false, cond, ◌||◌, ◌&&◌, Option, Some, None, slice_get, ap, sym, ◌∙◌, arith, codes}
use Rattle.std.proofs.lemmas.List.{append-nil}
use Rattle.page_units.specs.declared.value.CellName.{CellName}
use Rattle.cell_places.specs.declared.place.Slot.TheVariants as s
use Rattle.cell_places.specs.declared.kind.CellKind.{CellKind}
use Rattle.cell_places.specs.declared.answer.Answer.{Answer}
use Rattle.cell_places.specs.Kinds.{is_element, is_document, is_parent}
use Rattle.cell_places.specs.Heap.{Heap, place, kind_at, is_text, children_at}
use Rattle.cell_places.specs.Acts.{asked}
use Rattle.cell_places.specs.View.{View, step, run}
use Rattle.dom_tree.specs.Ids as ids
use Rattle.dom_tree.specs.Ids.{InTreeOrder, has_id, first_with, visited, visits, ask_at, look_at}
use Rattle.dom_tree.specs.Searched.{CanSearch, Searched}
use Rattle.tree_shape.proofs.Nodes.{kind_found, children_there}
use Rattle.dom_tree.proofs.Searching.{nodes_alike}

-- whether a cell of a kind that was found is an element
pub element_is : (H : Heap) (n : CellName) (k : CellKind) (b is : Bool) → slice_get H.kinds n.0 ≡ Some k → b ≡ is_element k → b ≡ is → is_element (kind_at H n) ≡ is
element_is H n k b is e f h = ap is_element (kind_found H n k e) ∙ (sym f ∙ h)

-- an element can have children
pub element_parent : (k : CellKind) (b : Bool) → b ≡ is_element k → b ≡ true → is_parent k ≡ true
element_parent k b e h = ap (λ x. x || is_document k) (sym e ∙ h)

-- ---- another cell

lone : (H : Heap) (n : CellName) (nodes : List CellName) → InTreeOrder H (n ∷ []) nodes → is_element (kind_at H n) ≡ false → nodes ≡ n ∷ []
lone H _ _ (ids.other n cells found k rest) e = ap (λ (xs : List CellName). n ∷ xs) (nodes_alike H [] found [] rest ids.none)
lone H _ _ (ids.element n cells below found k under rest) e = absurd (cc)

-- where it is no element, nothing is asked
pub other_searched : (H : Heap) (id : List ℕ) (v : View) (n : CellName) (count : ℕ) → is_element (kind_at H n) ≡ false → (nodes : List CellName) → InTreeOrder H (n ∷ []) nodes → Searched H id v v nodes None count count
other_searched H id v n count k nodes h =
    let one = lone H n nodes h k in
    let has = has_id H id n in
    record {
      found = sym (ap (first_with H id) one ∙ ap (λ b. cond (b && has) (Some n) None) k);
      counted = omega (arith, ap (visited H id) one ∙ ap (λ b. cond b (1 + cond has 0 0) 0) k);
      done = sym (ap (λ xs. run v (visits H id xs)) one ∙ ap (λ b. run v (look_at H n ∷ cond b (ask_at H n (s.Attr (codes "id")) ∷ cond has [] (ask_at H n s.Children ∷ [])) [])) k);
    }

-- ---- an element

-- it comes first, and those below it follow
record Below (H : Heap) (n : CellName) (nodes : List CellName) : Type 0 where
  below : List CellName
  ordered : InTreeOrder H (children_at H n) below
  all : nodes ≡ n ∷ below

below_of : (H : Heap) (n : CellName) (nodes : List CellName) → InTreeOrder H (n ∷ []) nodes → is_element (kind_at H n) ≡ true → Below H n nodes
below_of H _ _ (ids.other n cells found k rest) e = absurd (cc)
below_of H _ _ (ids.element n cells below found k under rest) e = record {
  below = below;
  ordered = under;
  all = ap (λ xs. n ∷ (below ++ xs)) (nodes_alike H [] found [] rest ids.none) ∙ ap (λ (xs : List CellName). n ∷ xs) (append-nil below);
}

-- what is found among it and the others, counted and done, where it has the id or hasn't
first_by : (H : Heap) (id : List ℕ) (n : CellName) (below : List CellName) (has : Bool) → is_element (kind_at H n) ≡ true → has_id H id n ≡ has → first_with H id (n ∷ below) ≡ cond has (Some n) (first_with H id below)
first_by H id n below has k e = ap (λ b. cond (b && has_id H id n) (Some n) (first_with H id below)) k ∙ ap (λ b. cond b (Some n) (first_with H id below)) e

count_by : (H : Heap) (id : List ℕ) (n : CellName) (below : List CellName) (has : Bool) → is_element (kind_at H n) ≡ true → has_id H id n ≡ has → visited H id (n ∷ below) ≡ 1 + cond has 0 (visited H id below)
count_by H id n below has k e =
    ap (λ b. cond b (1 + cond (has_id H id n) 0 (visited H id below)) (visited H id below)) k ∙ ap (λ b. 1 + cond b 0 (visited H id below)) e

visits_by : (H : Heap) (id : List ℕ) (n : CellName) (below : List CellName) (has : Bool) → is_element (kind_at H n) ≡ true → has_id H id n ≡ has
    → visits H id (n ∷ below) ≡ look_at H n ∷ ask_at H n (s.Attr (codes "id")) ∷ cond has [] (ask_at H n s.Children ∷ visits H id below)
visits_by H id n below has k e =
    let next = visits H id below in
    ap (λ b. look_at H n ∷ cond b (ask_at H n (s.Attr (codes "id")) ∷ cond (has_id H id n) [] (ask_at H n s.Children ∷ next)) next) k
    ∙ ap (λ b. look_at H n ∷ ask_at H n (s.Attr (codes "id")) ∷ cond b [] (ask_at H n s.Children ∷ next)) e

-- the answer for the id is the heap's
asked_id : (H : Heap) (n : CellName) (name : List ℕ) (answer : Answer) → name ≡ codes "id" → answer ≡ H.at (place n (s.Attr name)) → asked (place n (s.Attr name)) answer ≡ ask_at H n (s.Attr (codes "id"))
asked_id H n name answer e f = ap (asked (place n (s.Attr name))) f ∙ ap (λ x. ask_at H n (s.Attr x)) e

id_is : (H : Heap) (id : List ℕ) (n : CellName) (name : List ℕ) (answer : Answer) (b is : Bool) → name ≡ codes "id" → answer ≡ H.at (place n (s.Attr name)) → b ≡ is_text id answer → b ≡ is → has_id H id n ≡ is
id_is H id n name answer b is e f h k = sym (ap (is_text id) f ∙ ap (λ x. is_text id (H.at (place n (s.Attr x)))) e) ∙ (sym h ∙ k)

-- where it has the id, no other is asked
pub here_searched : (H : Heap) (id : List ℕ) (v w : View) (n : CellName) (count : ℕ) (name : List ℕ) (answer : Answer) (b : Bool) → is_element (kind_at H n) ≡ true → name ≡ codes "id" → answer ≡ H.at (place n (s.Attr name))
    → w ≡ step v (asked (place n (s.Attr name)) answer) → b ≡ is_text id answer → b ≡ true → (nodes : List CellName) → InTreeOrder H (n ∷ []) nodes → Searched H id v w nodes (Some n) count (count + 1)
here_searched H id v w n count name answer b k e f asks h is nodes ordered =
    let u = below_of H n nodes ordered k in
    let has = id_is H id n name answer b true e f h is in
    record {
      found = sym (ap (first_with H id) u.all ∙ first_by H id n u.below true k has);
      counted = omega (arith, ap (visited H id) u.all ∙ count_by H id n u.below true k has);
      done =
          asks
          ∙ ap (step v) (asked_id H n name answer e f)
          ∙ ap (run v) (sym (visits_by H id n u.below true k has))
          ∙ ap (λ xs. run v (visits H id xs)) (sym u.all);
    }

-- where it hasn't, those below it are asked
pub below_searched : (H : Heap) (id : List ℕ) (v w x y : View) (n : CellName) (cell : Option CellName) (count new : ℕ) (name : List ℕ) (answer children : Answer) (b : Bool) → is_element (kind_at H n) ≡ true → name ≡ codes "id" → answer ≡ H.at (place n (s.Attr name))
    → w ≡ step v (asked (place n (s.Attr name)) answer) → b ≡ is_text id answer → b ≡ false
    → children ≡ H.at (place n s.Children) → x ≡ step w (asked (place n s.Children) children)
    → ((nodes : List CellName) → InTreeOrder H (children_at H n) nodes → Searched H id x y nodes cell (count + 1) new)
    → (nodes : List CellName) → InTreeOrder H (n ∷ []) nodes → Searched H id v y nodes cell count new
below_searched H id v w x y n cell count new name answer children b k e f asks h is g then says nodes ordered =
    let u = below_of H n nodes ordered k in
    let has = id_is H id n name answer b false e f h is in
    let slot = s.Attr (codes "id") in
    let inner = says u.below u.ordered in
    let one : w ≡ step v (ask_at H n slot) = asks ∙ ap (step v) (asked_id H n name answer e f) in
    let two : x ≡ step (step v (ask_at H n slot)) (ask_at H n s.Children) = then ∙ ap (λ z. step w (asked (place n s.Children) z)) g ∙ ap (λ z. step z (ask_at H n s.Children)) one in
    record {
      found = inner.found ∙ sym (ap (first_with H id) u.all ∙ first_by H id n u.below false k has);
      counted = omega (arith, inner.counted, ap (visited H id) u.all ∙ count_by H id n u.below false k has);
      done =
          inner.done
          ∙ ap (λ z. run z (visits H id u.below)) two
          ∙ ap (run v) (sym (visits_by H id n u.below false k has))
          ∙ ap (λ xs. run v (visits H id xs)) (sym u.all);
    }

-- ---- the children can be searched in their turn

pub children_can : (H : Heap) (n : CellName) (count : ℕ) → CanSearch H (n ∷ []) count → is_element (kind_at H n) ≡ true → (count < 4000000000) × CanSearch H (children_at H n) (count + 1)
children_can H n count can k =
    let u = below_of H n can.nodes can.ordered k in
    let one : count + (1 + length u.below) ≤ 4000000000 = omega (arith, can.room, ap length u.all) in (
      omega (arith, one),
      record {
        valid = can.valid;
        there = children_there H can.valid n;
        nodes = u.below;
        ordered = u.ordered;
        room = omega (arith, one);
      },
    )
