-- What a search below the document finds.
use Rattle.std.proofs.Common.{◌≡◌, ℕ, length, List, [], ◌∷◌, Bool, true, false, cond, ◌&&◌, nat_eq, nat_lt, zero, suc, ◌<◌, slice_get, Option, Some, None, IfSome, refl, ap, sym, ◌∙◌, subst, arith}
use Rattle.std.proofs.lemmas.Bool.{lt-ltb}
use Rattle.std.proofs.Math.Dec.{eqb-suc-zero}
use Rattle.page_units.specs.declared.value.CellName.{CellName}
use Rattle.cell_places.specs.declared.place.Slot.TheVariants as s
use Rattle.cell_places.specs.declared.place.Place.{Place}
use Rattle.cell_places.specs.declared.kind.CellKind.{CellKind}
use Rattle.cell_places.specs.declared.answer.Answer.{Answer}
use Rattle.cell_places.specs.Lists.{Every}
use Rattle.cell_places.specs.Kinds.{is_element}
use Rattle.cell_places.specs.Heap.{Heap, place, or_plain, kind_at, children_at}
use Rattle.cell_places.specs.Known.{document_cell}
use Rattle.cell_places.specs.Acts.{Act, asked, FitsOne, Fits}
use Rattle.cell_places.specs.View.{View, step, run}
use Rattle.dom_tree.specs.Ids.{Finds, has_id, first_with, visited, visits, ask_at, look_at}
use Rattle.dom_tree.specs.Searched.{CanSearch, Searched}
use Rattle.dom_tree.proofs.Searching.{nodes_alike}
use Rattle.dom_tree.proofs.SoundOrder.{nodes_there}

-- ---- the empty id and others

pub id_empty : (id : List ℕ) (b : Bool) → b ≡ nat_eq (length id) 0 → b ≡ true → nat_lt 0 (length id) ≡ false
id_empty [] b e h = refl
id_empty (x ∷ xs) b e h = let never = eqb-suc-zero (length xs) in absurd (cc)

pub id_there : (id : List ℕ) (b : Bool) → b ≡ nat_eq (length id) 0 → b ≡ false → nat_lt 0 (length id) ≡ true
id_there [] b e h = absurd (cc)
id_there (x ∷ xs) b e h = lt-ltb 0 (length (x ∷ xs)) (omega arith)

-- ---- what is found

-- for the empty id nothing is asked
pub finds_nothing : (H : Heap) (id : List ℕ) (v : View) → CanSearch H (children_at H document_cell) 0 → nat_lt 0 (length id) ≡ false → (acts : List Act) × Finds H id None 0 acts × (v ≡ run v acts) × Fits H acts
finds_nothing H id v can e = (
  [],
  record {
    nodes = can.nodes;
    ordered = can.ordered;
    found = ap (λ b. cond b (first_with H id can.nodes) None) (sym e);
    counted = ap (λ b. cond b (visited H id can.nodes) 0) (sym e);
    done = ap (λ b. cond b (ask_at H document_cell s.Children ∷ visits H id can.nodes) []) (sym e);
  },
  refl,
  tt,
)

-- ---- the acts are the heap's

kind_get : (kinds : List CellKind) (n : ℕ) → n < length kinds → slice_get kinds n ≡ Some (or_plain (slice_get kinds n))
kind_get [] n below = absurd (omega arith)
kind_get (k ∷ kinds) zero below = refl
kind_get (k ∷ kinds) (suc n) below = kind_get kinds n (omega arith)

fits_step : (H : Heap) (n : CellName) (e b : Bool) (p q : Place) (more : List Act) → FitsOne H (look_at H n) → Fits H more
    → Fits H (look_at H n ∷ cond e (asked p (H.at p) ∷ cond b [] (asked q (H.at q) ∷ more)) more)
fits_step H n false b p q more look fits = (look, fits)
fits_step H n true true p q more look fits = (look, (refl, tt))
fits_step H n true false p q more look fits = (look, (refl, (refl, fits)))

visits_fit : (H : Heap) (id : List ℕ) (nodes : List CellName) → Every (λ (n : CellName). n.0 < length H.kinds) nodes → Fits H (visits H id nodes)
visits_fit H id [] there = tt
visits_fit H id (n ∷ nodes) there =
    fits_step H n (is_element (kind_at H n)) (has_id H id n) _ _ (visits H id nodes) (kind_get H.kinds n.0 there.0) (visits_fit H id nodes there.1)

search_fits : (H : Heap) (id : List ℕ) (cells : List CellName) (count : ℕ) (can : CanSearch H cells count) → Fits H (visits H id can.nodes)
search_fits H id cells count can = visits_fit H id can.nodes (nodes_there H can.valid cells can.nodes can.ordered can.there)

-- for another the document is asked for its children, and these are searched
pub finds_first : (H : Heap) (id : List ℕ) (v w x : View) (cell : Option CellName) (count : ℕ) (answer : Answer) (can : CanSearch H (children_at H document_cell) 0) → nat_lt 0 (length id) ≡ true → answer ≡ H.at (place document_cell s.Children)
    → w ≡ step v (asked (place document_cell s.Children) answer) → Searched H id w x can.nodes cell 0 count
    → (acts : List Act) × Finds H id cell count acts × (x ≡ run v acts) × Fits H acts
finds_first H id v w x cell count answer can e f asks searched = (
  ask_at H document_cell s.Children ∷ visits H id can.nodes,
  record {
    nodes = can.nodes;
    ordered = can.ordered;
    found = searched.found ∙ ap (λ b. cond b (first_with H id can.nodes) None) (sym e);
    counted =
        let count_is : count ≡ visited H id can.nodes = omega (arith, searched.counted) in
        count_is ∙ ap (λ b. cond b (visited H id can.nodes) 0) (sym e);
    done = ap (λ b. cond b (ask_at H document_cell s.Children ∷ visits H id can.nodes) []) (sym e);
  },
  searched.done ∙ ap (λ z. run z (visits H id can.nodes)) (asks ∙ ap (λ z. step v (asked (place document_cell s.Children) z)) f),
  (refl, search_fits H id (children_at H document_cell) 0 can),
)

-- one answer for an id
pub one_found : (H : Heap) (id : List ℕ) (cell other : Option CellName) (count more : ℕ) (acts others : List Act) → Finds H id cell count acts → Finds H id other more others → (cell ≡ other) × (count ≡ more) × (acts ≡ others)
one_found H id cell other count more acts others is also =
    let same = nodes_alike H (children_at H document_cell) is.nodes also.nodes is.ordered also.ordered in (
      is.found ∙ ap (λ xs. cond (nat_lt 0 (length id)) (first_with H id xs) None) same ∙ sym also.found,
      is.counted ∙ ap (λ xs. cond (nat_lt 0 (length id)) (visited H id xs) 0) same ∙ sym also.counted,
      is.done ∙ ap (λ xs. cond (nat_lt 0 (length id)) (ask_at H document_cell s.Children ∷ visits H id xs) []) same ∙ sym also.done,
    )

-- ---- what is found is an element

first_step : (P : CellName → Type 0) (e b : Bool) (n : CellName) (o : Option CellName) → (e ≡ true → P n) → IfSome o P → IfSome (cond (e && b) (Some n) o) P
first_step P false b n o h k = k
first_step P true true n o h k = h refl
first_step P true false n o h k = k

first_is : (H : Heap) (id : List ℕ) (nodes : List CellName) → IfSome (first_with H id nodes) (λ n. is_element (kind_at H n) ≡ true)
first_is H id [] = tt
first_is H id (n ∷ nodes) =
    first_step (λ m. is_element (kind_at H m) ≡ true) (is_element (kind_at H n)) (has_id H id n) n (first_with H id nodes) (λ e. e) (first_is H id nodes)

pub found_element : (H : Heap) (id : List ℕ) (v w : View) (nodes : List CellName) (cell : Option CellName) (old new : ℕ) → Searched H id v w nodes cell old new → IfSome cell (λ n. is_element (kind_at H n) ≡ true)
found_element H id v w nodes cell old new searched =
    subst (λ (o : Option CellName). IfSome o (λ n. is_element (kind_at H n) ≡ true)) (sym searched.found) (first_is H id nodes)
