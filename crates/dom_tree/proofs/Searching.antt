-- A search among siblings, one after another.
use Rattle.std.proofs.Common.{◌≡◌, ℕ, zero, suc, ◌+◌, ◌<◌, ◌≤◌, length, List, [], ◌∷◌, ◌++◌, Bool, true, false, cond, ◌&&◌, Option, Some, None, refl, ap, sym, ◌∙◌, subst, arith, length-append, get_or, drop}
use Rattle.std.specs.Option.{is_some}
use Rattle.std.proofs.Math.ListN.{drop_of_length-le}
use Rattle.std.proofs.lemmas.List.{drop_more}
use Rattle.page_units.specs.declared.value.CellName.{CellName}
use Rattle.cell_places.specs.Lists.{Every}
use Rattle.cell_places.specs.Kinds.{is_element}
use Rattle.cell_places.specs.Heap.{Heap, kind_at}
use Rattle.cell_places.specs.Acts.{Act}
use Rattle.cell_places.specs.View.{View, run}
use Rattle.cell_places.proofs.Runs.{run-append}
use Rattle.dom_tree.specs.Ids as ids
use Rattle.dom_tree.specs.Ids.{InTreeOrder, has_id, first_with, visited, visits, ask_at}
use Rattle.dom_tree.specs.Searched.{CanSearch, Searched}

-- ---- one order

-- cells have one order of nodes at most
pub nodes_alike : (H : Heap) (cells one other : List CellName) → InTreeOrder H cells one → InTreeOrder H cells other → one ≡ other
nodes_alike H _ _ _ ids.none ids.none = refl
nodes_alike H _ _ _ (ids.other n cells found k rest) (ids.other _ _ other l others) = ap (λ (xs : List CellName). n ∷ xs) (nodes_alike H cells found other rest others)
nodes_alike H _ _ _ (ids.other n cells found k rest) (ids.element _ _ below other l under others) = absurd (cc)
nodes_alike H _ _ _ (ids.element n cells below found k under rest) (ids.other _ _ other l others) = absurd (cc)
nodes_alike H _ _ _ (ids.element n cells below found k inner rest) (ids.element _ _ under other l within others) =
    let down = nodes_alike H _ below under inner within in
    let right = nodes_alike H cells found other rest others in
    λ i. n ∷ (down i ++ right i)

-- ---- nodes after nodes

passed_step : (e b : Bool) (n : CellName) (l a c : Act) (f g h : Option CellName) (i j k : ℕ) (p q r : List Act)
    → (f ≡ None → (g ≡ h) × (i ≡ j + k) × (p ≡ q ++ r))
    → cond (e && b) (Some n) f ≡ None
    → (cond (e && b) (Some n) g ≡ h) × (cond e (1 + cond b 0 i) i ≡ cond e (1 + cond b 0 j) j + k)
    × (l ∷ cond e (a ∷ cond b [] (c ∷ p)) p ≡ (l ∷ cond e (a ∷ cond b [] (c ∷ q)) q) ++ r)
passed_step false b n l a c f g h i j k p q r more e =
    let one = more e in
    (one.0, one.1, λ x. l ∷ one.2 x)
passed_step true true n l a c f g h i j k p q r more e = absurd (cc)
passed_step true false n l a c f g h i j k p q r more e =
    let one = more e in
    (one.0, omega (arith, one.1), λ x. l ∷ a ∷ c ∷ one.2 x)

-- where none of the first has the id, the others are asked too
passed : (H : Heap) (id : List ℕ) (xs ys : List CellName) → first_with H id xs ≡ None
    → (first_with H id (xs ++ ys) ≡ first_with H id ys) × (visited H id (xs ++ ys) ≡ visited H id xs + visited H id ys) × (visits H id (xs ++ ys) ≡ visits H id xs ++ visits H id ys)
passed H id [] ys e = (refl, omega arith, refl)
passed H id (x ∷ xs) ys e = passed_step (is_element (kind_at H x)) (has_id H id x) x _ _ _ _ _ _ _ _ _ _ _ _ (passed H id xs ys) e

stopped_step : (e b : Bool) (n m : CellName) (l a c : Act) (f g : Option CellName) (i j : ℕ) (p q : List Act)
    → (f ≡ Some m → (g ≡ f) × (i ≡ j) × (p ≡ q))
    → cond (e && b) (Some n) f ≡ Some m
    → (cond (e && b) (Some n) g ≡ cond (e && b) (Some n) f) × (cond e (1 + cond b 0 i) i ≡ cond e (1 + cond b 0 j) j)
    × (l ∷ cond e (a ∷ cond b [] (c ∷ p)) p ≡ l ∷ cond e (a ∷ cond b [] (c ∷ q)) q)
stopped_step false b n m l a c f g i j p q more e =
    let one = more e in
    (one.0, one.1, λ x. l ∷ one.2 x)
stopped_step true true n m l a c f g i j p q more e = (refl, refl, refl)
stopped_step true false n m l a c f g i j p q more e =
    let one = more e in
    (one.0, omega (arith, one.1), λ x. l ∷ a ∷ c ∷ one.2 x)

-- where one of the first has it, no other is asked
stopped : (H : Heap) (id : List ℕ) (m : CellName) (xs ys : List CellName) → first_with H id xs ≡ Some m
    → (first_with H id (xs ++ ys) ≡ first_with H id xs) × (visited H id (xs ++ ys) ≡ visited H id xs) × (visits H id (xs ++ ys) ≡ visits H id xs)
stopped H id m [] ys e = absurd (cc)
stopped H id m (x ∷ xs) ys e = stopped_step (is_element (kind_at H x)) (has_id H id x) x m _ _ _ _ _ _ _ _ _ (stopped H id m xs ys) e

-- ---- the first of siblings and the others

pub record Parts (H : Heap) (n : CellName) (cells nodes : List CellName) : Type 0 where
  pub one : List CellName
  pub more : List CellName
  pub first : InTreeOrder H (n ∷ []) one
  pub rest : InTreeOrder H cells more
  pub both : nodes ≡ one ++ more

append_none : (xs ys : List CellName) → xs ++ ys ≡ (xs ++ []) ++ ys
append_none [] ys = refl
append_none (x ∷ xs) ys = ap (λ (z : List CellName). x ∷ z) (append_none xs ys)

pub parts : (H : Heap) (n : CellName) (cells nodes : List CellName) → InTreeOrder H (n ∷ cells) nodes → Parts H n cells nodes
parts H _ _ _ (ids.other n cells found k rest) = record {
  one = n ∷ [];
  more = found;
  first = ids.other n [] [] k ids.none;
  rest = rest;
  both = refl;
}
parts H _ _ _ (ids.element n cells below found k under rest) = record {
  one = n ∷ below ++ [];
  more = found;
  first = ids.element n [] below [] k under ids.none;
  rest = rest;
  both = ap (λ (z : List CellName). n ∷ z) (append_none below found);
}

-- ---- a loop over siblings

-- the first `at` have no element with the id: what is left is the nodes among the others and below them
pub record Going (H : Heap) (id : List ℕ) (v w : View) (siblings : List CellName) (at old new : ℕ) : Type 0 where
  pub rest : List CellName
  pub ordered : InTreeOrder H (drop at siblings) rest
  pub room : new + length rest ≤ 4000000000
  pub grown : old ≤ new
  pub found : (nodes : List CellName) → InTreeOrder H siblings nodes → first_with H id nodes ≡ first_with H id rest
  pub counted : (nodes : List CellName) → InTreeOrder H siblings nodes → old + visited H id nodes ≡ new + visited H id rest
  pub done : (nodes : List CellName) → InTreeOrder H siblings nodes → run v (visits H id nodes) ≡ run w (visits H id rest)

-- at first nothing was asked
pub start : (H : Heap) (id : List ℕ) (v : View) (siblings : List CellName) (count : ℕ) → CanSearch H siblings count → Going H id v v siblings 0 count count
start H id v siblings count can =
    let same : (nodes : List CellName) → InTreeOrder H siblings nodes → nodes ≡ can.nodes = λ nodes h. nodes_alike H siblings nodes can.nodes h can.ordered in
    record {
      rest = can.nodes;
      ordered = can.ordered;
      room = can.room;
      grown = omega arith;
      found = λ nodes h. ap (first_with H id) (same nodes h);
      counted = λ nodes h. ap (λ xs. count + visited H id xs) (same nodes h);
      done = λ nodes h. ap (λ xs. run v (visits H id xs)) (same nodes h);
    }

next_parts : (H : Heap) (id : List ℕ) (v w : View) (siblings : List CellName) (at old new : ℕ) (d : CellName) → at < length siblings → (going : Going H id v w siblings at old new)
    → Parts H (get_or siblings at d) (drop (at + 1) siblings) going.rest
next_parts H id v w siblings at old new d below going =
    parts H (get_or siblings at d) (drop (at + 1) siblings) going.rest (subst (λ cells. InTreeOrder H cells going.rest) (drop_more siblings at d below) going.ordered)

every_at : (P : CellName → Type 0) (xs : List CellName) (at : ℕ) (d : CellName) → at < length xs → Every P xs → P (get_or xs at d)
every_at P [] at d below h = absurd (omega arith)
every_at P (x ∷ xs) zero d below h = h.0
every_at P (x ∷ xs) (suc at) d below h = every_at P xs at d (omega arith) h.1

-- the next node can be searched
pub next_can : (H : Heap) (id : List ℕ) (v w : View) (siblings : List CellName) (at old new : ℕ) (d : CellName) → at < length siblings → CanSearch H siblings old → Going H id v w siblings at old new
    → CanSearch H (get_or siblings at d ∷ []) new
next_can H id v w siblings at old new d below can going =
    let p = next_parts H id v w siblings at old new d below going in
    record {
      valid = can.valid;
      there = (every_at (λ n. n.0 < length H.kinds) siblings at d below can.there, tt);
      nodes = p.one;
      ordered = p.first;
      room = omega (arith, going.room, ap length p.both, length-append p.one p.more);
    }

-- it has none either
pub next_going : (H : Heap) (id : List ℕ) (u v w : View) (siblings : List CellName) (at old new newer : ℕ) (d : CellName) (cell : Option CellName) → at < length siblings → Going H id u v siblings at old new
    → is_some cell ≡ false → ((nodes : List CellName) → InTreeOrder H (get_or siblings at d ∷ []) nodes → Searched H id v w nodes cell new newer) → Going H id u w siblings (at + 1) old newer
next_going H id u v w siblings at old new newer d cell below going none says =
    let p = next_parts H id u v siblings at old new d below going in
    let s = says p.one p.first in
    let q = passed H id p.one p.more (sym s.found ∙ none_of cell none) in
    let bound = visited_most H id p.one in
    record {
      rest = p.more;
      ordered = p.rest;
      room = omega (arith, going.room, ap length p.both, length-append p.one p.more, s.counted, bound);
      grown = omega (arith, going.grown, s.counted);
      found = λ nodes h. going.found nodes h ∙ ap (first_with H id) p.both ∙ q.0;
      counted = λ nodes h. omega (arith, going.counted nodes h, ap (visited H id) p.both, q.1, s.counted);
      done = λ nodes h.
          going.done nodes h
          ∙ ap (λ xs. run v (visits H id xs)) p.both
          ∙ ap (run v) q.2
          ∙ run-append v (visits H id p.one) (visits H id p.more)
          ∙ ap (λ x. run x (visits H id p.more)) (sym s.done);
    }
  where
    none_of : (o : Option CellName) → is_some o ≡ false → o ≡ None
    none_of None e = refl
    none_of (Some m) e = absurd (cc)

    most_step : (e b : Bool) (i k : ℕ) → i ≤ k → cond e (1 + cond b 0 i) i ≤ suc k
    most_step false b i k le = omega arith
    most_step true true i k le = omega arith
    most_step true false i k le = omega arith

    visited_most : (H : Heap) (id : List ℕ) (xs : List CellName) → visited H id xs ≤ length xs
    visited_most H id [] = omega arith
    visited_most H id (x ∷ xs) = most_step (is_element (kind_at H x)) (has_id H id x) (visited H id xs) (length xs) (visited_most H id xs)

-- it has the first
pub next_found : (H : Heap) (id : List ℕ) (u v w : View) (siblings : List CellName) (at old new newer : ℕ) (d : CellName) (cell : Option CellName) → at < length siblings → Going H id u v siblings at old new
    → is_some cell ≡ true → ((nodes : List CellName) → InTreeOrder H (get_or siblings at d ∷ []) nodes → Searched H id v w nodes cell new newer)
    → (nodes : List CellName) → InTreeOrder H siblings nodes → Searched H id u w nodes cell old newer
next_found H id u v w siblings at old new newer d cell below going some says nodes h =
    let m = some_of cell some in
    let p = next_parts H id u v siblings at old new d below going in
    let s = says p.one p.first in
    let q = stopped H id m.0 p.one p.more (sym s.found ∙ m.1) in
    record {
      found = s.found ∙ sym (going.found nodes h ∙ ap (first_with H id) p.both ∙ q.0);
      counted = omega (arith, going.counted nodes h, ap (visited H id) p.both, q.1, s.counted);
      done = s.done ∙ sym (going.done nodes h ∙ ap (λ xs. run v (visits H id xs)) p.both ∙ ap (run v) q.2);
    }
  where
    some_of : (o : Option CellName) → is_some o ≡ true → (m : CellName) × (o ≡ Some m)
    some_of None e = absurd (cc)
    some_of (Some m) e = (m, refl)

no_nodes : (H : Heap) (cells nodes : List CellName) → InTreeOrder H cells nodes → cells ≡ [] → nodes ≡ []
no_nodes H _ _ ids.none e = refl
no_nodes H _ _ (ids.other n cells found k rest) e = absurd (cc)
no_nodes H _ _ (ids.element n cells below found k under rest) e = absurd (cc)

-- after the last node all were asked
pub none_found : (H : Heap) (id : List ℕ) (v w : View) (siblings : List CellName) (at old new : ℕ) → length siblings ≤ at → Going H id v w siblings at old new
    → (nodes : List CellName) → InTreeOrder H siblings nodes → Searched H id v w nodes None old new
none_found H id v w siblings at old new past going nodes h =
    let none = no_nodes H (drop at siblings) going.rest going.ordered (drop_of_length-le siblings past) in
    record {
      found = sym (going.found nodes h ∙ ap (first_with H id) none);
      counted = omega (arith, going.counted nodes h, ap (visited H id) none);
      done = sym (going.done nodes h ∙ ap (λ xs. run w (visits H id xs)) none);
    }
