-- How deep a cell lies under its parents: less than there are cells.
use Rattle.std.proofs.Common.{◌≡◌, ℕ, zero, suc, ◌<◌, ◌≤◌, length, slice_get, List, [], ◌∷◌, Bool, true, false, ◌||◌, refl, ap, sym, ◌∙◌, subst, inl, inr, ◌⊎◌, arith}
use Rattle.std.specs.List.{list_any, IsDistinct, AllByRecursion}
use Rattle.std.proofs.lemmas.Bool.{eqb-true, eq-eqb, ne_eqb, ltb-true}
use Rattle.std.proofs.lemmas.Map.Steps.{length-le_from_distinct_below}
use lib.Dec.{eqb}
use Rattle.page_units.specs.declared.value.CellName.{CellName}
use Rattle.page_units.specs.declared.value.Value.TheVariants as v
use Rattle.cell_places.specs.declared.place.Slot.TheVariants as s
use Rattle.cell_places.specs.declared.answer.Answer.{Answer}
use Rattle.cell_places.specs.declared.answer.Answer.TheVariants as a
use Rattle.cell_places.specs.declared.kind.CellKind.{CellKind}
use Rattle.cell_places.specs.declared.kind.CellKind.TheVariants as kind
use Rattle.cell_places.specs.Heap.{Heap, cell, place, or_plain}
use Rattle.cell_places.specs.Valid.{Stands, IsValid}
use Rattle.cell_places.specs.Sound.{HasParent, ParentsEnd, top, up}

-- ---- cells that are there

-- a cell of a kind that a plain cell isn't of is there
pub kind_there : (test : CellKind → Bool) → test kind.Plain ≡ false → (kinds : List CellKind) (n : ℕ) → test (or_plain (slice_get kinds n)) ≡ true → n < length kinds
kind_there test plain [] n h = absurd (cc)
kind_there test plain (k ∷ kinds) zero h = omega arith
kind_there test plain (k ∷ kinds) (suc n) h = let below = kind_there test plain kinds n h in omega arith

parent_stands : (kinds : List CellKind) (n m : CellName) (x : Answer) → x ≡ a.One (v.Cell m) → Stands kinds (place n s.Parent) x → m.0 < length kinds
parent_stands kinds n m x e h =
    let can = subst (Stands kinds (place n s.Parent)) e h in
    ltb-true m.0 (length kinds) can.names

-- a parent is there
parent_there : (H : Heap) → IsValid H → (n m : CellName) → HasParent H n m → m.0 < length H.kinds
parent_there H valid n m has = parent_stands H.kinds n m (H.at (place n s.Parent)) has (valid.places (place n s.Parent))

-- ---- depth

-- how many parents lie above a cell
abbrev pub depth : (H : Heap) (n : CellName) → ParentsEnd H n → ℕ
depth H n (top _ none) = 0
depth H n (up _ m has rest) = suc (depth H m rest)

-- a cell has one depth
pub depth_once : (H : Heap) (n m : CellName) → n ≡ m → (one : ParentsEnd H n) (other : ParentsEnd H m) → depth H n one ≡ depth H m other
depth_once H n m e (top _ none) (top _ also) = refl
depth_once H n m e (top _ none) (up _ l has rest) = absurd (none l (ap (λ c. H.at (place c s.Parent)) e ∙ has))
depth_once H n m e (up _ l has rest) (top _ none) = absurd (none l (sym (ap (λ c. H.at (place c s.Parent)) e) ∙ has))
depth_once H n m e (up _ l has rest) (up _ k also others) =
    let both : a.One (v.Cell l) ≡ a.One (v.Cell k) = sym has ∙ (ap (λ c. H.at (place c s.Parent)) e ∙ also) in
    let same : l ≡ k = cc in
    ap suc (depth_once H l k same rest others)

-- a cell and those above it, by their numbers
abbrev chain : (H : Heap) (n : CellName) → ParentsEnd H n → List ℕ
chain H n (top _ none) = n.0 ∷ []
chain H n (up _ m has rest) = n.0 ∷ chain H m rest

length_chain : (H : Heap) (n : CellName) (e : ParentsEnd H n) → length (chain H n e) ≡ suc (depth H n e)
length_chain H n (top _ none) = refl
length_chain H n (up _ m has rest) = ap suc (length_chain H m rest)

or_cases : (x y : Bool) → x || y ≡ true → (x ≡ true) ⊎ (y ≡ true)
or_cases true y h = inl refl
or_cases false y h = inr h

chain_there : (H : Heap) → IsValid H → (n : CellName) (e : ParentsEnd H n) → n.0 < length H.kinds → (q : ℕ) → list_any (eqb q) (chain H n e) ≡ true → q < length H.kinds
chain_there H valid n (top _ none) below q h =
    elim (or_cases (eqb q n.0) false h) [ inl f ↦ (let same = eqb-true q n.0 f in omega arith) | inr f ↦ absurd (cc) ]
chain_there H valid n (up _ m has rest) below q h =
    elim (or_cases (eqb q n.0) (list_any (eqb q) (chain H m rest)) h) [
      | inl f ↦ (let same = eqb-true q n.0 f in omega arith)
      | inr f ↦ chain_there H valid m rest (parent_there H valid n m has) q f
    ]

-- those above it lie less deep
chain_depth : (H : Heap) (ends : (n : CellName) → ParentsEnd H n) (n : CellName) (e : ParentsEnd H n) (q : ℕ) → list_any (eqb q) (chain H n e) ≡ true → depth H (cell q) (ends (cell q)) ≤ depth H n e
chain_depth H ends n (top _ none) q h =
    elim (or_cases (eqb q n.0) false h) [
      | inl f ↦ (let same = depth_once H (cell q) n (ap cell (eqb-true q n.0 f)) (ends (cell q)) (top n none) in omega arith)
      | inr f ↦ absurd (cc)
    ]
chain_depth H ends n (up _ m has rest) q h =
    elim (or_cases (eqb q n.0) (list_any (eqb q) (chain H m rest)) h) [
      | inl f ↦ (let same = depth_once H (cell q) n (ap cell (eqb-true q n.0 f)) (ends (cell q)) (up n m has rest) in omega arith)
      | inr f ↦ (let less = chain_depth H ends m rest q f in omega arith)
    ]

apart_from : (x : ℕ) (xs : List ℕ) → ((q : ℕ) → list_any (eqb q) xs ≡ true → x ≡ q → ⊥) → AllByRecursion (λ y. eqb x y ≡ false) xs
apart_from x [] h = tt
apart_from x (y ∷ ys) h =
    (ne_eqb x y (h y (ap (λ (b : Bool). b || list_any (eqb y) ys) (eq-eqb y y refl))), apart_from x ys (λ q k. h q (or_second (eqb q y) (list_any (eqb q) ys) k)))
  where
    or_second : (b c : Bool) → c ≡ true → b || c ≡ true
    or_second true c k = refl
    or_second false c k = k

chain_once : (H : Heap) (ends : (n : CellName) → ParentsEnd H n) (n : CellName) (e : ParentsEnd H n) → IsDistinct eqb (chain H n e)
unfolding IsDistinct
chain_once H ends n (top _ none) = (tt, tt)
chain_once H ends n (up _ m has rest) = (
  apart_from n.0 (chain H m rest) (λ q h e.
      let less = chain_depth H ends m rest q h in
      let same = depth_once H (cell q) n (ap cell (sym e)) (ends (cell q)) (up n m has rest) in
      absurd (omega arith)),
  chain_once H ends m rest,
)

-- so a cell lies less deep than there are cells
pub depth_below : (H : Heap) → IsValid H → (ends : (n : CellName) → ParentsEnd H n) (n : CellName) → n.0 < length H.kinds → depth H n (ends n) < length H.kinds
depth_below H valid ends n there =
    let long = length-le_from_distinct_below (chain H n (ends n)) (length H.kinds) (chain_once H ends n (ends n)) (chain_there H valid n (ends n) there) in
    let size = length_chain H n (ends n) in
    omega arith
