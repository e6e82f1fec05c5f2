-- Acts that put nothing at a place: what stands there stays, and a put there may as well come after them.
use Rattle.std.proofs.Common.{◌≡◌, ◌≢◌, ℕ, List, [], ◌∷◌, ◌++◌, Bool, true, false, cond, Some, slice_get, refl, ap, sym, ◌∙◌}
use Rattle.cell_places.specs.declared.place.Place.{Place}
use Rattle.cell_places.specs.declared.answer.Answer.{Answer}
use Rattle.cell_places.specs.declared.kind.CellKind.{CellKind}
use Rattle.cell_places.specs.Heap.{Heap, same_place, put_at}
use Rattle.cell_places.specs.Acts.{Act, asked, looked, placed, made, charged, ticked, entered, left, wrote, not_charged, not_ticked, not_entered, moved, after}
use Rattle.cell_places.proofs.SamePlace.{one_place, put_at-other}
use Rattle.cell_places.proofs.Grown.{slice_get-grown}

-- ---- puts, one after another

cond_twice : (b : Bool) (x y z : Answer) → cond b y (cond b x z) ≡ cond b y z
cond_twice true x y z = refl
cond_twice false x y z = refl

-- the later put at one place is kept
pub put_at-twice : (f : Place → Answer) (p : Place) (x y : Answer) → put_at (put_at f p x) p y ≡ put_at f p y
put_at-twice f p x y = λ i q. cond_twice (same_place p q) x y (f q) i

cond_swap : (b c : Bool) (p q r : Place) (x y z : Answer) → p ≢ q → same_place p r ≡ b → same_place q r ≡ c → cond c y (cond b x z) ≡ cond b x (cond c y z)
cond_swap true true p q r x y z apart e f = absurd (apart (one_place p r e ∙ sym (one_place q r f)))
cond_swap true false p q r x y z apart e f = refl
cond_swap false true p q r x y z apart e f = refl
cond_swap false false p q r x y z apart e f = refl

-- puts at two places come in any order
pub put_at-swap : (f : Place → Answer) (p q : Place) (x y : Answer) → p ≢ q → put_at (put_at f p x) q y ≡ put_at (put_at f q y) p x
put_at-swap f p q x y apart = λ i r. cond_swap (same_place p r) (same_place q r) p q r x y (f r) apart refl refl i

-- ---- acts whose puts are of a class

-- an act that puts at a place of the class, or puts and charges nothing
abbrev pub PutsOne : (Place → Type 0) → Act → Type 0
PutsOne D (placed p x) = D p
PutsOne D (charged w) = ⊥
PutsOne D _ = Unit {0}

-- each put is at a place of the class, and nothing is charged
abbrev pub PutsIn : (Place → Type 0) → List Act → Type 0
PutsIn D [] = Unit {0}
PutsIn D (a ∷ more) = PutsOne D a × PutsIn D more

puts_one_map : (D E : Place → Type 0) → ((p : Place) → D p → E p) → (a : Act) → PutsOne D a → PutsOne E a
puts_one_map D E f (asked p x) h = tt
puts_one_map D E f (looked n k) h = tt
puts_one_map D E f (placed p x) h = f p h
puts_one_map D E f (made n k) h = tt
puts_one_map D E f (charged w) h = h
puts_one_map D E f (ticked n) h = tt
puts_one_map D E f entered h = tt
puts_one_map D E f left h = tt
puts_one_map D E f (wrote o) h = tt
puts_one_map D E f (not_charged w) h = tt
puts_one_map D E f (not_ticked n) h = tt
puts_one_map D E f not_entered h = tt

-- puts in a class are in each that holds it
pub PutsIn-map : (D E : Place → Type 0) → ((p : Place) → D p → E p) → (acts : List Act) → PutsIn D acts → PutsIn E acts
PutsIn-map D E f [] h = tt
PutsIn-map D E f (a ∷ more) h = (puts_one_map D E f a h.0, PutsIn-map D E f more h.1)

-- acts behind acts put where both do
pub PutsIn-append : (D : Place → Type 0) (acts more : List Act) → PutsIn D acts → PutsIn D more → PutsIn D (acts ++ more)
PutsIn-append D [] more h k = k
PutsIn-append D (a ∷ acts) more h k = (h.0, PutsIn-append D acts more h.1 k)

-- ---- acts after one another

-- the heap after acts behind acts
pub after-append : (H : Heap) (acts more : List Act) → after H (acts ++ more) ≡ after (after H acts) more
after-append H [] more = refl
after-append H (a ∷ acts) more = after-append (moved H a) acts more

-- no act puts anything at the place
abbrev pub Spares : Place → List Act → Type 0
Spares p acts = PutsIn (λ q. p ≢ q) acts

moved_swap : (H : Heap) (p : Place) (x : Answer) (a : Act) → PutsOne (λ q. p ≢ q) a → moved (moved H (placed p x)) a ≡ moved (moved H a) (placed p x)
moved_swap H p x (asked q y) h = refl
moved_swap H p x (looked n k) h = refl
moved_swap H p x (placed q y) h = ap (λ (f : Place → Answer). record H { at = f }) (put_at-swap H.at p q x y h)
moved_swap H p x (made n k) h = refl
moved_swap H p x (charged w) h = refl
moved_swap H p x (ticked n) h = refl
moved_swap H p x entered h = refl
moved_swap H p x left h = refl
moved_swap H p x (wrote o) h = refl
moved_swap H p x (not_charged w) h = refl
moved_swap H p x (not_ticked n) h = refl
moved_swap H p x not_entered h = refl

-- a put at a place that is spared may as well come after
pub after-swap : (H : Heap) (p : Place) (x : Answer) (acts : List Act) → Spares p acts → after (moved H (placed p x)) acts ≡ moved (after H acts) (placed p x)
after-swap H p x [] h = refl
after-swap H p x (a ∷ more) h = ap (λ (K : Heap). after K more) (moved_swap H p x a h.0) ∙ after-swap (moved H a) p x more h.1

moved_spares : (H : Heap) (p : Place) (a : Act) → PutsOne (λ q. p ≢ q) a → (moved H a).at p ≡ H.at p
moved_spares H p (asked q y) h = refl
moved_spares H p (looked n k) h = refl
moved_spares H p (placed q y) h = put_at-other H.at q p y (λ e. h (sym e))
moved_spares H p (made n k) h = refl
moved_spares H p (charged w) h = refl
moved_spares H p (ticked n) h = refl
moved_spares H p entered h = refl
moved_spares H p left h = refl
moved_spares H p (wrote o) h = refl
moved_spares H p (not_charged w) h = refl
moved_spares H p (not_ticked n) h = refl
moved_spares H p not_entered h = refl

-- what stands at a place that is spared stays
pub after-spares : (H : Heap) (p : Place) (acts : List Act) → Spares p acts → (after H acts).at p ≡ H.at p
after-spares H p [] h = refl
after-spares H p (a ∷ more) h = after-spares (moved H a) p more h.1 ∙ moved_spares H p a h.0

moved_kind : (H : Heap) (a : Act) (n : ℕ) (k : CellKind) → slice_get H.kinds n ≡ Some k → slice_get (moved H a).kinds n ≡ Some k
moved_kind H (asked q y) n k h = h
moved_kind H (looked m l) n k h = h
moved_kind H (placed q y) n k h = h
moved_kind H (made m l) n k h = slice_get-grown H.kinds l n k h
moved_kind H (charged w) n k h = h
moved_kind H (ticked m) n k h = h
moved_kind H entered n k h = h
moved_kind H left n k h = h
moved_kind H (wrote o) n k h = h
moved_kind H (not_charged w) n k h = h
moved_kind H (not_ticked m) n k h = h
moved_kind H not_entered n k h = h

-- the kind of a cell stays
pub after-kind : (H : Heap) (acts : List Act) (n : ℕ) (k : CellKind) → slice_get H.kinds n ≡ Some k → slice_get (after H acts).kinds n ≡ Some k
after-kind H [] n k h = h
after-kind H (a ∷ more) n k h = after-kind (moved H a) more n k (moved_kind H a n k h)

moved_weight : (D : Place → Type 0) (H : Heap) (a : Act) → PutsOne D a → ((moved H a).spent ≡ H.spent) × ((moved H a).limit ≡ H.limit)
moved_weight D H (asked q y) h = (refl, refl)
moved_weight D H (looked m l) h = (refl, refl)
moved_weight D H (placed q y) h = (refl, refl)
moved_weight D H (made m l) h = (refl, refl)
moved_weight D H (charged w) h = absurd h
moved_weight D H (ticked m) h = (refl, refl)
moved_weight D H entered h = (refl, refl)
moved_weight D H left h = (refl, refl)
moved_weight D H (wrote o) h = (refl, refl)
moved_weight D H (not_charged w) h = (refl, refl)
moved_weight D H (not_ticked m) h = (refl, refl)
moved_weight D H not_entered h = (refl, refl)

-- where nothing is charged, what is spent stays
pub after-weight : (D : Place → Type 0) (H : Heap) (acts : List Act) → PutsIn D acts → ((after H acts).spent ≡ H.spent) × ((after H acts).limit ≡ H.limit)
after-weight D H [] h = (refl, refl)
after-weight D H (a ∷ more) h =
    let one = moved_weight D H a h.0 in
    let others = after-weight D (moved H a) more h.1 in
    (others.0 ∙ one.0, others.1 ∙ one.1)
