-- A run keeps what the change numbers say.
use Rattle.std.proofs.Common.{◌≡◌, ℕ, ◌+◌, ◌≤◌, List, [], ◌∷◌, Bool, true, false, cond, ◌&&◌, ◌||◌, not, Option, Some, None, refl, ap, sym, ◌∙◌, arith}
use Rattle.std.specs.Prelude.{nat_eq, nat_lt}
use Rattle.page_units.specs.declared.value.CellName.{CellName}
use Rattle.cell_places.specs.declared.place.Place.{Place}
use Rattle.cell_places.specs.declared.place.Slot.{Slot}
use Rattle.cell_places.specs.declared.answer.Answer.{Answer}
use Rattle.cell_places.specs.declared.kind.CellKind.{CellKind}
use Rattle.cell_places.specs.Heap.{Heap, place}
use Rattle.cell_places.specs.Acts.{Act, asked, looked, placed, made, charged, ticked, entered, left, wrote, not_charged, not_ticked, not_entered}
use Rattle.cell_places.specs.View.{View, uncounted, counted, change_number, Layer, ground, over, heap, number_of, own, asked_in, placed_in, made_in, charged_in, step, run, with_row}
use Rattle.cell_places.specs.ChangeNumbers.{KeepsNumber}
use Rattle.cell_places.proofs.SamePlace.{put_at-other}
use Rattle.cell_places.proofs.Runs.{heap-asked}

-- ---- nothing that counts changed

-- Where the number and the answers are the same, the number says the same.
kept_same : (n : CellName) (v w : View) → number_of w n ≡ number_of v n → ((slot : Slot) → (heap w).at (place n slot) ≡ (heap v).at (place n slot)) → KeepsNumber n v w
kept_same n v w number answers = record {
  rises = λ a b old new. let e : a ≡ b = cc in omega arith;
  same = λ a old new slot. answers slot;
  lost = λ old. number ∙ old;
}

-- Where no number is left, nothing is said.
kept_lost : (n : CellName) (v w : View) → number_of w n ≡ None → KeepsNumber n v w
kept_lost n v w none = record {
  rises = λ a b old new. cc;
  same = λ a old new slot. cc;
  lost = λ old. none;
}

kept_refl : (n : CellName) (v : View) → KeepsNumber n v v
kept_refl n v = kept_same n v v refl (λ slot. refl)

-- ---- one put at the ground

-- a number that is told is what was counted
told_number : (b : Bool) (count a : ℕ) → cond b (Some count) None ≡ Some a → count ≡ a
told_number true count a e = cc
told_number false count a e = cc

-- the bound of what is told was passed for good
not_told : (count : ℕ) → cond (nat_lt count 18446744073709551615) (Some count) None ≡ None → cond (nat_lt (count + 1) 18446744073709551615) (Some (count + 1)) None ≡ None
not_told count e = grind (arith, nat_lt, cond)

-- a put at the cell raises its number
kept_raised : (n : CellName) (times : ℕ) (v w : View) → number_of v n ≡ cond (nat_lt times 18446744073709551615) (Some times) None → number_of w n ≡ cond (nat_lt (times + 1) 18446744073709551615) (Some (times + 1)) None → KeepsNumber n v w
kept_raised n times v w old new = record {
  rises = λ a b x y.
      let before : times ≡ a = told_number _ times a (sym old ∙ x) in
      let past : times + 1 ≡ b = told_number _ (times + 1) b (sym new ∙ y) in
      omega arith;
  same = λ a x y slot.
      let before : times ≡ a = told_number _ times a (sym old ∙ x) in
      let past : times + 1 ≡ a = told_number _ (times + 1) a (sym new ∙ y) in
      absurd (omega arith);
  lost = λ x. new ∙ not_told times (sym old ∙ x);
}

-- a place of another cell is another place
apart_cells : (p : Place) (n : CellName) (slot : Slot) → nat_eq p.cell.0 n.0 ≡ false → p ≡ place n slot → ⊥
apart_cells p n slot e same =
    let cells : p.cell.0 ≡ n.0 = ap (λ (q : Place). q.cell.0) same in
    grind (arith, e, cells, nat_eq)

put_ground : (b : Bool) (n : CellName) (H : Heap) (times : CellName → ℕ) (p : Place) (x : Answer) → nat_eq p.cell.0 n.0 ≡ b → KeepsNumber n (ground H (counted times)) (placed_in p x (ground H (counted times)))
put_ground true n H times p x e =
    kept_raised n (times n) _ _ refl (ap (λ (c : Bool). change_number (counted (λ m. cond c (times n + 1) (times n))) n) e)
put_ground false n H times p x e =
    kept_same n _ _ (ap (λ (c : Bool). change_number (counted (λ m. cond c (times n + 1) (times n))) n) e)
    (λ slot. put_at-other H.at p (place n slot) x (apart_cells p n slot e))

-- ---- one put in a layer

and_false : (b : Bool) → (b && false) ≡ false
and_false true = refl
and_false false = refl

put_over : (b : Bool) (n : CellName) (l : Layer) (v : View) (p : Place) (x : Answer) → nat_eq p.cell.0 n.0 ≡ b → KeepsNumber n (over l v) (placed_in p x (over l v))
put_over true n l v p x e =
    kept_lost n _ _
    (ap (λ (c : Bool). cond (nat_lt n.0 l.first && not (c || l.touched n)) (number_of v n) None) e
    ∙ ap (λ (c : Bool). cond c (number_of v n) None) (and_false (nat_lt n.0 l.first)))
put_over false n l v p x e =
    kept_same n _ _ (ap (λ (c : Bool). cond (nat_lt n.0 l.first && not (c || l.touched n)) (number_of v n) None) e)
    (λ slot. put_at-other l.top.at p (place n slot) x (apart_cells p n slot e))

kept_put : (n : CellName) (v : View) (p : Place) (x : Answer) → KeepsNumber n v (placed_in p x v)
kept_put n (ground H uncounted) p x = kept_lost n _ _ refl
kept_put n (ground H (counted times)) p x = put_ground (nat_eq p.cell.0 n.0) n H times p x refl
kept_put n (over l v) p x = put_over (nat_eq p.cell.0 n.0) n l v p x refl

-- ---- the other acts

cond_number : (b : Bool) (n : CellName) (l : Layer) (v w : View) (p : Place) (x : Answer) → number_of w n ≡ number_of v n → number_of (cond b (over l v) (over (with_row l p x) w)) n ≡ number_of (over l v) n
cond_number true n l v w p x e = refl
cond_number false n l v w p x e = ap (λ (o : Option ℕ). cond (nat_lt n.0 l.first && not (l.touched n)) o None) e

-- an ask changes no number
number-asked : (n : CellName) (p : Place) (x : Answer) (v : View) → number_of (asked_in p x v) n ≡ number_of v n
number-asked n p x (ground H c) = refl
number-asked n p x (over l v) = cond_number (own l p) n l v (asked_in p x v) p x (number-asked n p x v)

kept_ask : (n : CellName) (p : Place) (x : Answer) (v : View) → KeepsNumber n v (asked_in p x v)
kept_ask n p x v = kept_same n _ _ (number-asked n p x v) (λ slot. ap (λ (H : Heap). H.at (place n slot)) (heap-asked p x v))

kept_make : (n m : CellName) (k : CellKind) (v : View) → KeepsNumber n v (made_in m k v)
kept_make n m k (ground H c) = kept_same n _ _ refl (λ slot. refl)
kept_make n m k (over l v) = kept_same n _ _ refl (λ slot. refl)

kept_charge : (n : CellName) (w : ℕ) (v : View) → KeepsNumber n v (charged_in w v)
kept_charge n w (ground H c) = kept_same n _ _ refl (λ slot. refl)
kept_charge n w (over l v) = kept_same n _ _ refl (λ slot. refl)

pub KeepsNumber-step : (n : CellName) (v : View) (a : Act) → KeepsNumber n v (step v a)
KeepsNumber-step n v (asked p x) = kept_ask n p x v
KeepsNumber-step n v (placed p x) = kept_put n v p x
KeepsNumber-step n v (made m k) = kept_make n m k v
KeepsNumber-step n v (charged w) = kept_charge n w v
KeepsNumber-step n v (looked m k) = kept_refl n v
KeepsNumber-step n v (ticked m) = kept_refl n v
KeepsNumber-step n v entered = kept_refl n v
KeepsNumber-step n v left = kept_refl n v
KeepsNumber-step n v (wrote o) = kept_refl n v
KeepsNumber-step n v (not_charged w) = kept_refl n v
KeepsNumber-step n v (not_ticked m) = kept_refl n v
KeepsNumber-step n v not_entered = kept_refl n v

-- ---- runs

rises_by : (n : CellName) (u v w : View) (o : Option ℕ) → number_of v n ≡ o → KeepsNumber n u v → KeepsNumber n v w → (a b : ℕ) → number_of u n ≡ Some a → number_of w n ≡ Some b → a ≤ b
rises_by n u v w None e s t a b x y = let lost = t.lost e in absurd (cc)
rises_by n u v w (Some c) e s t a b x y =
    let low : a ≤ c = s.rises a c x e in
    let high : c ≤ b = t.rises c b e y in
    omega arith

same_by : (n : CellName) (u v w : View) (o : Option ℕ) → number_of v n ≡ o → KeepsNumber n u v → KeepsNumber n v w → (a : ℕ) → number_of u n ≡ Some a → number_of w n ≡ Some a → (slot : Slot)
    → (heap w).at (place n slot) ≡ (heap u).at (place n slot)
same_by n u v w None e s t a x y slot = let lost = t.lost e in absurd (cc)
same_by n u v w (Some c) e s t a x y slot =
    let low : a ≤ c = s.rises a c x e in
    let high : c ≤ a = t.rises c a e y in
    let between : c ≡ a = omega arith in
    let there : number_of v n ≡ Some a = e ∙ ap Some between in
    t.same a there y slot ∙ s.same a x there slot

pub KeepsNumber-trans : (n : CellName) (u v w : View) → KeepsNumber n u v → KeepsNumber n v w → KeepsNumber n u w
KeepsNumber-trans n u v w s t = record {
  rises = rises_by n u v w (number_of v n) refl s t;
  same = same_by n u v w (number_of v n) refl s t;
  lost = λ x. t.lost (s.lost x);
}

-- whatever a run does, the change numbers of each cell say what became of it
pub KeepsNumber-run : (n : CellName) (v : View) (acts : List Act) → KeepsNumber n v (run v acts)
KeepsNumber-run n v [] = kept_refl n v
KeepsNumber-run n v (a ∷ more) = KeepsNumber-trans n v (step v a) _ (KeepsNumber-step n v a) (KeepsNumber-run n (step v a) more)
