-- Places that are the same, and what stands at a place after a put.
use Rattle.std.proofs.Common.{◌≡◌, ◌≢◌, Bool, true, false, cond, refl, ap, subst}
use Rattle.std.specs.Ordering.{is_eq}
use Rattle.std.specs.Cmp.{eq_by_cmp_equiv}
use Rattle.std.specs.declared.cmp.Ordering.{Ordering}
use Rattle.std.specs.declared.cmp.Ordering.TheVariants.{Less, Equal, Greater}
use Rattle.cell_places.specs.declared.place.Place.{Place}
use Rattle.cell_places.specs.declared.answer.Answer.{Answer}
use Rattle.cell_places.specs.Places.{place_cmp, place_exact, place_cmp_total}
use Rattle.cell_places.specs.Heap.{same_place, put_at}

is_equal : (r : Ordering) → is_eq r ≡ true → r ≡ Equal
is_equal Less e = cc
is_equal Equal e = refl
is_equal Greater e = cc

pub one_place : (p q : Place) → same_place p q ≡ true → p ≡ q
one_place p q e = place_exact p q (is_equal (place_cmp p q) e)

pub same_self : (p : Place) → same_place p p ≡ true
same_self p = (eq_by_cmp_equiv place_cmp_total).refl p

pub same_turned : (p q : Place) → same_place p q ≡ same_place q p
same_turned p q = (eq_by_cmp_equiv place_cmp_total).symm p q

other_place : (b : Bool) (p q : Place) → same_place p q ≡ b → p ≢ q → same_place p q ≡ false
other_place true p q e n = absurd (n (one_place p q e))
other_place false p q e n = e

-- places that differ aren't the same
pub apart_places : (p q : Place) → p ≢ q → same_place p q ≡ false
apart_places p q n = other_place (same_place p q) p q refl n

pub put_at-same : (f : Place → Answer) (p : Place) (x : Answer) → put_at f p x p ≡ x
put_at-same f p x = ap (λ (b : Bool). cond b x (f p)) (same_self p)

pub put_at-other : (f : Place → Answer) (p q : Place) (x : Answer) → p ≢ q → put_at f p x q ≡ f q
put_at-other f p q x n = ap (λ (b : Bool). cond b x (f q)) (apart_places p q n)

put_cases : (P : Place → Answer → Type 0) (b : Bool) (f : Place → Answer) (p : Place) (x : Answer) (q : Place) → same_place p q ≡ b → P p x → P q (f q) → P q (cond b x (f q))
put_cases P true f p x q e h k = let Q : Place → Type 0 = λ r. P r x in subst Q (one_place p q e) h
put_cases P false f p x q e h k = k

-- what holds of each place and its answer, and of a put, holds after the put
pub put_at-each : (P : Place → Answer → Type 0) (f : Place → Answer) (p : Place) (x : Answer) → ((q : Place) → P q (f q)) → P p x → (q : Place) → P q (put_at f p x q)
put_at-each P f p x h k q = put_cases P (same_place p q) f p x q refl k (h q)
