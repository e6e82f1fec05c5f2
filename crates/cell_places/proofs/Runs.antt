-- Runs after one another.
use Rattle.std.proofs.Common.{◌≡◌, ℕ, List, [], ◌∷◌, ◌++◌, Bool, true, false, cond, refl, ap, sym, ◌∙◌, subst, inl, inr, append_assoc}
use Rattle.std.proofs.lemmas.List.{append-nil}
use Rattle.page_units.specs.declared.value.CellName.{CellName}
use Rattle.cell_places.specs.declared.place.Place.{Place}
use Rattle.cell_places.specs.declared.kind.CellKind.{CellKind}
use Rattle.cell_places.specs.declared.answer.Answer.{Answer}
use Rattle.cell_places.specs.Heap.{Heap}
use Rattle.cell_places.specs.Acts.{Act, asked, looked, placed, made, charged, ticked, entered, left, wrote, not_charged, not_ticked, not_entered, moved, after}
use Rattle.cell_places.specs.View.{View, uncounted, Layer, ground, over, heap, own, has_row, asked_in, placed_in, made_in, charged_in, step, run, with_row, Lapsed, LapsedIn}
use Rattle.cell_places.specs.Rooted.{AddsRows, IsRead, Continues, Still, Rooted}

-- an act moves the heap of a view as it moves a heap
heap_cond : (b : Bool) (l : Layer) (v w : View) (k : Layer) → k.top ≡ l.top → heap (cond b (over l v) (over k w)) ≡ l.top
heap_cond true l v w k e = refl
heap_cond false l v w k e = e

pub heap-asked : (p : Place) (a : Answer) (v : View) → heap (asked_in p a v) ≡ heap v
heap-asked p a (ground H c) = refl
heap-asked p a (over l v) = heap_cond (own l p) l v (asked_in p a v) (with_row l p a) refl

pub heap-placed : (p : Place) (a : Answer) (v : View) → heap (placed_in p a v) ≡ moved (heap v) (placed p a)
heap-placed p a (ground H c) = refl
heap-placed p a (over l v) = refl

pub heap-made : (n : CellName) (k : CellKind) (v : View) → heap (made_in n k v) ≡ moved (heap v) (made n k)
heap-made n k (ground H c) = refl
heap-made n k (over l v) = refl

pub heap-charged : (w : ℕ) (v : View) → heap (charged_in w v) ≡ moved (heap v) (charged w)
heap-charged w (ground H c) = refl
heap-charged w (over l v) = refl

pub heap-step : (v : View) (a : Act) → heap (step v a) ≡ moved (heap v) a
heap-step v (asked p a) = heap-asked p a v
heap-step v (placed p a) = heap-placed p a v
heap-step v (made n k) = heap-made n k v
heap-step v (charged w) = heap-charged w v
heap-step v (looked n k) = refl
heap-step v (ticked n) = refl
heap-step v entered = refl
heap-step v left = refl
heap-step v (wrote o) = refl
heap-step v (not_charged w) = refl
heap-step v (not_ticked n) = refl
heap-step v not_entered = refl

pub heap-run : (v : View) (acts : List Act) → heap (run v acts) ≡ after (heap v) acts
heap-run v [] = refl
heap-run v (a ∷ more) = heap-run (step v a) more ∙ ap (λ H. after H more) (heap-step v a)

pub run-append : (v : View) (acts more : List Act) → run v (acts ++ more) ≡ run (run v acts) more
run-append v [] more = refl
run-append v (a ∷ acts) more = run-append (step v a) acts more

-- over a heap whose puts aren't counted a run is the heap's
ground-step : (H : Heap) (a : Act) → step (ground H uncounted) a ≡ ground (moved H a) uncounted
ground-step H (asked p a) = refl
ground-step H (placed p a) = refl
ground-step H (made n k) = refl
ground-step H (charged w) = refl
ground-step H (looked n k) = refl
ground-step H (ticked n) = refl
ground-step H entered = refl
ground-step H left = refl
ground-step H (wrote o) = refl
ground-step H (not_charged w) = refl
ground-step H (not_ticked n) = refl
ground-step H not_entered = refl

pub ground-run : (H : Heap) (acts : List Act) → run (ground H uncounted) acts ≡ ground (after H acts) uncounted
ground-run H [] = refl
ground-run H (a ∷ more) = ap (λ (v : View). run v more) (ground-step H a) ∙ ground-run (moved H a) more

-- ---- what stays

AddsRows-refl : (l : Layer) → AddsRows l l
AddsRows-refl l = ([], sym (append-nil l.rows))

AddsRows-trans : (l k j : Layer) → AddsRows l k → AddsRows k j → AddsRows l j
AddsRows-trans l k j a b =
    (a.0 ++ b.0, b.1 ∙ (ap (λ (rows : List (Place × Answer)). rows ++ b.0) a.1 ∙ append_assoc l.rows a.0 b.0))

IsRead-refl : (l : Layer) → IsRead l l
IsRead-refl l = record { name = refl; top = refl; puts = refl; touched = refl; first = refl; rows = AddsRows-refl l }

IsRead-trans : (l k j : Layer) → IsRead l k → IsRead k j → IsRead l j
IsRead-trans l k j a b = record {
  name = b.name ∙ a.name;
  top = b.top ∙ a.top;
  puts = b.puts ∙ a.puts;
  touched = b.touched ∙ a.touched;
  first = b.first ∙ a.first;
  rows = AddsRows-trans l k j a.rows b.rows;
}

-- a layer that was only read continues
pub IsRead-Continues : (l k : Layer) → IsRead l k → Continues l k
IsRead-Continues l k r = record { name = r.name; first = r.first; rows = r.rows }

Continues-trans : (l k j : Layer) → Continues l k → Continues k j → Continues l j
Continues-trans l k j a b = record {
  name = b.name ∙ a.name;
  first = b.first ∙ a.first;
  rows = AddsRows-trans l k j a.rows b.rows;
}

rows_cond : (b : Bool) (rows : List (Place × Answer)) (r : Place × Answer) → (more : List (Place × Answer)) × (cond b rows (rows ++ r ∷ []) ≡ rows ++ more)
rows_cond true rows r = ([], sym (append-nil rows))
rows_cond false rows r = (r ∷ [], refl)

IsRead-row : (l : Layer) (p : Place) (a : Answer) → IsRead l (with_row l p a)
IsRead-row l p a = record {
  name = refl;
  top = refl;
  puts = refl;
  touched = refl;
  first = refl;
  rows = rows_cond (has_row l.rows p) l.rows (p, a);
}

pub Still-refl : (v : View) → Still v v
Still-refl (ground H c) = refl
Still-refl (over l v) = (l, v, refl, IsRead-refl l, Still-refl v)

Still_cond : (b : Bool) (l k : Layer) (v w : View) → IsRead l k → Still v w → Still (over l v) (cond b (over l v) (over k w))
Still_cond true l k v w r s = (l, v, refl, IsRead-refl l, Still-refl v)
Still_cond false l k v w r s = (k, w, refl, r, s)

pub Still-ask : (v : View) (p : Place) (a : Answer) → Still v (asked_in p a v)
Still-ask (ground H c) p a = refl
Still-ask (over l v) p a = Still_cond (own l p) l (with_row l p a) v (asked_in p a v) (IsRead-row l p a) (Still-ask v p a)

pub Still-trans : (u v w : View) → Still u v → Still v w → Still u w
Still-trans (ground H c) v w s t = subst (λ x. Still x w) s t
Still-trans (over l u) v w s t =
    let t2 : Still (over s.0 s.1) w = subst (λ x. Still x w) s.2 t in
    (t2.0, t2.1, t2.2, IsRead-trans l s.0 t2.0 s.3 t2.3, Still-trans u s.1 t2.1 s.4 t2.4)

pub Still-heap : (v w : View) → Still v w → heap w ≡ heap v
Still-heap (ground H c) w s = ap heap s
Still-heap (over l v) w s = ap heap s.2 ∙ s.3.top

Lapsed-Still_in : (v w : View) (p : Place) → LapsedIn v w p → Still v w
Lapsed-Still_in (ground H c) w p e = e
Lapsed-Still_in (over l v) w p s =
    (l, s.0, s.1, IsRead-refl l, elim s.2 [ inl x ↦ Lapsed-Still_in v s.0 p x | inr y ↦ subst (Still v) (sym y) (Still-ask v p ((heap v).at p)) ])

pub Lapsed-Still : (v w : View) (p : Place) → Lapsed v w p → Still v w
Lapsed-Still v w p s = Lapsed-Still_in v w p s.within

pub Lapsed-refl : (v : View) (p : Place) → LapsedIn v v p
Lapsed-refl (ground H c) p = refl
Lapsed-refl (over l v) p = (v, refl, inl (Lapsed-refl v p))

pub Still-Rooted : (v w : View) → Still v w → Rooted v w
Still-Rooted (ground H c) w e = (H, c, e)
Still-Rooted (over l v) w s = (s.0, s.1, s.2, IsRead-Continues l s.0 s.3, s.4)

pub Lapsed-Rooted : (v w : View) (p : Place) → Lapsed v w p → Rooted v w
Lapsed-Rooted v w p s = Still-Rooted v w (Lapsed-Still v w p s)

pub Rooted-refl : (v : View) → Rooted v v
Rooted-refl v = Still-Rooted v v (Still-refl v)

pub Rooted-trans : (u v w : View) → Rooted u v → Rooted v w → Rooted u w
Rooted-trans (ground H c) v w s t = subst (λ x. Rooted x w) s.2 t
Rooted-trans (over l u) v w s t =
    let t2 : Rooted (over s.0 s.1) w = subst (λ x. Rooted x w) s.2 t in
    (t2.0, t2.1, t2.2, Continues-trans l s.0 t2.0 s.3 t2.3, Still-trans u s.1 t2.1 s.4 t2.4)

-- a layer of which just the heap, the puts and the cells that were put may be others
continued : (l k : Layer) → k.name ≡ l.name → k.first ≡ l.first → k.rows ≡ l.rows → Continues l k
continued l k name first rows = record { name = name; first = first; rows = ([], rows ∙ sym (append-nil l.rows)) }

pub Rooted-placed : (p : Place) (a : Answer) (v : View) → Rooted v (placed_in p a v)
Rooted-placed p a (ground H c) = (_, _, refl)
Rooted-placed p a (over l v) = (_, v, refl, continued l _ refl refl refl, Still-refl v)

pub Rooted-made : (n : CellName) (k : CellKind) (v : View) → Rooted v (made_in n k v)
Rooted-made n k (ground H c) = (_, _, refl)
Rooted-made n k (over l v) = (_, v, refl, continued l _ refl refl refl, Still-refl v)

pub Rooted-charged : (w : ℕ) (v : View) → Rooted v (charged_in w v)
Rooted-charged w (ground H c) = (_, _, refl)
Rooted-charged w (over l v) = (_, v, refl, continued l _ refl refl refl, Still-refl v)

pub Rooted-step : (v : View) (a : Act) → Rooted v (step v a)
Rooted-step v (asked p a) = Still-Rooted v (asked_in p a v) (Still-ask v p a)
Rooted-step v (placed p a) = Rooted-placed p a v
Rooted-step v (made n k) = Rooted-made n k v
Rooted-step v (charged w) = Rooted-charged w v
Rooted-step v (looked n k) = Rooted-refl v
Rooted-step v (ticked n) = Rooted-refl v
Rooted-step v entered = Rooted-refl v
Rooted-step v left = Rooted-refl v
Rooted-step v (wrote o) = Rooted-refl v
Rooted-step v (not_charged w) = Rooted-refl v
Rooted-step v (not_ticked n) = Rooted-refl v
Rooted-step v not_entered = Rooted-refl v

pub Rooted-run : (v : View) (acts : List Act) → Rooted v (run v acts)
Rooted-run v [] = Rooted-refl v
Rooted-run v (a ∷ more) = Rooted-trans v (step v a) _ (Rooted-step v a) (Rooted-run (step v a) more)

-- ---- apart

other_layer : Layer → View → Layer
other_layer l (ground H c) = l
other_layer l (over k w) = k

other_beneath : View → View → View
other_beneath v (ground H c) = v
other_beneath v (over k w) = w

pub Rooted-over : (l k : Layer) (v w : View) → Rooted (over l v) (over k w) → (k.name ≡ l.name) × Still v w
unfolding other_layer other_beneath
Rooted-over l k v w s =
    (ap (λ (x : View). (other_layer l x).name) s.2 ∙ s.3.name, subst (Still v) (sym (ap (other_beneath v) s.2)) s.4)
