-- A timer is added, or some are taken away: the heap stays sound.
use Rattle.std.proofs.Common.{◌≡◌, ℕ, ◌+◌, ◌≤◌, ℤ, pos, ◌+ℤ◌, ◌≤ℤ◌, ◌<ℤ◌, List, [], ◌∷◌, ◌++◌, filter, Bool, sym, subst, arith}
use Rattle.std.proofs.lemmas.Int.{ints}
use Rattle.page_units.specs.Numbers.{IsNumber}
use Rattle.page_units.specs.declared.value.Value.TheVariants as v
use Rattle.cell_places.specs.declared.place.Place.{Place}
use Rattle.cell_places.specs.declared.place.Slot.TheVariants as s
use Rattle.cell_places.specs.declared.answer.Answer.{Answer}
use Rattle.cell_places.specs.declared.answer.Answer.TheVariants as a
use Rattle.cell_places.specs.declared.answer.Timer.{Timer}
use Rattle.cell_places.specs.declared.kind.CellKind.{CellKind}
use Rattle.cell_places.specs.Lists.{Every}
use Rattle.cell_places.specs.Heap.{Heap, place, put_at, weight_left, number_in, timers_in}
use Rattle.cell_places.specs.Known.{page_cell}
use Rattle.cell_places.specs.Valid.{CanPut, CanPutIn, Stands}
use Rattle.cell_places.specs.Acts.{placed, after}
use Rattle.cell_places.specs.Sound.{AnswerIsSound, IdsBelow, IsCalled, IsSound}
use Rattle.cell_places.specs.Spare.{Spare}
use Rattle.cell_places.proofs.Grown.{Every-map, Stands-put}
use Rattle.cell_places.proofs.CanPuts.{HasPage, can_put_next_timer, can_put_timers}
use Rattle.cell_places.proofs.ListenersKept.{called_below}
use Rattle.cell_places.proofs.ListsKept.{every_last, every_filter, distinct_last, distinct_filter, not_named}
use Rattle.cell_places.proofs.KeepsSound.{IdsBelow-kept}
use Rattle.cell_places.proofs.PagePuts.{has_page, number_stands, IdsPut, number_first, list_alone, other_slots, pair_each, spare_ids}
use Rattle.cell_places.proofs.Spare.{spare_less}

-- ---- the timers of an answer

timers_sound : (kinds : List CellKind) (x : Answer) → AnswerIsSound kinds x → AnswerIsSound kinds (a.Timers (timers_in x))
timers_sound kinds a.Absent h = (tt, tt)
timers_sound kinds (a.One y) h = (tt, tt)
timers_sound kinds (a.Names ns) h = (tt, tt)
timers_sound kinds (a.Cells cs) h = (tt, tt)
timers_sound kinds (a.Heard next ls) h = (tt, tt)
timers_sound kinds (a.Timers ts) h = h
timers_sound kinds (a.Guesses gs) h = (tt, tt)

timers_below : (next : ℤ) (x : Answer) → IdsBelow next x → IdsBelow next (a.Timers (timers_in x))
timers_below next a.Absent h = tt
timers_below next (a.One y) h = tt
timers_below next (a.Names ns) h = tt
timers_below next (a.Cells cs) h = tt
timers_below next (a.Heard after ls) h = tt
timers_below next (a.Timers ts) h = h
timers_below next (a.Guesses gs) h = tt

timer_numbers : (kinds : List CellKind) (x : Answer) → Stands kinds (place page_cell s.Timers) x → Every (λ (t : Timer). IsNumber t.id × IsNumber t.due) (timers_in x)
timer_numbers kinds a.Absent h = tt
timer_numbers kinds (a.One y) h = tt
timer_numbers kinds (a.Names ns) h = tt
timer_numbers kinds (a.Cells cs) h = tt
timer_numbers kinds (a.Heard next ls) h = tt
timer_numbers kinds (a.Timers ts) h = h.numbers
timer_numbers kinds (a.Guesses gs) h = tt

-- sound timers with numbers can be put
timers_can : (kinds : List CellKind) (ts : List Timer) → HasPage kinds → AnswerIsSound kinds (a.Timers ts) → Every (λ (t : Timer). IsNumber t.id × IsNumber t.due) ts → CanPutIn kinds (place page_cell s.Timers) (a.Timers ts)
timers_can kinds ts has sound numbers =
    can_put_timers kinds ts has (Every-map _ _ (λ (t : Timer) h. called_below kinds t.callback h) ts sound.0) numbers

-- ---- both places

-- the next id is z, and these are the timers
pub record TimersFit (less : ℕ) (H : Heap) (x : Answer) (ts : List Timer) : Type 0 where
  pub number : Stands H.kinds (place page_cell s.NextTimer) x
  pub number_sound : AnswerIsSound H.kinds x
  pub can : CanPut H (place page_cell s.Timers) (a.Timers ts)
  pub sound : AnswerIsSound H.kinds (a.Timers ts)
  pub below : IdsBelow (number_in x) (a.Timers ts)
  pub room : (number_in x +ℤ pos (weight_left H + less)) ≤ℤ pos 3999999999

pub spare_timers : (codes credit less : ℕ) (H : Heap) (g : Place → Answer) (x : Answer) (ts : List Timer) → Spare codes credit H → less ≤ credit → IdsPut H.at g s.NextTimer s.Timers x (a.Timers ts) → TimersFit less H x ts
    → Spare codes less (record H { at = g })
spare_timers codes credit less H g x ts spare le is fit =
    let y = a.Timers ts in
    let weight = weight_left H + less in
    let fewer = spare_less codes less credit H le spare in
    let next_guess = other_slots H.at g s.NextTimer s.Timers x y is s.NextGuess (λ e. cc) (λ e. cc) in
    let guesses = other_slots H.at g s.NextTimer s.Timers x y is s.Guesses (λ e. cc) (λ e. cc) in
    spare_ids codes credit less H g s.NextTimer s.Timers x y spare le (omega arith) (omega arith) is (record {
      number = fit.number;
      number_sound = fit.number_sound;
      listed = Stands-put H.kinds (place page_cell s.Timers) y fit.can;
      listed_sound = fit.sound;
    }) (record {
      timers = pair_each (λ n l. IdsBelow (number_in n) l) H.at g s.NextTimer s.Timers x y is fit.below spare.sound.page.timers;
      guesses = λ m. IdsBelow-kept _ _ _ _ (next_guess m) (guesses m) (spare.sound.page.guesses m);
      next_timer = pair_each (λ n l. (number_in n +ℤ pos weight) ≤ℤ pos 3999999999) H.at g s.NextTimer s.Timers x y is fit.room fewer.sums.timers;
      next_guess = λ m. subst (λ (z : Answer). (number_in z +ℤ pos weight) ≤ℤ pos 3999999999) (sym (next_guess m)) (fewer.sums.guesses m);
    })

-- ---- one more

-- the timer has the next id, its function can be called, and its moment is a number
pub record CanAddTimer (H : Heap) (t : Timer) : Type 0 where
  pub id : t.id ≡ number_in (H.at (place page_cell s.NextTimer))
  pub called : IsCalled H.kinds t.callback
  pub due : IsNumber t.due

-- what stands at the two places then
abbrev pub next_timer_then : Timer → Answer
next_timer_then t = a.One (v.Num (t.id +ℤ pos 1))

abbrev pub timers_then : Heap → Timer → List Timer
timers_then H t = timers_in (H.at (place page_cell s.Timers)) ++ t ∷ []

added_fits : (codes credit : ℕ) (H : Heap) (t : Timer) → Spare codes (credit + 1) H → CanAddTimer H t → TimersFit credit H (next_timer_then t) (timers_then H t)
added_fits codes credit H t spare can =
    let N = place page_cell s.NextTimer in
    let L = place page_cell s.Timers in
    let ts = timers_in (H.at L) in
    let page = has_page codes H spare.sound in
    let old_number = number_stands H.kinds N (H.at N) (spare.sound.valid.places N) in
    let room = spare.sums.timers page_cell in
    let same = can.id in
    let number : IsNumber (t.id +ℤ pos 1) = record { least = (let low = old_number.least in omega (arith, ints)); greatest = omega (arith, ints) } in
    let id : IsNumber t.id = subst IsNumber (sym same) old_number in
    let sound = timers_sound H.kinds (H.at L) (spare.sound.answers L) in
    let below = timers_below (number_in (H.at N)) (H.at L) (spare.sound.page.timers page_cell) in
    let all : AnswerIsSound H.kinds (a.Timers (ts ++ t ∷ [])) = (
      every_last (λ (u : Timer). IsCalled H.kinds u.callback) ts t sound.0 can.called,
      distinct_last (λ (u : Timer). u.id) ts t sound.1
          (not_named (λ (u : Timer). u.id) (λ (u : Timer). u.id <ℤ number_in (H.at N)) t.id (λ u less e. omega (arith, ints)) ts below),
    ) in
    record {
      number = can_put_next_timer H.kinds (t.id +ℤ pos 1) page number;
      number_sound = tt;
      can = timers_can H.kinds (ts ++ t ∷ []) page all
          (every_last (λ (u : Timer). IsNumber u.id × IsNumber u.due) ts t (timer_numbers H.kinds (H.at L) (spare.sound.valid.places L)) (id, can.due));
      sound = all;
      below = every_last (λ (u : Timer). u.id <ℤ (t.id +ℤ pos 1)) ts t
          (Every-map (λ (u : Timer). u.id <ℤ number_in (H.at N)) (λ (u : Timer). u.id <ℤ (t.id +ℤ pos 1)) (λ u less. omega (arith, ints)) ts below) (omega (arith, ints));
      room = omega (arith, ints);
    }

-- both can be put
pub can_add_timer : (codes credit : ℕ) (H : Heap) (t : Timer) → Spare codes (credit + 1) H → CanAddTimer H t
    → CanPut H (place page_cell s.NextTimer) (next_timer_then t) × CanPut H (place page_cell s.Timers) (a.Timers (timers_then H t))
can_add_timer codes credit H t spare can =
    let fit = added_fits codes credit H t spare can in (fit.number, fit.can)

-- the next id and then the timers: one more takes one of the credit
pub spare_timer_added : (codes credit : ℕ) (H : Heap) (t : Timer) → Spare codes (credit + 1) H → CanAddTimer H t
    → Spare codes credit (after H (placed (place page_cell s.NextTimer) (next_timer_then t) ∷ placed (place page_cell s.Timers) (a.Timers (timers_then H t)) ∷ []))
spare_timer_added codes credit H t spare can =
    let x = next_timer_then t in
    let ts = timers_then H t in
    let g : Place → Answer = put_at (put_at H.at (place page_cell s.NextTimer) x) (place page_cell s.Timers) (a.Timers ts) in
    spare_timers codes (credit + 1) credit H g x ts spare (omega arith) (number_first H.at s.NextTimer s.Timers x (a.Timers ts) (λ e. cc)) (added_fits codes credit H t spare can)

-- ---- fewer

-- those that pass a test can be put
pub can_leave_timers : (codes : ℕ) (H : Heap) (test : Timer → Bool) → IsSound codes H → CanPut H (place page_cell s.Timers) (a.Timers (filter test (timers_in (H.at (place page_cell s.Timers)))))
can_leave_timers codes H test is =
    let L = place page_cell s.Timers in
    let sound = timers_sound H.kinds (H.at L) (is.answers L) in
    timers_can H.kinds _ (has_page codes H is)
    (every_filter _ test _ sound.0, distinct_filter (λ (u : Timer). u.id) test _ sound.1)
    (every_filter _ test _ (timer_numbers H.kinds (H.at L) (is.valid.places L)))

-- and they stay
pub spare_timers_left : (codes credit : ℕ) (H : Heap) (test : Timer → Bool) → Spare codes credit H
    → Spare codes credit (after H (placed (place page_cell s.Timers) (a.Timers (filter test (timers_in (H.at (place page_cell s.Timers))))) ∷ []))
spare_timers_left codes credit H test spare =
    let N = place page_cell s.NextTimer in
    let L = place page_cell s.Timers in
    let ts = filter test (timers_in (H.at L)) in
    let sound = timers_sound H.kinds (H.at L) (spare.sound.answers L) in
    let below = timers_below (number_in (H.at N)) (H.at L) (spare.sound.page.timers page_cell) in
    spare_timers codes credit credit H (put_at H.at L (a.Timers ts)) (H.at N) ts spare (omega arith) (list_alone H.at s.NextTimer s.Timers (a.Timers ts) (λ e. cc)) (record {
      number = spare.sound.valid.places N;
      number_sound = spare.sound.answers N;
      can = can_leave_timers codes H test spare.sound;
      sound = (every_filter _ test _ sound.0, distinct_filter (λ (u : Timer). u.id) test _ sound.1);
      below = every_filter _ test _ below;
      room = spare.sums.timers page_cell;
    })
