-- A guess is added, or some are taken away: the heap stays sound.
use Rattle.std.proofs.Common.{◌≡◌, ℕ, ◌+◌, ◌≤◌, ℤ, pos, ◌+ℤ◌, ◌≤ℤ◌, ◌<ℤ◌, List, [], ◌∷◌, Option, Some, None, ◌++◌, length, filter, Bool, sym, subst, arith}
use Rattle.std.proofs.lemmas.Int.{ints}
use Rattle.page_units.specs.Numbers.{IsNumber}
use Rattle.page_units.specs.declared.value.CellName.{CellName}
use Rattle.page_units.specs.declared.value.Value.TheVariants as v
use Rattle.cell_places.specs.declared.place.Place.{Place}
use Rattle.cell_places.specs.declared.place.Slot.TheVariants as s
use Rattle.cell_places.specs.declared.answer.Answer.{Answer}
use Rattle.cell_places.specs.declared.answer.Answer.TheVariants as a
use Rattle.cell_places.specs.declared.answer.Guess.{Guess}
use Rattle.cell_places.specs.declared.kind.CellKind.{CellKind}
use Rattle.cell_places.specs.Lists.{Every}
use Rattle.cell_places.specs.Heap.{Heap, place, put_at, weight_left, number_in, guesses_in}
use Rattle.cell_places.specs.Known.{page_cell}
use Rattle.cell_places.specs.Within.{OptionIn, is_below}
use Rattle.cell_places.specs.Valid.{CanPut, CanPutIn, Stands}
use Rattle.cell_places.specs.Acts.{placed, after}
use Rattle.cell_places.specs.Sound.{AnswerIsSound, IdsBelow, IsCalledIfAny, IsSound}
use Rattle.cell_places.specs.Spare.{Spare}
use Rattle.cell_places.proofs.Grown.{Every-map, Stands-put}
use Rattle.cell_places.proofs.CanPuts.{HasPage, can_put_next_guess, can_put_guesses}
use Rattle.cell_places.proofs.ListenersKept.{called_below}
use Rattle.cell_places.proofs.ListsKept.{every_last, every_filter, distinct_last, distinct_filter, not_named}
use Rattle.cell_places.proofs.KeepsSound.{IdsBelow-kept}
use Rattle.cell_places.proofs.PagePuts.{has_page, number_stands, IdsPut, list_first, list_alone, other_slots, pair_each, spare_ids}
use Rattle.cell_places.proofs.Spare.{spare_less}

called_if_any : (kinds : List CellKind) (o : Option CellName) → IsCalledIfAny kinds o → OptionIn (is_below (length kinds)) o
called_if_any kinds None h = tt
called_if_any kinds (Some n) h = called_below kinds n h

-- ---- the guesses of an answer

guesses_sound : (kinds : List CellKind) (x : Answer) → AnswerIsSound kinds x → AnswerIsSound kinds (a.Guesses (guesses_in x))
guesses_sound kinds a.Absent h = (tt, tt)
guesses_sound kinds (a.One y) h = (tt, tt)
guesses_sound kinds (a.Names ns) h = (tt, tt)
guesses_sound kinds (a.Cells cs) h = (tt, tt)
guesses_sound kinds (a.Heard next ls) h = (tt, tt)
guesses_sound kinds (a.Guesses gs) h = h
guesses_sound kinds (a.Timers ts) h = (tt, tt)

guesses_below : (next : ℤ) (x : Answer) → IdsBelow next x → IdsBelow next (a.Guesses (guesses_in x))
guesses_below next a.Absent h = tt
guesses_below next (a.One y) h = tt
guesses_below next (a.Names ns) h = tt
guesses_below next (a.Cells cs) h = tt
guesses_below next (a.Heard after ls) h = tt
guesses_below next (a.Guesses gs) h = h
guesses_below next (a.Timers ts) h = tt

guess_numbers : (kinds : List CellKind) (x : Answer) → Stands kinds (place page_cell s.Guesses) x → Every (λ (guess : Guess). IsNumber guess.id) (guesses_in x)
guess_numbers kinds a.Absent h = tt
guess_numbers kinds (a.One y) h = tt
guess_numbers kinds (a.Names ns) h = tt
guess_numbers kinds (a.Cells cs) h = tt
guess_numbers kinds (a.Heard next ls) h = tt
guess_numbers kinds (a.Guesses gs) h = h.numbers
guess_numbers kinds (a.Timers ts) h = tt

-- sound guesses with numbers can be put
guesses_can : (kinds : List CellKind) (gs : List Guess) → HasPage kinds → AnswerIsSound kinds (a.Guesses gs) → Every (λ (guess : Guess). IsNumber guess.id) gs → CanPutIn kinds (place page_cell s.Guesses) (a.Guesses gs)
guesses_can kinds gs has sound numbers =
    can_put_guesses kinds gs has (Every-map _ _ (λ (guess : Guess) h. (called_if_any kinds guess.mutator h.0, called_if_any kinds guess.sketch h.1)) gs sound.0) numbers

-- ---- both places

-- the next id is z, and these are the guesses
pub record GuessesFit (less : ℕ) (H : Heap) (x : Answer) (gs : List Guess) : Type 0 where
  pub number : Stands H.kinds (place page_cell s.NextGuess) x
  pub number_sound : AnswerIsSound H.kinds x
  pub can : CanPut H (place page_cell s.Guesses) (a.Guesses gs)
  pub sound : AnswerIsSound H.kinds (a.Guesses gs)
  pub below : IdsBelow (number_in x) (a.Guesses gs)
  pub room : (number_in x +ℤ pos (weight_left H + less)) ≤ℤ pos 3999999999

pub spare_guesses : (codes credit less : ℕ) (H : Heap) (g : Place → Answer) (x : Answer) (gs : List Guess) → Spare codes credit H → less ≤ credit → IdsPut H.at g s.NextGuess s.Guesses x (a.Guesses gs) → GuessesFit less H x gs
    → Spare codes less (record H { at = g })
spare_guesses codes credit less H g x gs spare le is fit =
    let y = a.Guesses gs in
    let weight = weight_left H + less in
    let fewer = spare_less codes less credit H le spare in
    let next_timer = other_slots H.at g s.NextGuess s.Guesses x y is s.NextTimer (λ e. cc) (λ e. cc) in
    let timers = other_slots H.at g s.NextGuess s.Guesses x y is s.Timers (λ e. cc) (λ e. cc) in
    spare_ids codes credit less H g s.NextGuess s.Guesses x y spare le (omega arith) (omega arith) is (record {
      number = fit.number;
      number_sound = fit.number_sound;
      listed = Stands-put H.kinds (place page_cell s.Guesses) y fit.can;
      listed_sound = fit.sound;
    }) (record {
      timers = λ m. IdsBelow-kept _ _ _ _ (next_timer m) (timers m) (spare.sound.page.timers m);
      guesses = pair_each (λ n l. IdsBelow (number_in n) l) H.at g s.NextGuess s.Guesses x y is fit.below spare.sound.page.guesses;
      next_timer = λ m. subst (λ (z : Answer). (number_in z +ℤ pos weight) ≤ℤ pos 3999999999) (sym (next_timer m)) (fewer.sums.timers m);
      next_guess = pair_each (λ n l. (number_in n +ℤ pos weight) ≤ℤ pos 3999999999) H.at g s.NextGuess s.Guesses x y is fit.room fewer.sums.guesses;
    })

-- ---- one more

-- the guess has the next id, and its mutator and its sketch can be called
pub record CanAddGuess (H : Heap) (guess : Guess) : Type 0 where
  pub id : guess.id ≡ number_in (H.at (place page_cell s.NextGuess))
  pub mutator : IsCalledIfAny H.kinds guess.mutator
  pub sketch : IsCalledIfAny H.kinds guess.sketch

-- what stands at the two places then
abbrev pub next_guess_then : Guess → Answer
next_guess_then guess = a.One (v.Num (guess.id +ℤ pos 1))

abbrev pub guesses_then : Heap → Guess → List Guess
guesses_then H guess = guesses_in (H.at (place page_cell s.Guesses)) ++ guess ∷ []

added_fits : (codes credit : ℕ) (H : Heap) (guess : Guess) → Spare codes (credit + 1) H → CanAddGuess H guess → GuessesFit credit H (next_guess_then guess) (guesses_then H guess)
added_fits codes credit H guess spare can =
    let N = place page_cell s.NextGuess in
    let L = place page_cell s.Guesses in
    let gs = guesses_in (H.at L) in
    let page = has_page codes H spare.sound in
    let old_number = number_stands H.kinds N (H.at N) (spare.sound.valid.places N) in
    let room = spare.sums.guesses page_cell in
    let same = can.id in
    let number : IsNumber (guess.id +ℤ pos 1) = record { least = (let low = old_number.least in omega (arith, ints)); greatest = omega (arith, ints) } in
    let id : IsNumber guess.id = subst IsNumber (sym same) old_number in
    let sound = guesses_sound H.kinds (H.at L) (spare.sound.answers L) in
    let below = guesses_below (number_in (H.at N)) (H.at L) (spare.sound.page.guesses page_cell) in
    let all : AnswerIsSound H.kinds (a.Guesses (gs ++ guess ∷ [])) = (
      every_last (λ (u : Guess). IsCalledIfAny H.kinds u.mutator × IsCalledIfAny H.kinds u.sketch) gs guess sound.0 (can.mutator, can.sketch),
      distinct_last (λ (u : Guess). u.id) gs guess sound.1
          (not_named (λ (u : Guess). u.id) (λ (u : Guess). u.id <ℤ number_in (H.at N)) guess.id (λ u less e. omega (arith, ints)) gs below),
    ) in
    record {
      number = can_put_next_guess H.kinds (guess.id +ℤ pos 1) page number;
      number_sound = tt;
      can = guesses_can H.kinds (gs ++ guess ∷ []) page all
          (every_last (λ (u : Guess). IsNumber u.id) gs guess (guess_numbers H.kinds (H.at L) (spare.sound.valid.places L)) id);
      sound = all;
      below = every_last (λ (u : Guess). u.id <ℤ (guess.id +ℤ pos 1)) gs guess
          (Every-map (λ (u : Guess). u.id <ℤ number_in (H.at N)) (λ (u : Guess). u.id <ℤ (guess.id +ℤ pos 1)) (λ u less. omega (arith, ints)) gs below) (omega (arith, ints));
      room = omega (arith, ints);
    }

-- both can be put
pub can_add_guess : (codes credit : ℕ) (H : Heap) (guess : Guess) → Spare codes (credit + 1) H → CanAddGuess H guess
    → CanPut H (place page_cell s.NextGuess) (next_guess_then guess) × CanPut H (place page_cell s.Guesses) (a.Guesses (guesses_then H guess))
can_add_guess codes credit H guess spare can =
    let fit = added_fits codes credit H guess spare can in (fit.number, fit.can)

-- the guesses and then the next id: one more takes one of the credit
pub spare_guess_added : (codes credit : ℕ) (H : Heap) (guess : Guess) → Spare codes (credit + 1) H → CanAddGuess H guess
    → Spare codes credit (after H (placed (place page_cell s.Guesses) (a.Guesses (guesses_then H guess)) ∷ placed (place page_cell s.NextGuess) (next_guess_then guess) ∷ []))
spare_guess_added codes credit H guess spare can =
    let x = next_guess_then guess in
    let gs = guesses_then H guess in
    let g : Place → Answer = put_at (put_at H.at (place page_cell s.Guesses) (a.Guesses gs)) (place page_cell s.NextGuess) x in
    spare_guesses codes (credit + 1) credit H g x gs spare (omega arith) (list_first H.at s.NextGuess s.Guesses x (a.Guesses gs) (λ e. cc)) (added_fits codes credit H guess spare can)

-- ---- fewer

-- those that pass a test can be put
pub can_leave_guesses : (codes : ℕ) (H : Heap) (test : Guess → Bool) → IsSound codes H → CanPut H (place page_cell s.Guesses) (a.Guesses (filter test (guesses_in (H.at (place page_cell s.Guesses)))))
can_leave_guesses codes H test is =
    let L = place page_cell s.Guesses in
    let sound = guesses_sound H.kinds (H.at L) (is.answers L) in
    guesses_can H.kinds _ (has_page codes H is)
    (every_filter _ test _ sound.0, distinct_filter (λ (u : Guess). u.id) test _ sound.1)
    (every_filter _ test _ (guess_numbers H.kinds (H.at L) (is.valid.places L)))

-- and they stay
pub spare_guesses_left : (codes credit : ℕ) (H : Heap) (test : Guess → Bool) → Spare codes credit H
    → Spare codes credit (after H (placed (place page_cell s.Guesses) (a.Guesses (filter test (guesses_in (H.at (place page_cell s.Guesses))))) ∷ []))
spare_guesses_left codes credit H test spare =
    let N = place page_cell s.NextGuess in
    let L = place page_cell s.Guesses in
    let gs = filter test (guesses_in (H.at L)) in
    let sound = guesses_sound H.kinds (H.at L) (spare.sound.answers L) in
    let below = guesses_below (number_in (H.at N)) (H.at L) (spare.sound.page.guesses page_cell) in
    spare_guesses codes credit credit H (put_at H.at L (a.Guesses gs)) (H.at N) gs spare (omega arith) (list_alone H.at s.NextGuess s.Guesses (a.Guesses gs) (λ e. cc)) (record {
      number = spare.sound.valid.places N;
      number_sound = spare.sound.answers N;
      can = can_leave_guesses codes H test spare.sound;
      sound = (every_filter _ test _ sound.0, distinct_filter (λ (u : Guess). u.id) test _ sound.1);
      below = every_filter _ test _ below;
      room = spare.sums.guesses page_cell;
    })
