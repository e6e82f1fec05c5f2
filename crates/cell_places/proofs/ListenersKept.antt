-- A listener is added, or some are taken away: the heap stays sound.
use Rattle.std.proofs.Common.{◌≡◌, ℕ, ◌+◌, ◌<◌, ◌≤◌, pos, ◌+ℤ◌, ◌≤ℤ◌, List, [], ◌∷◌, ◌++◌, length, slice_get, filter, Bool, true, refl, sym, subst, arith}
use Rattle.std.proofs.lemmas.Bool.{lt-ltb}
use Rattle.page_units.specs.declared.value.CellName.{CellName}
use Rattle.cell_places.specs.declared.place.Place.{Place}
use Rattle.cell_places.specs.declared.place.Slot.TheVariants as s
use Rattle.cell_places.specs.declared.answer.Answer.{Answer}
use Rattle.cell_places.specs.declared.answer.Answer.TheVariants as a
use Rattle.cell_places.specs.declared.answer.Listener.{Listener}
use Rattle.cell_places.specs.declared.kind.CellKind.{CellKind}
use Rattle.cell_places.specs.Kinds.{is_function, is_parent}
use Rattle.cell_places.specs.Heap.{Heap, place, put_at, kind_in, weight_left, number_in, next_heard, listeners_in}
use Rattle.cell_places.specs.Within.{NameIn, is_below}
use Rattle.cell_places.specs.Valid.{CanPut, CanPutIn}
use Rattle.cell_places.specs.Acts.{placed, moved}
use Rattle.cell_places.specs.Sound.{AnswerIsSound, IsCalled, SumsWith}
use Rattle.cell_places.specs.Spare.{Spare}
use Rattle.cell_places.proofs.Grown.{Every-map}
use Rattle.cell_places.proofs.Fine.{some_kind, some_below}
use Rattle.cell_places.proofs.CanPuts.{can_put_heard}
use Rattle.cell_places.proofs.ListsKept.{every_last, every_filter, distinct_last, distinct_filter, not_named}
use Rattle.cell_places.proofs.Puts.{KeepsBut, KeepsBut-put, KeepsPage-but, slot_each, stands_put, answers_put, lengths_kept, attributes_kept, nodes_kept, page_kept}
use Rattle.cell_places.proofs.Spare.{parts_spare, spare_less, spare_puts}

-- what can be called is there
pub called_below : (kinds : List CellKind) (n : CellName) → IsCalled kinds n → NameIn (is_below (length kinds)) n
called_below kinds n h =
    let some = some_kind is_function refl (slice_get kinds n.0) h in
    let below = some_below kinds n.0 some.0 some.1 in
    lt-ltb n.0 (length kinds) below

-- so sound listeners can be put
pub can_put_listeners : (kinds : List CellKind) (n : CellName) (next : ℕ) (ls : List Listener) → is_parent (kind_in kinds n) ≡ true → AnswerIsSound kinds (a.Heard next ls) → CanPutIn kinds (place n s.Heard) (a.Heard next ls)
can_put_listeners kinds n next ls parent sound =
    can_put_heard kinds n next ls parent (Every-map _ _ (λ (l : Listener) h. called_below kinds l.callback h.0) ls sound.0)

-- the listeners of an answer
listeners_sound : (kinds : List CellKind) (x : Answer) → AnswerIsSound kinds x → AnswerIsSound kinds (a.Heard (next_heard x) (listeners_in x))
listeners_sound kinds a.Absent h = (tt, tt)
listeners_sound kinds (a.One y) h = (tt, tt)
listeners_sound kinds (a.Names ns) h = (tt, tt)
listeners_sound kinds (a.Cells cs) h = (tt, tt)
listeners_sound kinds (a.Heard next ls) h = h
listeners_sound kinds (a.Timers ts) h = (tt, tt)
listeners_sound kinds (a.Guesses gs) h = (tt, tt)

-- one more, with the next serial
pub listener_added : (kinds : List CellKind) (x : Answer) (l : Listener) → AnswerIsSound kinds x → IsCalled kinds l.callback → l.serial ≡ next_heard x → AnswerIsSound kinds (a.Heard (next_heard x + 1) (listeners_in x ++ l ∷ []))
listener_added kinds x l sound called e =
    let next = next_heard x in
    let ls = listeners_in x in
    let old = listeners_sound kinds x sound in (
      every_last (λ (m : Listener). IsCalled kinds m.callback × (m.serial < next + 1)) ls l
          (Every-map (λ (m : Listener). IsCalled kinds m.callback × (m.serial < next)) (λ (m : Listener). IsCalled kinds m.callback × (m.serial < next + 1)) (λ m h. (h.0, (let below = h.1 in omega arith))) ls old.0)
          (called, omega arith),
      distinct_last (λ (m : Listener). m.serial) ls l old.1
          (not_named (λ (m : Listener). m.serial) (λ (m : Listener). IsCalled kinds m.callback × (m.serial < next)) l.serial (λ m h same. let below = h.1 in omega arith) ls old.0),
    )

-- those that pass a test
pub listeners_left : (kinds : List CellKind) (x : Answer) (test : Listener → Bool) → AnswerIsSound kinds x → AnswerIsSound kinds (a.Heard (next_heard x) (filter test (listeners_in x)))
listeners_left kinds x test sound =
    let old = listeners_sound kinds x sound in
    (every_filter _ test (listeners_in x) old.0, distinct_filter (λ (m : Listener). m.serial) test (listeners_in x) old.1)

-- ---- the heap stays sound

heard_sums : (weight : ℕ) (H : Heap) (n : CellName) (x : Answer) → next_heard x + weight ≤ 3999999999 → SumsWith weight 3999999999 H → SumsWith weight 3999999999 (record H { at = put_at H.at (place n s.Heard) x })
heard_sums weight H n x room h =
    let keeps : KeepsBut 10 H.at (put_at H.at (place n s.Heard) x) = KeepsBut-put H.at (place n s.Heard) x in
    record {
      count = h.count;
      heard = slot_each (λ y. next_heard y + weight ≤ 3999999999) H.at n s.Heard x room h.heard;
      timers = λ m. let P : Answer → Type 0 = λ y. (number_in y +ℤ pos weight) ≤ℤ pos 3999999999 in subst P (sym (keeps s.NextTimer (λ e. cc) m)) (h.timers m);
      guesses = λ m. let P : Answer → Type 0 = λ y. (number_in y +ℤ pos weight) ≤ℤ pos 3999999999 in subst P (sym (keeps s.NextGuess (λ e. cc) m)) (h.guesses m);
    }

pub spare_heard : (codes credit less : ℕ) (H : Heap) (n : CellName) (next : ℕ) (ls : List Listener) → Spare codes credit H → less ≤ credit → CanPut H (place n s.Heard) (a.Heard next ls) → AnswerIsSound H.kinds (a.Heard next ls) → next + (weight_left H + less) ≤ 3999999999
    → Spare codes less (moved H (placed (place n s.Heard) (a.Heard next ls)))
spare_heard codes credit less H n next ls spare le can sound room =
    let weight = weight_left H + less in
    let x = a.Heard next ls in
    let p = place n s.Heard in
    let g : Place → Answer = put_at H.at p x in
    let parts = parts_spare codes less H (spare_less codes less credit H le spare) in
    let keeps : KeepsBut 10 H.at g = KeepsBut-put H.at p x in
    spare_puts codes credit less H g spare (record {
      places = stands_put weight H p x parts can;
      answers = answers_put weight H p x parts sound;
      lengths = lengths_kept weight H g parts (keeps s.Length (λ e. cc));
      attributes = attributes_kept weight H g parts (keeps s.AttrNames (λ e. cc)) (λ name. keeps (s.Attr name) (λ e. cc));
      nodes = nodes_kept weight H g parts (keeps s.Parent (λ e. cc)) (keeps s.Children (λ e. cc));
      page = page_kept weight H g parts (KeepsPage-but 10 H.at g (omega arith) keeps);
      sums = heard_sums weight H n x room parts.sums;
    })

-- one more takes one of the credit
pub spare_listener_added : (codes credit : ℕ) (H : Heap) (n : CellName) (l : Listener) → Spare codes (credit + 1) H → is_parent (kind_in H.kinds n) ≡ true → IsCalled H.kinds l.callback → l.serial ≡ next_heard (H.at (place n s.Heard))
    → Spare codes credit (moved H (placed (place n s.Heard) (a.Heard (next_heard (H.at (place n s.Heard)) + 1) (listeners_in (H.at (place n s.Heard)) ++ l ∷ []))))
spare_listener_added codes credit H n l spare parent called e =
    let x = H.at (place n s.Heard) in
    let sound = listener_added H.kinds x l (spare.sound.answers (place n s.Heard)) called e in
    spare_heard codes (credit + 1) credit H n (next_heard x + 1) (listeners_in x ++ l ∷ []) spare (omega arith)
    (can_put_listeners H.kinds n (next_heard x + 1) (listeners_in x ++ l ∷ []) parent sound) sound (let room = spare.sums.heard n in omega arith)

-- those that pass a test stay
pub spare_listeners_left : (codes credit : ℕ) (H : Heap) (n : CellName) (test : Listener → Bool) → Spare codes credit H → is_parent (kind_in H.kinds n) ≡ true
    → Spare codes credit (moved H (placed (place n s.Heard) (a.Heard (next_heard (H.at (place n s.Heard))) (filter test (listeners_in (H.at (place n s.Heard)))))))
spare_listeners_left codes credit H n test spare parent =
    let x = H.at (place n s.Heard) in
    let ls = filter test (listeners_in x) in
    let sound = listeners_left H.kinds x test (spare.sound.answers (place n s.Heard)) in
    spare_heard codes credit credit H n (next_heard x) ls spare (omega arith) (can_put_listeners H.kinds n (next_heard x) ls parent sound) sound (spare.sums.heard n)
