-- The heap that a page starts with is sound.
use Rattle.std.proofs.Common.{◌≡◌, ℕ, ◌+◌, ◌-◌, ◌≤◌, ℤ, pos, ◌+ℤ◌, ◌≤ℤ◌, List, length, Bool, true, false, Some, None, refl, sym, ◌∙◌, subst, arith}
use Rattle.std.specs.List.{list_all}
use Rattle.std.proofs.lemmas.Int.{ints}
use Rattle.page_units.specs.Numbers.{IsNumber, greatest_number}
use Rattle.page_units.specs.declared.value.CellName.{CellName}
use Rattle.page_units.specs.declared.value.Value.{Value}
use Rattle.page_units.specs.declared.value.Value.TheVariants as v
use Rattle.cell_places.specs.declared.place.Place.{Place}
use Rattle.cell_places.specs.declared.place.Slot.{Slot}
use Rattle.cell_places.specs.declared.place.Slot.TheVariants as s
use Rattle.cell_places.specs.declared.answer.Answer.{Answer}
use Rattle.cell_places.specs.declared.answer.Answer.TheVariants.{Absent, One}
use Rattle.cell_places.specs.declared.kind.CellKind.{CellKind}
use Rattle.cell_places.specs.declared.kind.CellKind.TheVariants as k
use Rattle.cell_places.specs.Lists.{Among, Distinct, Every}
use Rattle.cell_places.specs.Slots.{has_slot, sort_of, suits}
use Rattle.cell_places.specs.Heap.{Heap, place, number_in, next_heard, children_at, names_in, cells_in}
use Rattle.cell_places.specs.Within.{KindIn, is_below}
use Rattle.cell_places.specs.Valid.{CanPutIn, Stands, IsValid}
use Rattle.cell_places.specs.Acts.{after}
use Rattle.cell_places.specs.Known.{page_cell}
use Rattle.cell_places.specs.StartRows.{Row, puts, page_rows, built_in_rows}
use Rattle.cell_places.specs.Start.{start, start_kinds, bare_heap, start_puts}
use Rattle.cell_places.specs.Sound.{KindIsSound, AnswerIsSound, AttributesAreListed, NodesAreTrees, HasParent, top, PageIsSound, IdsBelow, SumsWithin, LengthFits, IsSound}
use Rattle.cell_places.proofs.Grown.{Stands-put}
use Rattle.cell_places.proofs.EachPut.{Every-tested, puts-each}
use Rattle.cell_places.proofs.StartKinds.{Founds, start_founds, is_first, row_fits, row_is_sound, row_put, row_sound}

-- the puts of a start over any kinds
abbrev pub started : List CellKind → ℕ → ℤ → Heap
started kinds weight now = after (bare_heap kinds weight) (start_puts now)

-- ---- what can be put

-- a number can be put at a slot of the page
can_put_number : (kinds : List CellKind) (slot : Slot) (n : ℤ) → Founds kinds → has_slot k.Page slot ≡ true → suits (sort_of slot) (One (v.Num n)) ≡ true → IsNumber n → CanPutIn kinds (place page_cell slot) (One (v.Num n))
can_put_number kinds slot n f h fits number = record {
  there = (k.Page, f.page, h);
  suits = fits;
  names = tt;
  numbers = number;
}

-- the clock or an id can be put where the kinds are those of a start
pub number_allowed : (kinds : List CellKind) (slot : Slot) (n : ℤ) → kinds ≡ start_kinds → has_slot k.Page slot ≡ true → suits (sort_of slot) (One (v.Num n)) ≡ true → pos 0 ≤ℤ n → n ≤ℤ pos greatest_number → CanPutIn kinds (place page_cell slot) (One (v.Num n))
number_allowed kinds slot n e h fits from to =
    can_put_number kinds slot n (subst Founds (sym e) start_founds) h fits (record { least = omega (arith, ints); greatest = to })

-- each row of the tables can be put
pub rows_put : (kinds : List CellKind) → Founds kinds → Every (λ (r : Row). CanPutIn kinds r.0 r.1) built_in_rows
rows_put kinds f = Every-tested (row_fits kinds) (λ (r : Row). CanPutIn kinds r.0 r.1) (row_put kinds) built_in_rows f.rows

-- ---- what holds of each place

-- what holds of nothing at each place, and of each row of the start, holds of each place and its answer
pub at_each : (P : Place → Answer → Type 0) (kinds : List CellKind) (weight : ℕ) (now : ℤ)
    → ((p : Place) → P p Absent)
    → P (place page_cell s.Clock) (One (v.Num now))
    → P (place page_cell s.NextTimer) (One (v.Num (pos 1)))
    → P (place page_cell s.NextGuess) (One (v.Num (pos 1)))
    → Every (λ (r : Row). P r.0 r.1) built_in_rows
    → (p : Place) → P p ((started kinds weight now).at p)
at_each P kinds weight now none clock timer guess rows =
    let H : Heap = after (bare_heap kinds weight) (puts (page_rows now)) in
    let page : (p : Place) → P p (H.at p) = puts-each P (bare_heap kinds weight) (page_rows now) none (clock, (timer, (guess, tt))) in
    puts-each P H built_in_rows page rows

-- the slots that the tables put
is_built : Slot → Bool
is_built s.Proto = true
is_built (s.Own key) = true
is_built (s.Bind name) = true
is_built _ = false

row_is_built : Row → Bool
row_is_built r = is_built r.0.slot

rows_built : list_all row_is_built built_in_rows ≡ true
unfolding is_built row_is_built
rows_built = refl

-- the slots that a start puts
is_put : Slot → Bool
is_put s.Clock = true
is_put s.NextTimer = true
is_put s.NextGuess = true
is_put s.Proto = true
is_put (s.Own key) = true
is_put (s.Bind name) = true
is_put _ = false

built_put : (slot : Slot) → is_built slot ≡ true → is_put slot ≡ false → ⊥
unfolding is_built is_put
built_put s.Proto h e = cc
built_put (s.Own key) h e = cc
built_put (s.Bind name) h e = cc
built_put _ h e = cc

-- what stands at a place of another slot is Absent
absent_unless_put : (kinds : List CellKind) (weight : ℕ) (now : ℤ) (p : Place) → is_put p.slot ≡ false → (started kinds weight now).at p ≡ Absent
unfolding is_put row_is_built
absent_unless_put kinds weight now =
    let P : Place → Answer → Type 0 = λ p x. is_put p.slot ≡ false → x ≡ Absent in
    let rows : Every (λ (r : Row). P r.0 r.1) built_in_rows = Every-tested row_is_built (λ (r : Row). P r.0 r.1) (λ r h e. absurd (built_put r.0.slot h e)) built_in_rows rows_built in
    at_each P kinds weight now (λ p e. refl) (λ e. cc) (λ e. cc) (λ e. cc) rows

-- no other slot has an answer at the start
absent : (kinds : List CellKind) (weight : ℕ) (now : ℤ) (n : CellName) (slot : Slot) → is_put slot ≡ false → (started kinds weight now).at (place n slot) ≡ Absent
absent kinds weight now n slot e = absent_unless_put kinds weight now (place n slot) e

-- Absent is no value
absent_one : (x : Value) → Absent ≡ One x → ⊥
absent_one x e = cc

-- ---- the parts of a sound heap

-- the kinds of a start name no cell, so none that isn't below
kinds_below : (n : ℕ) (kind : CellKind) → is_first kind ≡ true → KindIn (is_below n) kind
kinds_below n (k.Scope None) e = tt
kinds_below n (k.Scope (Some outer)) e = cc
kinds_below n k.Plain e = tt
kinds_below n k.List e = tt
kinds_below n (k.Fault name) e = tt
kinds_below n (k.Fun code scope) e = cc
kinds_below n (k.Native which) e = tt
kinds_below n k.Page e = tt
kinds_below n k.Document e = tt
kinds_below n (k.Element name) e = tt
kinds_below n k.Chars e = tt
kinds_below n k.Event e = tt

-- and each is sound
kind_is_sound : (codes : ℕ) (kinds : List CellKind) (kind : CellKind) → is_first kind ≡ true → KindIsSound codes kinds kind
kind_is_sound codes kinds (k.Scope None) e = tt
kind_is_sound codes kinds (k.Scope (Some outer)) e = cc
kind_is_sound codes kinds k.Plain e = tt
kind_is_sound codes kinds k.List e = tt
kind_is_sound codes kinds (k.Fault name) e = tt
kind_is_sound codes kinds (k.Fun code scope) e = cc
kind_is_sound codes kinds (k.Native which) e = grind (arith, e)
kind_is_sound codes kinds k.Page e = tt
kind_is_sound codes kinds k.Document e = tt
kind_is_sound codes kinds (k.Element name) e = tt
kind_is_sound codes kinds k.Chars e = tt
kind_is_sound codes kinds k.Event e = tt

-- the first id is a number of a script
one_is_number : IsNumber (pos 1)
one_is_number = record { least = omega (arith, ints); greatest = omega (arith, ints) }

-- the heap is valid
started_valid : (kinds : List CellKind) (weight : ℕ) (now : ℤ) → Founds kinds → IsNumber now → IsValid (started kinds weight now)
started_valid kinds weight now f clock = record {
  places = at_each (Stands kinds) kinds weight now (λ p. tt)
      (can_put_number kinds s.Clock now f refl refl clock)
      (can_put_number kinds s.NextTimer (pos 1) f refl refl one_is_number)
      (can_put_number kinds s.NextGuess (pos 1) f refl refl one_is_number)
      (Every-tested (row_fits kinds) (λ (r : Row). Stands kinds r.0 r.1) (λ r h. Stands-put kinds r.0 r.1 (row_put kinds r h)) built_in_rows f.rows);
  kinds = λ n kind g. kinds_below n kind (f.each n kind g);
  count = let e = f.count in omega arith;
  spent = omega arith;
}

-- each answer is sound
started_answers : (kinds : List CellKind) (weight : ℕ) (now : ℤ) → Founds kinds → (p : Place) → AnswerIsSound kinds ((started kinds weight now).at p)
started_answers kinds weight now f =
    at_each (λ p x. AnswerIsSound kinds x) kinds weight now (λ p. tt) tt tt tt
    (Every-tested (row_is_sound kinds) (λ (r : Row). AnswerIsSound kinds r.1) (λ r h. row_sound kinds r.0 r.1 h) built_in_rows f.sound)

-- no list has a length yet
started_lengths : (kinds : List CellKind) (weight : ℕ) (now : ℤ) (n : CellName) → LengthFits ((started kinds weight now).at (place n s.Length))
unfolding is_put
started_lengths kinds weight now n =
    subst LengthFits (sym (absent kinds weight now n s.Length refl)) (omega (arith, ints), omega (arith, ints))

-- no element has an attribute yet
started_attributes : (kinds : List CellKind) (weight : ℕ) (now : ℤ) (n : CellName) → AttributesAreListed (started kinds weight now) n
unfolding is_put
started_attributes kinds weight now n =
    let names = absent kinds weight now n s.AttrNames refl in
    record {
      once = subst (λ (x : Answer). Distinct (names_in x)) (sym names) tt;
      there = λ name i. absurd (subst (λ (x : Answer). Among name (names_in x)) names i);
      all = λ name h. absurd (h (absent kinds weight now n (s.Attr name) refl));
    }

-- no node has a child or a parent yet
started_nodes : (kinds : List CellKind) (weight : ℕ) (now : ℤ) → NodesAreTrees (started kinds weight now)
unfolding is_put
started_nodes kinds weight now =
    let H = started kinds weight now in
    let childless : (n m : CellName) → Among m (children_at H n) → ⊥ = λ n m i. subst (λ (x : Answer). Among m (cells_in x)) (absent kinds weight now n s.Children refl) i in
    let orphan : (n m : CellName) → HasParent H n m → ⊥ = λ n m h. absent_one (v.Cell m) (sym (absent kinds weight now n s.Parent refl) ∙ h) in
    record {
      kinds = λ n m i. absurd (childless n m i);
      parents = λ n m i. absurd (childless n m i);
      once = λ n. subst (λ (x : Answer). Distinct (cells_in x)) (sym (absent kinds weight now n s.Children refl)) tt;
      children = λ n m h. absurd (orphan m n h);
      ends = λ n. top n (λ m h. orphan n m h);
    }

-- the clock is there, and no timer or guess waits
started_page : (kinds : List CellKind) (weight : ℕ) (now : ℤ) → pos 0 ≤ℤ now → now ≤ℤ pos greatest_number → PageIsSound (started kinds weight now)
unfolding is_put
started_page kinds weight now from to = record {
  clock = (now, refl, from, to);
  timers = λ n. subst (IdsBelow _) (sym (absent kinds weight now n s.Timers refl)) tt;
  guesses = λ n. subst (IdsBelow _) (sym (absent kinds weight now n s.Guesses refl)) tt;
}

-- the slots of next ids
is_next_id : Slot → Bool
is_next_id s.NextTimer = true
is_next_id s.NextGuess = true
is_next_id _ = false

built_no_id : (slot : Slot) → is_built slot ≡ true → is_next_id slot ≡ true → ⊥
unfolding is_built is_next_id
built_no_id s.NextTimer h e = cc
built_no_id s.NextGuess h e = cc
built_no_id _ h e = cc

-- a next id is 0 or 1
next_ids : (kinds : List CellKind) (weight : ℕ) (now : ℤ) (p : Place) → is_next_id p.slot ≡ true → number_in ((started kinds weight now).at p) ≤ℤ pos 1
unfolding is_next_id row_is_built
next_ids kinds weight now =
    let P : Place → Answer → Type 0 = λ p x. is_next_id p.slot ≡ true → number_in x ≤ℤ pos 1 in
    let rows : Every (λ (r : Row). P r.0 r.1) built_in_rows = Every-tested row_is_built (λ (r : Row). P r.0 r.1) (λ r h e. absurd (built_no_id r.0.slot h e)) built_in_rows rows_built in
    at_each P kinds weight now (λ p e. omega (arith, ints)) (λ e. cc) (λ e. omega (arith, ints)) (λ e. omega (arith, ints)) rows

-- a next id and the weight that is left stay within the bound
sum_fits : (z : ℤ) (weight : ℕ) → z ≤ℤ pos 1 → weight ≤ 3000000000 → (z +ℤ pos (weight - 0)) ≤ℤ pos 3999999999
sum_fits z weight h w = omega (arith, ints)

-- the sums of the heap stay within the bound
started_sums : (kinds : List CellKind) (weight : ℕ) (now : ℤ) → length kinds ≡ 128 → weight ≤ 3000000000 → SumsWithin 3999999999 (started kinds weight now)
unfolding is_put is_next_id
started_sums kinds weight now count few = record {
  count = omega arith;
  heard = λ n. subst (λ (x : Answer). next_heard x + (weight - 0) ≤ 3999999999) (sym (absent kinds weight now n s.Heard refl)) (omega arith);
  timers = λ n. sum_fits _ weight (next_ids kinds weight now (place n s.NextTimer) refl) few;
  guesses = λ n. sum_fits _ weight (next_ids kinds weight now (place n s.NextGuess) refl) few;
}

-- the heap is sound, over any kinds that a page can start with
started_is_sound : (codes : ℕ) (kinds : List CellKind) (weight : ℕ) (now : ℤ) → Founds kinds → weight ≤ 3000000000 → pos 0 ≤ℤ now → now ≤ℤ pos greatest_number → IsSound codes (started kinds weight now)
started_is_sound codes kinds weight now f few from to = record {
  valid = started_valid kinds weight now f (record { least = omega (arith, ints); greatest = to });
  start = f.start;
  kinds = λ n kind g. kind_is_sound codes kinds kind (f.each n kind g);
  answers = started_answers kinds weight now f;
  lengths = started_lengths kinds weight now;
  attributes = started_attributes kinds weight now;
  nodes = started_nodes kinds weight now;
  page = started_page kinds weight now from to;
  sums = started_sums kinds weight now f.count few;
}

-- the heap that a page starts with is sound
pub start_is_sound : (codes weight : ℕ) (now : ℤ) → weight ≤ 3000000000 → pos 0 ≤ℤ now → now ≤ℤ pos greatest_number → IsSound codes (start weight now)
start_is_sound codes weight now few from to = started_is_sound codes start_kinds weight now start_founds few from to
