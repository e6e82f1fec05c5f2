-- Sound heaps: those that loading, page code and commands keep (this project's own). `codes` is how many function
-- codes the page has.
use Rattle.std.specs.Prelude.{◌≡◌, ◌≢◌, ◌<◌, ◌≤◌, ◌+◌, ℕ, ℤ, pos, ◌+ℤ◌, ◌≤ℤ◌, ◌<ℤ◌, true, List, map, take, length, Option, Some, None, slice_get}
use Rattle.page_units.specs.Numbers.{greatest_number}
use Rattle.page_units.specs.declared.value.CellName.{CellName}
use Rattle.page_units.specs.declared.value.Value.TheVariants as v
use Rattle.cell_places.specs.declared.place.Slot.TheVariants as s
use Rattle.cell_places.specs.declared.place.Place.{Place}
use Rattle.cell_places.specs.declared.answer.Answer.{Answer}
use Rattle.cell_places.specs.declared.answer.Answer.TheVariants as a
use Rattle.cell_places.specs.declared.answer.Listener.{Listener}
use Rattle.cell_places.specs.declared.answer.Timer.{Timer}
use Rattle.cell_places.specs.declared.answer.Guess.{Guess}
use Rattle.cell_places.specs.declared.kind.CellKind.{CellKind}
use Rattle.cell_places.specs.declared.kind.CellKind.TheVariants as k
use Rattle.cell_places.specs.Lists.{Every, Among, Distinct}
use Rattle.cell_places.specs.Kinds.{is_scope, is_function, is_object, is_child}
use Rattle.cell_places.specs.Heap.{Heap, place, kind_in, kind_at, weight_left, names_in, number_in, next_heard, children_at}
use Rattle.cell_places.specs.Valid.{IsValid}
use Rattle.cell_places.specs.Known.{native_count}
use Rattle.cell_places.specs.Start.{page_cell, start_kinds}

-- A function of the page has a code and a scope, a scope lies in none or in a scope, and a built-in is one of those
-- that there are.
abbrev pub KindIsSound : (codes : ℕ) → List CellKind → CellKind → Type 0
KindIsSound codes kinds (k.Fun code scope) = (code < codes) × (is_scope (kind_in kinds scope) ≡ true)
KindIsSound codes kinds (k.Scope (Some outer)) = is_scope (kind_in kinds outer) ≡ true
KindIsSound codes kinds (k.Native which) = which < native_count
KindIsSound codes kinds _ = Unit {0}

abbrev pub IsCalled : List CellKind → CellName → Type 0
IsCalled kinds n = is_function (kind_in kinds n) ≡ true

abbrev pub IsCalledIfAny : List CellKind → Option CellName → Type 0
IsCalledIfAny kinds None = Unit {0}
IsCalledIfAny kinds (Some n) = IsCalled kinds n

-- No value is the cell of a scope or of the page; callbacks, mutators and sketches are functions; serials are distinct
-- and below the next one.
abbrev pub AnswerIsSound : List CellKind → Answer → Type 0
AnswerIsSound kinds (a.One (v.Cell n)) = is_object (kind_in kinds n) ≡ true
AnswerIsSound kinds (a.Heard next ls) =
    Every (λ (l : Listener). IsCalled kinds l.callback × (l.serial < next)) ls × Distinct (map (λ (l : Listener). l.serial) ls)
AnswerIsSound kinds (a.Timers ts) =
    Every (λ (t : Timer). IsCalled kinds t.callback) ts × Distinct (map (λ (t : Timer). t.id) ts)
AnswerIsSound kinds (a.Guesses gs) =
    Every (λ (g : Guess). IsCalledIfAny kinds g.mutator × IsCalledIfAny kinds g.sketch) gs × Distinct (map (λ (g : Guess). g.id) gs)
AnswerIsSound kinds _ = Unit {0}

-- each id is below this number
abbrev pub IdsBelow : ℤ → Answer → Type 0
IdsBelow next (a.Timers ts) = Every (λ (t : Timer). t.id <ℤ next) ts
IdsBelow next (a.Guesses gs) = Every (λ (g : Guess). g.id <ℤ next) gs
IdsBelow next _ = Unit {0}

-- The names of an element's attributes are just those whose attribute is there, each once.
pub record AttributesAreListed (H : Heap) (n : CellName) : Type 0 where
  pub once : Distinct (names_in (H.at (place n s.AttrNames)))
  pub there : (name : List ℕ) → Among name (names_in (H.at (place n s.AttrNames))) → H.at (place n (s.Attr name)) ≢ a.Absent
  pub all : (name : List ℕ) → H.at (place n (s.Attr name)) ≢ a.Absent → Among name (names_in (H.at (place n s.AttrNames)))

-- m is the parent of n
abbrev pub HasParent : Heap → CellName → CellName → Type 0
HasParent H n m = H.at (place n s.Parent) ≡ a.One (v.Cell m)

-- the chain of parents ends
pub data ParentsEnd (H : Heap) : CellName → Type 0 where
  top : (n : CellName) → ((m : CellName) → HasParent H n m → ⊥) → ParentsEnd H n
  up : (n m : CellName) → HasParent H n m → ParentsEnd H m → ParentsEnd H n

-- Children and parents are one relation: a child is an element or a text node, stands once among the children of its
-- parent, and every chain of parents ends.
pub record NodesAreTrees (H : Heap) : Type 0 where
  pub kinds : (n m : CellName) → Among m (children_at H n) → is_child (kind_at H m) ≡ true
  pub parents : (n m : CellName) → Among m (children_at H n) → HasParent H m n
  pub once : (n : CellName) → Distinct (children_at H n)
  pub children : (n m : CellName) → HasParent H m n → Among m (children_at H n)
  pub ends : (n : CellName) → ParentsEnd H n

-- The page's clock is there, from 0 to 2^53 - 1, and each id is below the next one of its kind.
pub record PageIsSound (H : Heap) : Type 0 where
  pub clock : (z : ℤ) × (H.at (place page_cell s.Clock) ≡ a.One (v.Num z)) × (pos 0 ≤ℤ z) × (z ≤ℤ pos greatest_number)
  pub timers : (n : CellName) → IdsBelow (number_in (H.at (place n s.NextTimer))) (H.at (place n s.Timers))
  pub guesses : (n : CellName) → IdsBelow (number_in (H.at (place n s.NextGuess))) (H.at (place n s.Guesses))

-- The count, each number of listeners and the next ids stay within a bound when this weight is added.
pub record SumsWith (weight bound : ℕ) (H : Heap) : Type 0 where
  pub count : length H.kinds + weight ≤ bound
  pub heard : (n : CellName) → next_heard (H.at (place n s.Heard)) + weight ≤ bound
  pub timers : (n : CellName) → (number_in (H.at (place n s.NextTimer)) +ℤ pos weight) ≤ℤ pos bound
  pub guesses : (n : CellName) → (number_in (H.at (place n s.NextGuess)) +ℤ pos weight) ≤ℤ pos bound

-- and when the weight that is left is added
abbrev pub SumsWithin : (bound : ℕ) → Heap → Type 0
SumsWithin bound H = SumsWith (weight_left H) bound H

abbrev pub LengthFits : Answer → Type 0
LengthFits x = (pos 0 ≤ℤ number_in x) × (number_in x ≤ℤ pos 65536)

pub record IsSound (codes : ℕ) (H : Heap) : Type 0 where
  pub valid : IsValid H
  pub start : take 128 H.kinds ≡ start_kinds
  pub kinds : (n : ℕ) (k : CellKind) → slice_get H.kinds n ≡ Some k → KindIsSound codes H.kinds k
  pub answers : (p : Place) → AnswerIsSound H.kinds (H.at p)
  pub lengths : (n : CellName) → LengthFits (H.at (place n s.Length))
  pub attributes : (n : CellName) → AttributesAreListed H n
  pub nodes : NodesAreTrees H
  pub page : PageIsSound H
  pub sums : SumsWithin 3999999999 H
