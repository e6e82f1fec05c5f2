-- Which acts are allowed, and which heaps are valid (this project's own).
use Rattle.std.specs.Prelude.{◌≡◌, ◌<◌, ◌≤◌, ℕ, true, length, Some, slice_get, List}
use Rattle.page_units.specs.Numbers.{IsNumber}
use Rattle.page_units.specs.declared.value.Value.{Value}
use Rattle.page_units.specs.declared.value.Value.TheVariants as v
use Rattle.cell_places.specs.declared.place.Place.{Place}
use Rattle.cell_places.specs.declared.answer.Answer.{Answer}
use Rattle.cell_places.specs.declared.answer.Answer.TheVariants as a
use Rattle.cell_places.specs.declared.answer.Timer.{Timer}
use Rattle.cell_places.specs.declared.answer.Guess.{Guess}
use Rattle.cell_places.specs.declared.kind.CellKind.{CellKind}
use Rattle.cell_places.specs.Lists.{Every}
use Rattle.cell_places.specs.Slots.{has_slot, sort_of, suits}
use Rattle.cell_places.specs.Heap.{Heap}
use Rattle.cell_places.specs.Within.{AnswerIn, KindIn, is_below}

abbrev pub ValueNumbers : Value → Type 0
ValueNumbers (v.Num n) = IsNumber n
ValueNumbers _ = Unit {0}

-- each number of the answer is one of a script
abbrev pub AnswerNumbers : Answer → Type 0
AnswerNumbers (a.One x) = ValueNumbers x
AnswerNumbers (a.Timers ts) = Every (λ (t : Timer). IsNumber t.id × IsNumber t.due) ts
AnswerNumbers (a.Guesses gs) = Every (λ (g : Guess). IsNumber g.id) gs
AnswerNumbers _ = Unit {0}

-- the cell is there, and its kind has the slot
abbrev pub CanAskIn : List CellKind → Place → Type 0
CanAskIn kinds p = (k : CellKind) × (slice_get kinds p.cell.0 ≡ Some k) × (has_slot k p.slot ≡ true)

abbrev pub CanAsk : Heap → Place → Type 0
CanAsk H p = CanAskIn H.kinds p

-- besides, the answer suits the slot, names cells that are there, and its numbers are a script's
pub record CanPutIn (kinds : List CellKind) (p : Place) (x : Answer) : Type 0 where
  pub there : CanAskIn kinds p
  pub suits : suits (sort_of p.slot) x ≡ true
  pub names : AnswerIn (is_below (length kinds)) x
  pub numbers : AnswerNumbers x

abbrev pub CanPut : Heap → Place → Answer → Type 0
CanPut H p x = CanPutIn H.kinds p x

-- there is room, and the kind names cells that are there
pub record CanMake (H : Heap) (k : CellKind) : Type 0 where
  pub room : length H.kinds < 4000000000
  pub names : KindIn (is_below (length H.kinds)) k

-- Nothing stands at the place, or what could be put there.
abbrev pub Stands : List CellKind → Place → Answer → Type 0
Stands kinds p a.Absent = Unit {0}
Stands kinds p (a.One x) = CanPutIn kinds p (a.One x)
Stands kinds p (a.Names ns) = CanPutIn kinds p (a.Names ns)
Stands kinds p (a.Cells cs) = CanPutIn kinds p (a.Cells cs)
Stands kinds p (a.Heard next ls) = CanPutIn kinds p (a.Heard next ls)
Stands kinds p (a.Timers ts) = CanPutIn kinds p (a.Timers ts)
Stands kinds p (a.Guesses gs) = CanPutIn kinds p (a.Guesses gs)

-- nothing stands at a cell that isn't there
abbrev pub IsBare : Heap → Type 0
IsBare H = (p : Place) → length H.kinds ≤ p.cell.0 → H.at p ≡ a.Absent

pub record IsValid (H : Heap) : Type 0 where
  pub places : (p : Place) → Stands H.kinds p (H.at p)
  -- a kind names cells below its own
  pub kinds : (n : ℕ) (k : CellKind) → slice_get H.kinds n ≡ Some k → KindIn (is_below n) k
  pub count : length H.kinds ≤ 4000000000
  pub spent : H.spent ≤ H.limit
