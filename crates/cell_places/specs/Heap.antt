-- A heap as one map from places to answers.
use Rattle.std.specs.Prelude.{ℕ, ℤ, pos, ◌-◌, List, [], length, Bool, true, false, cond, Option, Some, None, slice_get}
use Rattle.std.specs.Str.{bytes_eq}
use Rattle.std.specs.Ordering.{eq_by_cmp}
use Rattle.page_units.specs.declared.value.CellName.{CellName}
use Rattle.page_units.specs.declared.value.Value.TheVariants as v
use Rattle.cell_places.specs.declared.place.Slot.{Slot}
use Rattle.cell_places.specs.declared.place.Slot.TheVariants as s
use Rattle.cell_places.specs.declared.place.Place.{Place}
use Rattle.cell_places.specs.declared.answer.Answer.{Answer}
use Rattle.cell_places.specs.declared.answer.Answer.TheVariants as a
use Rattle.cell_places.specs.declared.answer.Listener.{Listener}
use Rattle.cell_places.specs.declared.answer.Timer.{Timer}
use Rattle.cell_places.specs.declared.answer.Guess.{Guess}
use Rattle.cell_places.specs.declared.kind.CellKind.{CellKind}
use Rattle.cell_places.specs.declared.kind.CellKind.TheVariants.{Plain}
use Rattle.cell_places.specs.Places.{place_cmp}

-- A place that was never put is Absent. The count of cells is the length of `kinds`.
pub record Heap : Type 0 where
  pub at : Place → Answer
  pub kinds : List CellKind
  pub spent : ℕ
  pub limit : ℕ

-- the weight that is left
abbrev pub weight_left : Heap → ℕ
weight_left H = H.limit - H.spent

-- the cell of a number
abbrev pub cell : ℕ → CellName
cell n = record { 0 = n }

abbrev pub place : CellName → Slot → Place
place n slot = record { cell = n; slot = slot }

abbrev pub same_place : Place → Place → Bool
same_place p q = eq_by_cmp place_cmp p q

-- f, but x at p
abbrev pub put_at : (Place → Answer) → Place → Answer → Place → Answer
put_at f p x q = cond (same_place p q) x (f q)

-- the kind of a cell; a cell that isn't there counts as Plain
abbrev pub or_plain : Option CellKind → CellKind
or_plain None = Plain
or_plain (Some k) = k

abbrev pub kind_in : List CellKind → CellName → CellKind
kind_in kinds n = or_plain (slice_get kinds n.0)

abbrev pub kind_at : Heap → CellName → CellKind
kind_at H n = kind_in H.kinds n

-- the name that the next cell gets
abbrev pub next : Heap → CellName
next H = cell (length H.kinds)

-- ---- what an answer holds; a list that was never put is empty, and a number that was never put is 0

abbrev pub names_in : Answer → List (List ℕ)
names_in (a.Names ns) = ns
names_in _ = []

abbrev pub cells_in : Answer → List CellName
cells_in (a.Cells cs) = cs
cells_in _ = []

abbrev pub text_in : Answer → List ℕ
text_in (a.One (v.Str t)) = t
text_in _ = []

abbrev pub number_in : Answer → ℤ
number_in (a.One (v.Num n)) = n
number_in _ = pos 0

abbrev pub next_heard : Answer → ℕ
next_heard (a.Heard next ls) = next
next_heard _ = 0

abbrev pub listeners_in : Answer → List Listener
listeners_in (a.Heard next ls) = ls
listeners_in _ = []

abbrev pub timers_in : Answer → List Timer
timers_in (a.Timers ts) = ts
timers_in _ = []

abbrev pub guesses_in : Answer → List Guess
guesses_in (a.Guesses gs) = gs
guesses_in _ = []

-- the cell, where the answer is one
abbrev pub cell_in : Answer → Option CellName
cell_in (a.One (v.Cell n)) = Some n
cell_in _ = None

abbrev pub is_absent : Answer → Bool
is_absent a.Absent = true
is_absent _ = false

-- the answer is this text
abbrev pub is_text : List ℕ → Answer → Bool
is_text units (a.One (v.Str t)) = bytes_eq t units
is_text units _ = false

-- the children of a node
abbrev pub children_at : Heap → CellName → List CellName
children_at H n = cells_in (H.at (place n s.Children))
