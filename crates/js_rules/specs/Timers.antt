-- Timers of the page, which fire as the host says (this project's own).
use Rattle.std.specs.Prelude.{ℤ, pos, ◌+ℤ◌, int_lt, int_le, Bool, not, ◌&&◌, ◌||◌, List, [], ◌∷◌, ◌++◌, filter, Option, Some, None, if◌then◌else◌}
use Rattle.std.specs.List.{list_any}
use Rattle.page_units.specs.declared.value.CellName.{CellName}
use Rattle.page_units.specs.declared.value.Value.{Value}
use Rattle.page_units.specs.declared.value.Value.TheVariants as v
use Rattle.cell_places.specs.declared.place.Slot.TheVariants as s
use Rattle.cell_places.specs.declared.answer.Answer.TheVariants as a
use Rattle.cell_places.specs.declared.answer.Timer.{Timer}
use Rattle.cell_places.specs.Heap.{place, number_in}
use Rattle.cell_places.specs.Known.{page_cell}
use Rattle.js_rules.specs.Arguments.{arg, number_in as number_of}
use Rattle.js_rules.specs.ListItems.{answers, undefined}
use Rattle.js_rules.specs.NodeFunctions.{on_cell}
use Rattle.js_rules.specs.Tasks.{Nothing, Numbers, Timers, Outcomes, NumberOf, NeedFunction, SmallNumber, AddTimer, DropTimer}
use Rattle.js_rules.specs.Prog.{Prog, Ret, ◌>>=◌, ◌>>◌, ask, put, charge, part, done, no_whole_number, number}
use Rattle.cell_places.specs.Heap.{timers_in}
use Rattle.js_ops.specs.Operators.{int_eq}
use Rattle.page_units.specs.Numbers.{greatest_number}

-- ---- numbers of these calls

-- undefined is 0; anything else that has no number throws
abbrev pub small_number : Value → Prog Numbers
small_number v.Undefined = Ret (pos 0)
small_number x = do
  n ← part (NumberOf x)
  Ret (number_of n)

-- ---- timers

abbrev pub not_negative : ℤ → ℤ
not_negative z = if int_lt z (pos 0) then pos 0 else z

abbrev pub new_timer : ℤ → ℤ → CellName → Timer
new_timer id due callback = record { id = id; due = due; callback = callback }

abbrev pub add_due : CellName → ℤ → Prog Numbers
add_due callback due = if int_lt (pos greatest_number) due then no_whole_number else (do
  n ← ask (place page_cell s.NextTimer)
  waiting ← ask (place page_cell s.Timers)
  charge 1
  put (place page_cell s.NextTimer) (a.One (number (number_in n +ℤ pos 1)))
  put (place page_cell s.Timers)
      (a.Timers (timers_in waiting ++ new_timer (number_in n) due callback ∷ []))
  Ret (number_in n))

-- a timer is due so many milliseconds after the clock; its id is given
abbrev pub add_timer : CellName → ℤ → Prog Numbers
add_timer callback ms = do
  clock ← ask (place page_cell s.Clock)
  add_due callback (number_in clock +ℤ not_negative ms)

abbrev pub without_id : ℤ → List Timer → List Timer
without_id id ts = filter (λ (t : Timer). not (int_eq t.id id)) ts

-- the timer of an id goes, if it waits
abbrev pub drop_timer : ℤ → Prog Nothing
drop_timer id = do
  waiting ← ask (place page_cell s.Timers)
  if list_any (λ (t : Timer). int_eq t.id id) (timers_in waiting)
      then put (place page_cell s.Timers) (a.Timers (without_id id (timers_in waiting)))
      else done

-- by due moment, then by id
abbrev pub is_sooner : Timer → Timer → Bool
is_sooner t u = int_lt t.due u.due || (int_le t.due u.due && int_lt t.id u.id)

abbrev pub sooner : Timer → Option Timer → Option Timer
sooner t None = Some t
sooner t (Some u) = Some (if is_sooner t u then t else u)

abbrev pub least_due : ℤ → List Timer → Option Timer
least_due until [] = None
least_due until (t ∷ ts) =
    if int_le t.due until then sooner t (least_due until ts) else least_due until ts

abbrev pub take_due : List Timer → Option Timer → Prog Timers
take_due ts None = Ret None
take_due ts (Some t) = do
  put (place page_cell s.Timers) (a.Timers (without_id t.id ts))
  Ret (Some t)

-- the soonest timer that is due is taken out
abbrev pub next_due : ℤ → Prog Timers
next_due until = do
  waiting ← ask (place page_cell s.Timers)
  take_due (timers_in waiting) (least_due until (timers_in waiting))

-- setTimeout
abbrev pub set_timeout : List Value → Prog Outcomes
set_timeout args = do
  part (NeedFunction (arg 0 args))
  ms ← part (SmallNumber (arg 1 args))
  on_cell (arg 0 args) λ f. part (AddTimer f ms) >>= λ id. answers (number id)

-- clearTimeout
abbrev pub clear_timeout : List Value → Prog Outcomes
clear_timeout args = do
  id ← part (SmallNumber (arg 0 args))
  part (DropTimer id)
  undefined
