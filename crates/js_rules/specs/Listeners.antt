-- Listeners of events, and the flags of an event (WHATWG DOM, 2.2 and 2.7; that a listener is a function, and which
-- options it may have, are this project's own).
use Rattle.std.specs.Prelude.{ℕ, ◌+◌, ◌==◌, nat_abs, bit_and, bit_or, pos, Bool, true, false, not, ◌&&◌, List, [], ◌∷◌, ◌++◌, filter, codes, if◌then◌else◌}
use Rattle.std.specs.List.{list_any}
use Rattle.std.specs.Str.{bytes_eq}
use Rattle.page_units.specs.declared.value.CellName.{CellName}
use Rattle.page_units.specs.declared.value.Value.{Value}
use Rattle.page_units.specs.declared.value.Value.TheVariants as v
use Rattle.cell_places.specs.declared.place.Slot.TheVariants as s
use Rattle.cell_places.specs.declared.answer.Answer.{Answer}
use Rattle.cell_places.specs.declared.answer.Answer.TheVariants as a
use Rattle.cell_places.specs.declared.answer.Listener.{Listener}
use Rattle.cell_places.specs.Heap.{place, number_in, next_heard}
use Rattle.js_ops.specs.Conversions.{truth}
use Rattle.js_rules.specs.Arguments.{arg, text_in as text_units}
use Rattle.js_rules.specs.Nodes.{is_cell}
use Rattle.js_rules.specs.NodeFunctions.{on_cell}
use Rattle.js_rules.specs.ListItems.{undefined}
use Rattle.js_rules.specs.Tasks.{Nothing, Both, Outcomes, GetValue, PutProperty, NeedFunction, Third, Listen, Unlisten}
use Rattle.js_rules.specs.Prog.{Prog, Ret, ◌>>=◌, ◌>>◌, ask, put, charge, part, done, number}
use Rattle.cell_places.specs.Heap.{listeners_in}

-- ---- listeners (2.7)

-- the same type, callback and capture
abbrev pub listens_alike : List ℕ → CellName → Bool → Listener → Bool
listens_alike type f capture l =
    bytes_eq type l.type_text && is_cell f l.callback
    && (if capture then l.capture else not l.capture)

abbrev pub new_listener : ℕ → List ℕ → CellName → Bool × Bool → Listener
new_listener serial type f options =
    record {
      serial = serial;
      type_text = type;
      callback = f;
      capture = options.0;
      once = options.1;
    }

abbrev pub put_listeners : CellName → ℕ → List Listener → Prog Nothing
put_listeners c next ls = put (place c s.Heard) (a.Heard next ls)

-- add an event listener: one like it changes nothing
abbrev pub listen : CellName → List ℕ → CellName → Bool × Bool → Prog Nothing
listen c type f options = do
  heard ← ask (place c s.Heard)
  if list_any (listens_alike type f options.0) (listeners_in heard) then done else (do
    charge 1
    put_listeners c (next_heard heard + 1)
        (listeners_in heard ++ new_listener (next_heard heard) type f options ∷ []))

-- remove an event listener
abbrev pub unlisten : CellName → List ℕ → CellName → Bool → Prog Nothing
unlisten c type f capture = do
  heard ← ask (place c s.Heard)
  if list_any (listens_alike type f capture) (listeners_in heard)
      then put_listeners c (next_heard heard)
      (filter (λ l. not (listens_alike type f capture l)) (listeners_in heard))
      else done

-- the third argument: whether it listens as capture, and once
abbrev pub third : Value → Prog Both
third (v.Cell c) = do
  capture ← part (GetValue (v.Cell c) (codes "capture"))
  once ← part (GetValue (v.Cell c) (codes "once"))
  Ret (truth capture, truth once)
third x = Ret (truth x, false)

abbrev pub only_third : Value → Prog Outcomes
only_third x = do
  part (Third x)
  undefined

-- the callback is tested before the third argument is read; without one no list is asked
abbrev pub listener_call : Value → Value → (CellName → Bool × Bool → Prog Nothing) → Prog Outcomes
listener_call v.Undefined x m = only_third x
listener_call v.Null x m = only_third x
listener_call f x m = do
  part (NeedFunction f)
  options ← part (Third x)
  on_cell f λ g. m g options >> undefined

abbrev pub add_event_listener : Value → List Value → Prog Outcomes
add_event_listener this args = on_cell this λ c.
    listener_call (arg 1 args) (arg 2 args) λ f options.
    part (Listen c (text_units (arg 0 args)) f options)

abbrev pub remove_event_listener : Value → List Value → Prog Outcomes
remove_event_listener this args = on_cell this λ c.
    listener_call (arg 1 args) (arg 2 args) λ f options.
    part (Unlisten c (text_units (arg 0 args)) f options.0)

-- ---- flags of an event (2.2)

abbrev pub stop_flag : ℕ
stop_flag = 1

abbrev pub stop_now_flag : ℕ
stop_now_flag = 2

abbrev pub canceled_flag : ℕ
canceled_flag = 4

abbrev pub flags_in : Answer → ℕ
flags_in x = nat_abs (number_in x)

abbrev pub has_flag : ℕ → Answer → Bool
has_flag flag x = bit_and (flags_in x) flag == flag

abbrev pub set_flags : ℕ → CellName → Prog Nothing
set_flags flags e = do
  old ← ask (place e s.Flags)
  put (place e s.Flags) (a.One (number (pos (bit_or (flags_in old) flags))))

abbrev pub cancel_if : CellName → Bool → Prog Outcomes
cancel_if e false = undefined
cancel_if e true = do
  set_flags canceled_flag e
  part (PutProperty e (codes "defaultPrevented") (v.Bool true))
  undefined

-- preventDefault (2.2)
abbrev pub prevent_default : Value → Prog Outcomes
prevent_default this = on_cell this λ e. do
  cancelable ← part (GetValue (v.Cell e) (codes "cancelable"))
  cancel_if e (truth cancelable)

abbrev pub stop_propagation : Value → Prog Outcomes
stop_propagation this = on_cell this λ e. set_flags stop_flag e >> undefined

abbrev pub stop_immediate_propagation : Value → Prog Outcomes
stop_immediate_propagation this =
    on_cell this λ e. set_flags (stop_flag + stop_now_flag) e >> undefined
