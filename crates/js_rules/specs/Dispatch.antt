-- The dispatch of an event (WHATWG DOM, 2.9; which types neither bubble nor can be canceled, what a page sees of the
-- event, and the order of the acts are this project's own).
use Rattle.std.specs.Prelude.{ℕ, ◌==◌, pos, Bool, true, false, not, ◌&&◌, ◌||◌, List, [], ◌∷◌, ◌++◌, map, filter, reverse, length, take, Option, Some, None, codes, if◌then◌else◌}
use Rattle.std.specs.List.{list_any}
use Rattle.std.specs.Str.{bytes_eq}
use Rattle.page_units.specs.declared.value.CellName.{CellName}
use Rattle.page_units.specs.declared.value.Value.TheVariants as v
use Rattle.page_units.specs.declared.event.PageEvent.{PageEvent}
use Rattle.cell_places.specs.declared.place.Slot.TheVariants as s
use Rattle.cell_places.specs.declared.answer.Answer.TheVariants as a
use Rattle.cell_places.specs.declared.answer.Listener.{Listener}
use Rattle.cell_places.specs.declared.kind.CellKind.TheVariants as k
use Rattle.cell_places.specs.Heap.{place, next_heard}
use Rattle.cell_places.specs.Outward.{began}
use Rattle.js_rules.specs.Fixed.{Fixed}
use Rattle.cell_places.specs.Known.{event_prototype}
use Rattle.js_rules.specs.Listeners.{put_listeners}
use Rattle.js_rules.specs.Nodes.{is_cell}
use Rattle.js_rules.specs.Tasks.{Nothing, Truths, Path, PutProperty, SetAttribute, FindElement, PathOf, WalkPath, RunListeners, ReportEnd, Call}
use Rattle.js_rules.specs.Prog.{Prog, Ret, ◌>>=◌, ◌>>◌, ask, put, make, charge, tick, write, part, ends, done, own, text, number}
use Rattle.js_rules.specs.Listeners.{stop_flag, stop_now_flag, has_flag}
use Rattle.cell_places.specs.Heap.{cell_in}
use Rattle.cell_places.specs.Heap.{listeners_in}

-- ---- dispatch (2.9)

-- the path of an event: from a node outwards to its root
abbrev pub path_above : CellName → Option CellName → Prog Path
path_above c None = Ret (c ∷ [])
path_above c (Some p) = do
  more ← part (PathOf p)
  Ret (c ∷ more)

abbrev pub path_of : CellName → Prog Path
path_of c = do
  p ← ask (place c s.Parent)
  path_above c (cell_in p)

-- The objects at which listeners run, and whether those of capture: from the root to the target for capture,
-- then from the target outwards for the others, beyond the target only if the event bubbles.
abbrev pub stops : Bool → List CellName → List (CellName × Bool)
stops bubbles path =
    map (λ c. (c, true)) (reverse path)
    ++ map (λ c. (c, false)) (if bubbles then path else take 1 path)

-- eventPhase: 1 for capture, 2 at the target, 3 as it bubbles
abbrev pub phase : CellName → CellName → Bool → ℕ
phase target c capture = if is_cell target c then 2 else if capture then 1 else 3

-- ---- the listeners of an object (2.9, inner invoke)

abbrev pub has_serial : ℕ → List Listener → Bool
has_serial n ls = list_any (λ (l : Listener). l.serial == n) ls

-- the others
abbrev pub without_serial : ℕ → List Listener → List Listener
without_serial n ls = filter (λ (l : Listener). not (l.serial == n)) ls

-- one call; stopImmediatePropagation ends the list after it
abbrev pub call_listener : CellName → CellName → List ℕ → Bool → List Listener → Listener →
    Prog Nothing
call_listener e c type capture more l =
    ends (Call (v.Cell l.callback) (v.Cell c) (v.Cell e ∷ [])) λ r. do
      part (ReportEnd true r)
      flags ← ask (place e s.Flags)
      if has_flag stop_now_flag flags then done else part (RunListeners e c type capture more)

-- a listener that was removed meanwhile is skipped; one that listens once is removed before its call
abbrev pub run_if_there : CellName → CellName → List ℕ → Bool → List Listener → Listener →
    Prog Nothing
run_if_there e c type capture more l = do
  heard ← ask (place c s.Heard)
  if not (has_serial l.serial (listeners_in heard)) then part (RunListeners e c type capture more)
      else if l.once then (put_listeners c (next_heard heard) (without_serial l.serial (listeners_in heard))
      >> call_listener e c type capture more l)
      else call_listener e c type capture more l

-- it listens to this type, and as capture or not
abbrev pub fits : List ℕ → Bool → Listener → Bool
fits type capture l = bytes_eq type l.type_text && (if capture then l.capture else not l.capture)

-- the listeners that the object had as the event came to it, in order
abbrev pub run_listeners : CellName → CellName → List ℕ → Bool → List Listener → Prog Nothing
run_listeners e c type capture [] = done
run_listeners e c type capture (l ∷ more) =
    if fits type capture l then run_if_there e c type capture more l
    else part (RunListeners e c type capture more)

-- ---- the walk (2.9)

-- each object of the walk; where stop is set, nothing runs at it
abbrev pub walk_path : CellName → CellName → List ℕ → List (CellName × Bool) → Prog Nothing
walk_path e target type [] = done
walk_path e target type (stop ∷ more) = do
  flags ← ask (place e s.Flags)
  if has_flag stop_flag flags then part (WalkPath e target type more) else (do
    part (PutProperty e (codes "eventPhase") (number (pos (phase target stop.0 stop.1))))
    part (PutProperty e (codes "currentTarget") (v.Cell stop.0))
    heard ← ask (place stop.0 s.Heard)
    part (RunListeners e stop.0 type stop.1 (listeners_in heard))
    part (WalkPath e target type more))

-- an event of this type bubbles and can be canceled
abbrev pub acts_freely : List ℕ → Bool
acts_freely type =
    not (bytes_eq type (codes "focus")
    || bytes_eq type (codes "blur") || bytes_eq type (codes "load"))

-- the event is made, its path is fixed, and the walk begins
abbrev pub dispatch_to : List ℕ → CellName → Prog Truths
dispatch_to type target = do
  charge 8
  e ← make k.Event
  put (place e s.Proto) (a.One (v.Cell event_prototype))
  put (own e (codes "type")) (a.One (text type))
  put (own e (codes "target")) (a.One (v.Cell target))
  put (own e (codes "currentTarget")) (a.One v.Null)
  put (own e (codes "eventPhase")) (a.One (number (pos 0)))
  put (own e (codes "bubbles")) (a.One (v.Bool (acts_freely type)))
  put (own e (codes "cancelable")) (a.One (v.Bool (acts_freely type)))
  put (own e (codes "defaultPrevented")) (a.One (v.Bool false))
  path ← part (PathOf target)
  tick (length path)
  part (WalkPath e target type (stops (acts_freely type) path))
  part (PutProperty e (codes "eventPhase") (number (pos 0)))
  part (PutProperty e (codes "currentTarget") v.Null)
  Ret true

-- the event's value becomes the attribute `value` of the target
abbrev pub with_value : List ℕ → CellName → Option (List ℕ) → Prog Truths
with_value type target None = dispatch_to type target
with_value type target (Some t) = do
  part (SetAttribute target (codes "value") t)
  dispatch_to type target

-- where there is no target, no task begins
abbrev pub dispatch_found : Fixed → PageEvent → Option CellName → Prog Truths
dispatch_found fixed event None = Ret false
dispatch_found fixed event (Some target) = do
  write (began fixed.task_steps)
  with_value event.type_text target event.value

-- an event of the user; it gives whether there was a target
abbrev pub dispatch : Fixed → PageEvent → Prog Truths
dispatch fixed event = do
  r ← part (FindElement event.target)
  dispatch_found fixed event r.node
