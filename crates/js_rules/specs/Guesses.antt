-- The page's guesses of events to come, and its clock (this project's own): the functions of `crom`.
use Rattle.std.specs.Prelude.{ℤ, ℕ, nat_lt, ℤ, pos, ◌+ℤ◌, true, false, not, ◌&&◌, List, [], ◌∷◌, ◌++◌, filter, length, Option, Some, None, codes, if◌then◌else◌}
use Rattle.std.specs.List.{list_any}
use Rattle.page_units.specs.declared.value.CellName.{CellName}
use Rattle.page_units.specs.declared.value.Value.{Value}
use Rattle.page_units.specs.declared.value.Value.TheVariants as v
use Rattle.cell_places.specs.declared.place.Slot.TheVariants as s
use Rattle.cell_places.specs.declared.answer.Answer.TheVariants as a
use Rattle.cell_places.specs.declared.answer.Guess.{Guess}
use Rattle.cell_places.specs.declared.kind.FaultName.TheVariants as fault
use Rattle.cell_places.specs.Kinds.{is_function}
use Rattle.cell_places.specs.Heap.{place, number_in}
use Rattle.cell_places.specs.Known.{page_cell}
use Rattle.js_rules.specs.Fixed.{Fixed}
use Rattle.js_rules.specs.Arguments.{arg}
use Rattle.js_rules.specs.ListItems.{answers, undefined}
use Rattle.js_rules.specs.Tasks.{Truths, Outcomes, SmallNumber, IsCallable}
use Rattle.js_rules.specs.Prog.{Prog, Ret, ◌>>=◌, ◌>>◌, ask, look, put, charge, part, raise, bad_argument, number}
use Rattle.cell_places.specs.Heap.{guesses_in}
use Rattle.js_ops.specs.Operators.{int_eq}

-- ---- guesses

-- a function, or undefined or null for none
abbrev pub is_callable : Value → Prog Truths
is_callable (v.Cell f) = do
  kind ← look f
  Ret (is_function kind)
is_callable v.Undefined = Ret true
is_callable v.Null = Ret true
is_callable _ = Ret false

abbrev pub cell_of : Value → Option CellName
cell_of (v.Cell c) = Some c
cell_of _ = None

abbrev pub new_guess : ℤ → List ℕ → List ℕ → Option (List ℕ) → Value → Value → Guess
new_guess id target type value mutator sketch = record {
  id = id;
  target = target;
  type_text = type;
  value = value;
  mutator = cell_of mutator;
  sketch = cell_of sketch;
}

-- a guess is added after the others, and its id is given
abbrev pub add_guess : Fixed → List ℕ → List ℕ → Option (List ℕ) → Value → Value → Prog Outcomes
add_guess fixed target type value mutator sketch = do
  gs ← ask (place page_cell s.Guesses)
  if nat_lt (length (guesses_in gs)) fixed.guesses then (do
    n ← ask (place page_cell s.NextGuess)
    charge 1
    put (place page_cell s.Guesses)
        (a.Guesses (guesses_in gs ++ new_guess (number_in n) target type value mutator sketch ∷ []))
    put (place page_cell s.NextGuess) (a.One (number (number_in n +ℤ pos 1)))
    answers (number (number_in n))) else raise fault.RangeError (codes "guesses")

abbrev pub with_functions : Fixed → List ℕ → List ℕ → Option (List ℕ) → Value → Value →
    Prog Outcomes
with_functions fixed target type value mutator sketch = do
  first ← part (IsCallable mutator)
  second ← part (IsCallable sketch)
  if first && second then add_guess fixed target type value mutator sketch else bad_argument

abbrev pub with_text : Fixed → List ℕ → List ℕ → Value → Value → Value → Prog Outcomes
with_text fixed target type (v.Str t) mutator sketch =
    with_functions fixed target type (Some t) mutator sketch
with_text fixed target type v.Undefined mutator sketch =
    with_functions fixed target type None mutator sketch
with_text fixed target type v.Null mutator sketch =
    with_functions fixed target type None mutator sketch
with_text fixed target type _ mutator sketch = bad_argument

-- crom.guess: two texts, of which the second isn't empty
abbrev pub guess : Fixed → Value → Value → Value → Value → Value → Prog Outcomes
guess fixed (v.Str target) (v.Str (c ∷ cs)) value mutator sketch =
    with_text fixed target (c ∷ cs) value mutator sketch
guess fixed _ _ value mutator sketch = bad_argument

abbrev pub without_id : ℤ → List Guess → List Guess
without_id id gs = filter (λ (g : Guess). not (int_eq g.id id)) gs

abbrev pub drop_guess : ℤ → List Guess → Prog Outcomes
drop_guess id gs = if list_any (λ (g : Guess). int_eq g.id id) gs
    then (put (place page_cell s.Guesses) (a.Guesses (without_id id gs)) >> undefined)
    else undefined

-- crom.forget
abbrev pub forget : List Value → Prog Outcomes
forget args = do
  id ← part (SmallNumber (arg 0 args))
  gs ← ask (place page_cell s.Guesses)
  drop_guess id (guesses_in gs)

-- crom.clock
abbrev pub clock : Prog Outcomes
clock = do
  n ← ask (place page_cell s.Clock)
  answers (number (number_in n))
