-- How a rule is written (this project's own): acts, each with what is done with its answer, and parts, which
-- are tasks with rules of their own. Such a text speaks of no heap: it knows only what its acts carry.
use Rattle.std.specs.Prelude.{Bool, true, false, nat_lt, if◌then◌else◌, ℕ, ◌+◌, ◌/◌, ℤ, List, length, Result, codes}
use Rattle.page_units.specs.Texts.{longest_text}
use Rattle.page_units.specs.declared.value.CellName.{CellName}
use Rattle.page_units.specs.declared.value.Value.{Value}
use Rattle.page_units.specs.declared.value.Value.TheVariants as v
use Rattle.cell_places.specs.declared.place.Place.{Place}
use Rattle.cell_places.specs.declared.place.Slot.TheVariants as s
use Rattle.cell_places.specs.declared.answer.Answer.{Answer}
use Rattle.cell_places.specs.declared.kind.CellKind.{CellKind}
use Rattle.cell_places.specs.declared.kind.FaultName.{FaultName}
use Rattle.cell_places.specs.declared.kind.FaultName.TheVariants as fault
use Rattle.cell_places.specs.Heap.{place}
use Rattle.cell_places.specs.Outward.{Outward}
use Rattle.js_rules.specs.Tasks.{Kind, Of, Nothing, Values, Answers, CellKinds, CellNames, Task, NewFault}
use Rattle.cell_places.specs.declared.answer.Answer.TheVariants as a

-- `Ret` ends with a result and `Throw` with a throw. `Ask`, `Look`, `Put`, `Make`, `Charge`, `Tick` and `Write`
-- are one act each; `Enter` goes one level deeper for all that follows. `Do` evaluates a part, and a throw of
-- it ends the whole text; `Catch` goes on after a throw too.
pub data Prog (K : Kind) : Type 0 where
  Ret : Of K → Prog K
  Throw : Value → Prog K
  Ask : Place → (Answer → Prog K) → Prog K
  Look : CellName → (CellKind → Prog K) → Prog K
  Put : Place → Answer → Prog K → Prog K
  Make : CellKind → (CellName → Prog K) → Prog K
  Charge : ℕ → Prog K → Prog K
  Tick : ℕ → Prog K → Prog K
  Enter : Prog K → Prog K
  Write : Outward → Prog K → Prog K
  Do : {J : Kind} → Task J → (Of J → Prog K) → Prog K
  Catch : {J : Kind} → Task J → (Result (Of J) Value → Prog K) → Prog K

-- A text, and then another with its result. The first may not be stuck: where a rule branches on what isn't
-- matched yet, the branch is the last statement, or a part.
infixl 10 ◌>>=◌
abbrev pub ◌>>=◌ : {J K : Kind} → Prog J → (Of J → Prog K) → Prog K
(Ret x) >>= f = f x
(Throw x) >>= f = Throw x
(Ask p m) >>= f = Ask p (λ a. m a >>= f)
(Look c m) >>= f = Look c (λ k. m k >>= f)
(Put p a m) >>= f = Put p a (m >>= f)
(Make k m) >>= f = Make k (λ n. m n >>= f)
(Charge w m) >>= f = Charge w (m >>= f)
(Tick n m) >>= f = Tick n (m >>= f)
(Enter m) >>= f = Enter (m >>= f)
(Write t m) >>= f = Write t (m >>= f)
(Do t m) >>= f = Do t (λ x. m x >>= f)
(Catch t m) >>= f = Catch t (λ x. m x >>= f)

infixl 10 ◌>>◌
abbrev pub ◌>>◌ : {J K : Kind} → Prog J → Prog K → Prog K
m >> n = m >>= (λ _. n)

-- ---- texts of one act

abbrev pub ask : Place → Prog Answers
ask p = Ask p Ret

abbrev pub look : CellName → Prog CellKinds
look c = Look c Ret

abbrev pub put : Place → Answer → Prog Nothing
put p a = Put p a (Ret tt)

abbrev pub make : CellKind → Prog CellNames
make k = Make k Ret

abbrev pub charge : ℕ → Prog Nothing
charge w = Charge w (Ret tt)

abbrev pub tick : ℕ → Prog Nothing
tick n = Tick n (Ret tt)

abbrev pub write : Outward → Prog Nothing
write t = Write t (Ret tt)

-- a part, whose throw ends the text
abbrev pub part : {J : Kind} → Task J → Prog J
part t = Do t Ret

-- a part, with what is done at its end, a throw included
abbrev pub ends : {J K : Kind} → Task J → (Result (Of J) Value → Prog K) → Prog K
ends t m = Catch t m

abbrev pub done : Prog Nothing
done = Ret tt

-- ---- faults

-- a new fault is made and thrown
abbrev pub raise : {K : Kind} → FaultName → List ℕ → Prog K
raise name message = Do (NewFault name message) Throw

abbrev pub type_error : {K : Kind} → List ℕ → Prog K
type_error message = raise fault.TypeError message

abbrev pub range_error : {K : Kind} → List ℕ → Prog K
range_error message = raise fault.RangeError message

abbrev pub not_an_object : {K : Kind} → Prog K
not_an_object = type_error (codes "not an object")

abbrev pub not_a_function : {K : Kind} → Prog K
not_a_function = type_error (codes "not a function")

abbrev pub read_only : {K : Kind} → Prog K
read_only = type_error (codes "read only")

abbrev pub bad_argument : {K : Kind} → Prog K
bad_argument = type_error (codes "bad argument")

abbrev pub too_long : {K : Kind} → Prog K
too_long = range_error (codes "too long")

-- a built-in function or property that isn't built yet
abbrev pub not_built : {K : Kind} → Prog K
not_built = type_error (codes "not built")

-- no node, or no event, where one is needed
abbrev pub bad_node : {K : Kind} → Prog K
bad_node = type_error (codes "bad node")

abbrev pub no_whole_number : {K : Kind} → Prog K
no_whole_number = range_error (codes "not whole")

-- ---- places and answers

abbrev pub own : CellName → List ℕ → Place
own c key = place c (s.Own key)

abbrev pub bind : CellName → List ℕ → Place
bind c name = place c (s.Bind name)

abbrev pub text : List ℕ → Value
text t = v.Str t

abbrev pub number : ℤ → Value
number n = v.Num n

-- something stands there
abbrev pub is_put : Answer → Bool
is_put (a.One x) = true
is_put _ = false

-- what stands there, or null
abbrev pub or_null : Answer → Value
or_null (a.One x) = x
or_null _ = v.Null

-- ---- weights and steps (this project's own)

-- how many units weigh as much as a cell, and how many take a step
abbrev pub units_a_weight : ℕ
units_a_weight = 16

-- the weight of what has this name, and of a text that is made
abbrev pub weight : List ℕ → ℕ
weight t = 1 + length t / units_a_weight

-- the steps of a text that is given to a built-in function or made by one
abbrev pub steps : List ℕ → ℕ
steps t = length t / units_a_weight

-- ---- texts that may be too long

abbrev pub is_too_long : List ℕ → Bool
is_too_long t = nat_lt longest_text (length t)

-- a text that stands somewhere is given, if it isn't too long
abbrev pub hand_on : List ℕ → Prog Values
hand_on t = if is_too_long t then too_long else Ret (text t)

-- a text is made: its steps, then its weight
abbrev pub make_text : List ℕ → Prog Values
make_text t = if is_too_long t then too_long else (do
  tick (steps t)
  charge (weight t)
  Ret (text t))
