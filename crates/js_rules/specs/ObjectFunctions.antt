-- The built-in functions of objects, functions and faults (ECMA-262 5.1, 15.2, 15.3 and 15.11).
use Rattle.std.specs.Prelude.{ℕ, true, false, ◌&&◌, ◌||◌, List, [], ◌∷◌, ◌++◌, map, drop, codes, if◌then◌else◌}
use Rattle.page_units.specs.declared.value.CellName.{CellName}
use Rattle.page_units.specs.declared.value.Value.{Value}
use Rattle.page_units.specs.declared.value.Value.TheVariants as v
use Rattle.cell_places.specs.declared.place.Slot.TheVariants as s
use Rattle.cell_places.specs.declared.answer.Answer.TheVariants as a
use Rattle.cell_places.specs.declared.kind.CellKind.{CellKind}
use Rattle.cell_places.specs.declared.kind.CellKind.TheVariants as k
use Rattle.cell_places.specs.declared.kind.FaultName.{FaultName}
use Rattle.cell_places.specs.Kinds.{is_list}
use Rattle.cell_places.specs.Heap.{place}
use Rattle.js_rules.specs.Arguments.{arg}
use Rattle.cell_places.specs.Known.{object_prototype}
use Rattle.js_rules.specs.Objects.{fault_prototype}
use Rattle.js_rules.specs.Indices.{is_length}
use Rattle.js_rules.specs.Properties.{unit_at}
use Rattle.js_rules.specs.Shows.{object_text}
use Rattle.js_rules.specs.ListItems.{answers, indices, new_list}
use Rattle.js_rules.specs.Tasks.{Outcomes, made, ToText, OwnKeys, InChain, NewObject, PutItems, ListItems, ListLength, NeedFunction, Call, GetValue}
use Rattle.js_rules.specs.Prog.{Prog, Ret, ◌>>=◌, ◌>>◌, ask, look, put, charge, part, not_an_object, bad_argument, own}
use Rattle.js_rules.specs.Prog.{is_put}
use Rattle.js_rules.specs.Prog.{or_null}
use Rattle.std.specs.Prelude.{is_some}
use Rattle.js_rules.specs.Shows.{class_text}

-- ---- Object (15.2)

-- Object (15.2.1)
abbrev pub object_of : Value → Prog Outcomes
object_of (v.Cell c) = answers (v.Cell c)
object_of v.Undefined =
    part (NewObject k.Plain (v.Cell object_prototype)) >>= λ c. answers (v.Cell c)
object_of v.Null = part (NewObject k.Plain (v.Cell object_prototype)) >>= λ c. answers (v.Cell c)
object_of _ = bad_argument

-- Object.keys (15.2.3.14)
abbrev pub object_keys : Value → Prog Outcomes
object_keys (v.Cell c) = do
  keys ← part (OwnKeys c)
  new_list λ list. do
    part (PutItems list 0 (map (λ t. v.Str t) keys))
    answers (v.Cell list)
object_keys _ = not_an_object

-- Object.create (15.2.3.5)
abbrev pub object_create : Value → Prog Outcomes
object_create (v.Cell p) = part (NewObject k.Plain (v.Cell p)) >>= λ c. answers (v.Cell c)
object_create v.Null = part (NewObject k.Plain v.Null) >>= λ c. answers (v.Cell c)
object_create _ = not_an_object

-- Object.getPrototypeOf (15.2.3.2)
abbrev pub object_prototype_of : Value → Prog Outcomes
object_prototype_of (v.Cell c) = do
  p ← ask (place c s.Proto)
  answers (or_null p)
object_prototype_of _ = not_an_object

abbrev pub has_own_in : CellName → CellKind → List ℕ → Prog Outcomes
has_own_in c kind key = if is_list kind && is_length key then answers (v.Bool true) else (do
  x ← ask (own c key)
  answers (v.Bool (is_put x)))

-- hasOwnProperty (15.2.4.5)
abbrev pub has_own : Value → List ℕ → Prog Outcomes
has_own v.Undefined key = bad_argument
has_own v.Null key = bad_argument
has_own (v.Str t) key = answers (v.Bool (is_length key || is_some (unit_at t key)))
has_own (v.Cell c) key = do
  kind ← look c
  has_own_in c kind key
has_own _ key = answers (v.Bool false)

-- isPrototypeOf (15.2.4.6)
abbrev pub is_prototype_of : Value → Value → Prog Outcomes
is_prototype_of v.Undefined (v.Cell c) = bad_argument
is_prototype_of v.Null (v.Cell c) = bad_argument
is_prototype_of this (v.Cell c) = do
  found ← part (InChain c this)
  answers (v.Bool found)
is_prototype_of this _ = answers (v.Bool false)

-- toString (15.2.4.2)
abbrev pub object_to_string : Value → Prog Outcomes
object_to_string v.Undefined = Ret (made (class_text (codes "Undefined")))
object_to_string v.Null = Ret (made (class_text (codes "Null")))
object_to_string (v.Bool b) = Ret (made (class_text (codes "Boolean")))
object_to_string (v.Num z) = Ret (made (class_text (codes "Number")))
object_to_string (v.Str t) = Ret (made (class_text (codes "String")))
object_to_string (v.Cell c) = do
  kind ← look c
  Ret (made (object_text c kind))

-- valueOf (15.2.4.4)
abbrev pub object_value_of : Value → Prog Outcomes
object_value_of v.Undefined = bad_argument
object_value_of v.Null = bad_argument
object_value_of x = answers x

-- ---- Function.prototype (15.3.4)

abbrev pub call_with : Value → Value → List Value → Prog Outcomes
call_with f this args = do
  x ← part (Call f this args)
  answers x

abbrev pub apply_list : Value → Value → Value → Prog Outcomes
apply_list f this v.Undefined = call_with f this []
apply_list f this v.Null = call_with f this []
apply_list f this (v.Cell c) = do
  n ← part (ListLength c)
  xs ← part (ListItems c (indices 0 n))
  call_with f this xs
apply_list f this _ = bad_argument

-- apply (15.3.4.3)
abbrev pub apply_function : Value → List Value → Prog Outcomes
apply_function f args = do
  part (NeedFunction f)
  apply_list f (arg 0 args) (arg 1 args)

-- call (15.3.4.4)
abbrev pub call_function : Value → List Value → Prog Outcomes
call_function f args = do
  part (NeedFunction f)
  call_with f (arg 0 args) (drop 1 args)

-- ---- faults (15.11)

abbrev pub put_message : CellName → Value → Prog Outcomes
put_message c v.Undefined = answers (v.Cell c)
put_message c x = do
  charge 1
  put (own c (codes "message")) (a.One x)
  answers (v.Cell c)

-- Error and its kin (15.11.1)
abbrev pub fault_with : FaultName → List Value → Prog Outcomes
fault_with name args =
    part (NewObject (k.Fault name) (v.Cell (fault_prototype name)))
    >>= λ c. put_message c (arg 0 args)

abbrev pub name_and_message : List ℕ → List ℕ → Prog Outcomes
name_and_message [] message = answers (v.Str message)
name_and_message (c ∷ cs) [] = answers (v.Str (c ∷ cs))
name_and_message (c ∷ cs) (d ∷ ds) = Ret (made ((c ∷ cs) ++ codes ": " ++ (d ∷ ds)))

abbrev pub or_text : List ℕ → Value → Value
or_text t v.Undefined = v.Str t
or_text t x = x

-- Error.prototype.toString (15.11.4.4)
abbrev pub error_to_string : Value → Prog Outcomes
error_to_string (v.Cell c) = do
  x ← part (GetValue (v.Cell c) (codes "name"))
  name ← part (ToText (or_text (codes "Error") x))
  y ← part (GetValue (v.Cell c) (codes "message"))
  message ← part (ToText (or_text [] y))
  name_and_message name message
error_to_string _ = bad_argument
