-- Conversions, and operators on any values (ECMA-262 5.1, 8.12.8, 9, 11.4 to 11.10). What they give for
-- primitive values is js_ops'; the order of the acts is this project's own.
use Rattle.std.specs.Prelude.{ℕ, pos, true, false, not, ◌||◌, List, [], ◌∷◌, Option, Some, None, codes, if◌then◌else◌}
use Rattle.page_units.specs.declared.operator.BinOp.{BinOp}
use Rattle.page_units.specs.declared.operator.BinOp.TheVariants as o
use Rattle.page_units.specs.declared.operator.UnOp.{UnOp}
use Rattle.page_units.specs.declared.operator.UnOp.TheVariants as u
use Rattle.page_units.specs.declared.value.CellName.{CellName}
use Rattle.page_units.specs.declared.value.Value.{Value}
use Rattle.page_units.specs.declared.value.Value.TheVariants as v
use Rattle.cell_places.specs.Kinds.{is_function}
use Rattle.cell_places.specs.declared.kind.CellKind.{CellKind}
use Rattle.js_tree.specs.declared.operator.StepOp.{StepOp}
use Rattle.js_tree.specs.declared.operator.StepOp.TheVariants as step
use Rattle.js_ops.specs.Answers.{suits_equal}
use Rattle.page_units.specs.Digits.{digits}
use Rattle.js_ops.specs.Conversions.{is_primitive, truth, text as text_of, type_name}
use Rattle.js_ops.specs.Operators.{Given, value, not_whole, too_long as no_room, joined, is_text, binary, unary}
use Rattle.js_rules.specs.NodeKeys.{NodeKey, node_key}
use Rattle.js_rules.specs.Tasks.{Values, Texts, Pairs, Maybes, Hint, to_number, to_text, NumberOf, ToPrimitive, DefaultValue, TryMethod, ToNumber, ToText, TextOf, Operate, GetValue, HasProperty, InChain, Call}
use Rattle.js_rules.specs.Prog.{Prog, Ret, ◌>>=◌, ◌>>◌, look, charge, tick, part, type_error, not_an_object, bad_argument, too_long, no_whole_number, number, weight}

-- ---- conversions

-- the methods that are tried, by the hint (8.12.8)
abbrev pub methods : Hint → List (List ℕ)
methods to_number = codes "valueOf" ∷ codes "toString" ∷ []
methods to_text = codes "toString" ∷ codes "valueOf" ∷ []

-- ToPrimitive (9.1)
abbrev pub to_primitive : Hint → Value → Prog Values
to_primitive hint (v.Cell c) = part (DefaultValue c (methods hint))
to_primitive hint x = Ret x

abbrev pub primitive_or : CellName → List (List ℕ) → Option Value → Prog Values
primitive_or c more (Some x) = Ret x
primitive_or c more None = part (DefaultValue c more)

-- [[DefaultValue]] (8.12.8): the first method that gives a primitive value
abbrev pub default_value : CellName → List (List ℕ) → Prog Values
default_value c [] = type_error (codes "no primitive value")
default_value c (name ∷ more) = do
  method ← part (GetValue (v.Cell c) name)
  x ← part (TryMethod method c)
  primitive_or c more x

abbrev pub if_primitive : Value → Option Value
if_primitive x = if is_primitive x then Some x else None

-- the method's primitive value; None where it is no function or gives an object
abbrev pub try_method : Value → CellName → Prog Maybes
try_method (v.Cell method) c = do
  kind ← look method
  if is_function kind then (do
    x ← part (Call (v.Cell method) (v.Cell c) [])
    Ret (if_primitive x)) else Ret None
try_method _ c = Ret None

-- what an operator gives, with its steps
abbrev pub given : Given → Prog Values
given (value n x) = do
  tick n
  Ret x
given not_whole = no_whole_number
given no_room = too_long

-- ToNumber (9.3) of a primitive value; where there is no whole number it throws
abbrev pub number_of_primitive : Value → Prog Values
number_of_primitive x = given (unary u.Plus x)

-- ToNumber (9.3)
abbrev pub number_of_any : Value → Prog Values
number_of_any x = do
  primitive ← part (ToPrimitive to_number x)
  part (NumberOf primitive)

-- ToString (9.8) of a primitive value; the text of a number or a truth value is made
abbrev pub text_of_primitive : Value → Prog Texts
text_of_primitive (v.Num n) = do
  charge (weight (digits n))
  Ret (digits n)
text_of_primitive (v.Bool b) = do
  charge (weight (text_of (v.Bool b)))
  Ret (text_of (v.Bool b))
text_of_primitive x = Ret (text_of x)

-- ToString (9.8)
abbrev pub text_of_any : Value → Prog Texts
text_of_any x = do
  primitive ← part (ToPrimitive to_text x)
  part (TextOf primitive)

-- ---- operators with two operands

-- a text that is made: its steps, then its weight
abbrev pub made : Given → Prog Values
made (value n (v.Str t)) = do
  tick n
  charge (weight t)
  Ret (v.Str t)
made x = given x

-- `+` (11.6.1)
abbrev pub add : Value → Value → Prog Values
add x y = if is_text x || is_text y then (do
  s ← part (TextOf x)
  t ← part (TextOf y)
  made (joined s t)) else given (binary o.Add x y)

abbrev pub on_primitives : BinOp → Value → Value → Prog Values
on_primitives o.Add x y = add x y
on_primitives op x y = given (binary op x y)

-- `==` and `!=` where an object stands beside a text, a number or a truth value (11.9.3, 8 and 9)
abbrev pub with_primitive : BinOp → Value → Value → Prog Values
with_primitive op (v.Cell c) y = do
  x ← part (ToPrimitive to_number (v.Cell c))
  given (binary op x y)
with_primitive op x y = do
  z ← part (ToPrimitive to_number y)
  given (binary op x z)

abbrev pub equality : BinOp → Value → Value → Prog Values
equality op x y = if suits_equal x y then given (binary op x y) else with_primitive op x y

-- [[HasInstance]] (15.3.5.3)
abbrev pub stands_in_chain : CellName → Value → Prog Values
stands_in_chain c (v.Cell p) = do
  found ← part (InChain c (v.Cell p))
  Ret (v.Bool found)
stands_in_chain c _ = bad_argument

abbrev pub has_instance : Value → CellName → Prog Values
has_instance (v.Cell c) f = do
  p ← part (GetValue (v.Cell f) (codes "prototype"))
  stands_in_chain c p
has_instance _ f = Ret (v.Bool false)

-- `instanceof` (11.8.6)
abbrev pub instance_of : Value → Value → Prog Values
instance_of x (v.Cell f) = do
  kind ← look f
  if is_function kind then has_instance x f else not_an_object
instance_of x _ = not_an_object

abbrev pub has_named : CellName → List ℕ → Option NodeKey → Prog Values
has_named c key (Some x) = Ret (v.Bool true)
has_named c key None = do
  found ← part (HasProperty c key)
  Ret (v.Bool found)

-- `in` (11.8.7)
abbrev pub stands_in : Value → Value → Prog Values
stands_in x (v.Cell c) = do
  key ← part (ToText x)
  kind ← look c
  has_named c key (node_key kind key)
stands_in x _ = not_an_object

-- `===` (11.9.6)
abbrev pub same : Value → Value → Prog Values
same x y = given (binary o.StrictEqual x y)

-- an operator with two operands (11.5 to 11.10)
abbrev pub operate : BinOp → Value → Value → Prog Values
operate o.StrictEqual x y = given (binary o.StrictEqual x y)
operate o.StrictNotEqual x y = given (binary o.StrictNotEqual x y)
operate o.Equal x y = equality o.Equal x y
operate o.NotEqual x y = equality o.NotEqual x y
operate o.InstanceOf x y = instance_of x y
operate o.In x y = stands_in x y
operate op x y = do
  left ← part (ToPrimitive to_number x)
  right ← part (ToPrimitive to_number y)
  on_primitives op left right

-- ---- operators with one operand

-- `typeof` (11.4.3)
abbrev pub type_of_kind : CellKind → List ℕ
type_of_kind kind = if is_function kind then codes "function" else codes "object"

abbrev pub type_of : Value → Prog Values
type_of (v.Cell c) = do
  kind ← look c
  Ret (v.Str (type_of_kind kind))
type_of x = Ret (v.Str (type_name x))

-- an operator with one operand but `delete` and `typeof` (11.4)
abbrev pub operate_one : UnOp → Value → Prog Values
operate_one u.Void x = Ret v.Undefined
operate_one u.Not x = Ret (v.Bool (not (truth x)))
operate_one op x = do
  primitive ← part (ToPrimitive to_number x)
  given (unary op primitive)

-- `++` and `--` (11.3, 11.4.4, 11.4.5): the old number and the new one
abbrev pub by_one : StepOp → BinOp
by_one step.Inc = o.Add
by_one step.Dec = o.Subtract

abbrev pub stepped : StepOp → Value → Prog Pairs
stepped op x = do
  old ← part (ToNumber x)
  new ← part (Operate (by_one op) old (number (pos 1)))
  Ret (old, new)
