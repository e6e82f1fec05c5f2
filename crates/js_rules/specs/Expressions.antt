-- Expressions (ECMA-262 5.1, 11), each evaluated in a frame, with its operands from left to right. The order
-- within an assignment is this project's own.
use Rattle.std.specs.Prelude.{ℕ, ◌+◌, ◌∷◌, [], List, Bool, true, false, Option, Some, None, if◌then◌else◌}
use Rattle.page_units.specs.declared.value.CellName.{CellName}
use Rattle.page_units.specs.declared.value.Value.{Value}
use Rattle.page_units.specs.declared.value.Value.TheVariants as v
use Rattle.page_units.specs.declared.operator.BinOp.{BinOp}
use Rattle.page_units.specs.declared.operator.UnOp.{UnOp}
use Rattle.page_units.specs.declared.operator.UnOp.TheVariants as u
use Rattle.cell_places.specs.declared.answer.Answer.TheVariants as a
use Rattle.cell_places.specs.declared.kind.CellKind.TheVariants as k
use Rattle.js_ops.specs.Conversions.{truth}
use Rattle.js_tree.specs.declared.expr.Expr.{Expr, out-Expr}
use Rattle.js_tree.specs.declared.expr.Expr.TheOpen.{Expr-F}
use Rattle.js_tree.specs.declared.expr.Expr.TheOpen as e
use Rattle.js_tree.specs.declared.expr.Entry.{Entry}
use Rattle.js_tree.specs.declared.operator.StepOp.{StepOp}
use Rattle.js_rules.specs.Fixed.{Fixed, Frame, Coded, code_of}
use Rattle.cell_places.specs.Known.{list_prototype, object_prototype}
use Rattle.js_rules.specs.Indices.{key_of}
use Rattle.js_rules.specs.Names.{bound_value, bound_or_undefined, not_defined}
use Rattle.js_rules.specs.Operators.{type_of, operate_one}
use Rattle.js_rules.specs.Tasks.{Kind, Values, Nothing, Lists, Pairs, References, Eval, Arguments, Reference, Callee, FillArray, FillTable, TypeOfName, DeleteReference, Find, SetBinding, GetValue, PutValue, DeleteValue, PutProperty, NewObject, Closure, ToText, Operate, Stepped, Apply, Construct}
use Rattle.js_rules.specs.Prog.{Prog, Ret, Enter, ◌>>=◌, ◌>>◌, put, tick, part, done, not_an_object, bind, weight}
use Rattle.js_rules.specs.Tasks.{NewScope}
use Rattle.js_rules.specs.Prog.{hand_on}

-- ---- properties as targets and as callees

-- CheckObjectCoercible (9.10)
abbrev pub of_object : Value → List ℕ → Prog References
of_object v.Undefined key = not_an_object
of_object v.Null key = not_an_object
of_object base key = Ret (base, key)

-- the key is made a text after that test
abbrev pub keyed : Value → Value → Prog References
keyed v.Undefined key = not_an_object
keyed v.Null key = not_an_object
keyed base key = do
  t ← part (ToText key)
  Ret (base, t)

-- Property Accessors (11.2.1)
abbrev pub reference : Frame → Expr-F Expr Entry → Prog References
reference f (e.Member x key) = do
  base ← part (Eval f x)
  of_object base key
reference f (e.Index x y) = do
  base ← part (Eval f x)
  key ← part (Eval f y)
  keyed base key
reference f _ = not_an_object

-- a node of a tree: a step, and a level of the depth (this project's own)
abbrev pub node : {K : Kind} → Prog K → Prog K
node m = tick 1 >> Enter m

-- a property that is called, with its object as `this` (11.2.3)
abbrev pub method : Frame → Expr → Prog Pairs
method f x = do
  r ← part (Reference f x)
  function ← part (GetValue r.0 r.1)
  Ret (function, r.0)

-- what is called, and its `this`; a property counts as a node here
abbrev pub callee : Frame → Expr → Expr-F Expr Entry → Prog Pairs
callee f x (e.Member y key) = node (method f x)
callee f x (e.Index y z) = node (method f x)
callee f x _ = do
  function ← part (Eval f x)
  Ret (function, v.Undefined)

-- Argument Lists (11.2.4)
abbrev pub arguments : Frame → List Expr → Prog Lists
arguments f [] = Ret []
arguments f (x ∷ more) = do
  y ← part (Eval f x)
  ys ← part (Arguments f more)
  Ret (y ∷ ys)

-- ---- literals (11.1)

-- Array Initialiser (11.1.4)
abbrev pub fill_array : Frame → CellName → ℕ → List Expr → Prog Nothing
fill_array f list i [] = done
fill_array f list i (x ∷ more) = do
  y ← part (Eval f x)
  part (PutProperty list (key_of i) y)
  part (FillArray f list (i + 1) more)

-- Object Initialiser (11.1.5)
abbrev pub fill_table : Frame → CellName → List Entry → Prog Nothing
fill_table f object [] = done
fill_table f object (x ∷ more) = do
  y ← part (Eval f x.value)
  part (PutProperty object x.key y)
  part (FillTable f object more)

abbrev pub array_literal : Frame → List Expr → Prog Values
array_literal f items = do
  list ← part (NewObject k.List (v.Cell list_prototype))
  part (FillArray f list 0 items)
  Ret (v.Cell list)

abbrev pub object_literal : Frame → List Entry → Prog Values
object_literal f entries = do
  object ← part (NewObject k.Plain (v.Cell object_prototype))
  part (FillTable f object entries)
  Ret (v.Cell object)

-- ---- functions (13)

-- a named function expression is bound in a scope of its own
abbrev pub named_function : Frame → ℕ → List ℕ → Prog Values
named_function f n name = do
  scope ← part (NewScope f.scope (1 + weight name))
  g ← part (Closure n scope)
  put (bind scope name) (a.One g)
  Ret g

abbrev pub function_of : Frame → ℕ → Option (List ℕ) → Prog Values
function_of f n (Some name) = named_function f n name
function_of f n None = part (Closure n f.scope)

abbrev pub name_in : Option Coded → Option (List ℕ)
name_in None = None
name_in (Some c) = c.code.name

-- Function Definition (13): the function with this code
abbrev pub function : Fixed → Frame → ℕ → Prog Values
function fixed f n = function_of f n (name_in (code_of fixed n))

-- ---- operators with one operand (11.4)

-- `typeof` (11.4.3); a name that isn't bound is undefined there
abbrev pub type_of_name : Frame → List ℕ → Prog Values
type_of_name f name = do
  b ← part (Find f.scope name)
  Ret (bound_or_undefined b)

abbrev pub type_of_operand : Frame → Expr → Expr-F Expr Entry → Prog Values
type_of_operand f x (e.Name name) = do
  y ← part (TypeOfName f name)
  type_of y
type_of_operand f x _ = do
  y ← part (Eval f x)
  type_of y

-- a property counts as a node here
abbrev pub delete_reference : Frame → Expr → Prog Values
delete_reference f x = do
  r ← part (Reference f x)
  part (DeleteValue r.0 r.1)

-- `delete` (11.4.1): what is no property is evaluated, and gives true
abbrev pub delete : Frame → Expr → Expr-F Expr Entry → Prog Values
delete f x (e.Member y key) = part (DeleteReference f x)
delete f x (e.Index y z) = part (DeleteReference f x)
delete f x _ = do
  part (Eval f x)
  Ret (v.Bool true)

abbrev pub unary : Frame → UnOp → Expr → Prog Values
unary f u.TypeOf x = type_of_operand f x (out-Expr x)
unary f u.Delete x = delete f x (out-Expr x)
unary f op x = do
  y ← part (Eval f x)
  operate_one op y

-- ---- assignments (11.13, 11.3)

-- the new number where the operator stands before its operand, else the old one
abbrev pub new_or_old : Bool → Value × Value → Value
new_or_old true r = r.1
new_or_old false r = r.0

-- `++` and `--` (11.3, 11.4.4, 11.4.5); a name must be bound
abbrev pub step_name : Frame → StepOp → Bool → List ℕ → Option (CellName × Value) → Prog Values
step_name f op is_before name None = not_defined name
step_name f op is_before name (Some b) = do
  r ← part (Stepped op b.1)
  part (SetBinding name (Some b) r.1)
  Ret (new_or_old is_before r)

abbrev pub step : Frame → StepOp → Bool → Expr → Expr-F Expr Entry → Prog Values
step f op is_before x (e.Name name) = do
  b ← part (Find f.scope name)
  step_name f op is_before name b
step f op is_before x _ = do
  r ← part (Reference f x)
  y ← part (GetValue r.0 r.1)
  z ← part (Stepped op y)
  part (PutValue r.0 r.1 z.1)
  Ret (new_or_old is_before z)

-- Simple Assignment (11.13.1): a name is looked up, and a property's object and key are evaluated, before the
-- right side
abbrev pub assign : Frame → Expr → Expr → Expr-F Expr Entry → Prog Values
assign f x y (e.Name name) = do
  b ← part (Find f.scope name)
  z ← part (Eval f y)
  part (SetBinding name b z)
assign f x y _ = do
  r ← part (Reference f x)
  z ← part (Eval f y)
  part (PutValue r.0 r.1 z)
  Ret z

abbrev pub assign_name_by : Frame → BinOp → List ℕ → Expr → Option (CellName × Value) → Prog Values
assign_name_by f op name y None = not_defined name
assign_name_by f op name y (Some b) = do
  right ← part (Eval f y)
  z ← part (Operate op b.1 right)
  part (SetBinding name (Some b) z)

-- Compound Assignment (11.13.2): the target is read before the right side
abbrev pub assign_by : Frame → BinOp → Expr → Expr → Expr-F Expr Entry → Prog Values
assign_by f op x y (e.Name name) = do
  b ← part (Find f.scope name)
  assign_name_by f op name y b
assign_by f op x y _ = do
  r ← part (Reference f x)
  left ← part (GetValue r.0 r.1)
  right ← part (Eval f y)
  z ← part (Operate op left right)
  part (PutValue r.0 r.1 z)
  Ret z

-- ---- all expressions

-- an expression by its outermost node; `whole` is the expression itself
abbrev pub expression : Fixed → Frame → Expr → Expr-F Expr Entry → Prog Values
expression fixed f whole e.This = Ret f.this
expression fixed f whole (e.Name name) = do
  b ← part (Find f.scope name)
  bound_value name b
expression fixed f whole (e.Num n) = Ret (v.Num n)
expression fixed f whole (e.Str t) = hand_on t
expression fixed f whole (e.Bool b) = Ret (v.Bool b)
expression fixed f whole e.Null = Ret v.Null
expression fixed f whole (e.Array items) = array_literal f items
expression fixed f whole (e.Table entries) = object_literal f entries
expression fixed f whole (e.Fun n) = function fixed f (f.first + n)
expression fixed f whole (e.Member x key) = do
  r ← part (Reference f whole)
  part (GetValue r.0 r.1)
expression fixed f whole (e.Index x y) = do
  r ← part (Reference f whole)
  part (GetValue r.0 r.1)
expression fixed f whole (e.Call x args) = do
  g ← part (Callee f x)
  ys ← part (Arguments f args)
  part (Apply g.0 g.1 ys)
expression fixed f whole (e.New x args) = do
  g ← part (Eval f x)
  ys ← part (Arguments f args)
  part (Construct g ys)
expression fixed f whole (e.Unary op x) = unary f op x
expression fixed f whole (e.Step op is_before x) = step f op is_before x (out-Expr x)
expression fixed f whole (e.Binary op x y) = do
  left ← part (Eval f x)
  right ← part (Eval f y)
  part (Operate op left right)
expression fixed f whole (e.And x y) = do
  left ← part (Eval f x)
  if truth left then part (Eval f y) else Ret left
expression fixed f whole (e.Or x y) = do
  left ← part (Eval f x)
  if truth left then Ret left else part (Eval f y)
expression fixed f whole (e.Cond x y z) = do
  test ← part (Eval f x)
  if truth test then part (Eval f y) else part (Eval f z)
expression fixed f whole (e.Assign x y) = assign f x y (out-Expr x)
expression fixed f whole (e.AssignOp op x y) = assign_by f op x y (out-Expr x)
expression fixed f whole (e.Comma x y) = do
  part (Eval f x)
  part (Eval f y)
