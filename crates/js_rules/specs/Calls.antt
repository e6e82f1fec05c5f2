-- Calls and `new` (ECMA-262 5.1, 10.4.3, 10.5, 11.2.3, 13.2). There is no `arguments` object (this project's own).
use Rattle.std.specs.Prelude.{ℕ, ◌+◌, Bool, false, not, List, [], ◌∷◌, ◌++◌, map, filter, sum, Option, Some, None, unwrap_or, codes, if◌then◌else◌}
use Rattle.page_units.specs.declared.value.CellName.{CellName}
use Rattle.page_units.specs.declared.value.Value.{Value}
use Rattle.page_units.specs.declared.value.Value.TheVariants as v
use Rattle.cell_places.specs.declared.place.Slot.TheVariants as s
use Rattle.cell_places.specs.declared.answer.Answer.TheVariants as a
use Rattle.cell_places.specs.declared.kind.CellKind.{CellKind}
use Rattle.cell_places.specs.declared.kind.CellKind.TheVariants as k
use Rattle.cell_places.specs.Heap.{place}
use Rattle.cell_places.specs.Kinds.{is_function}
use Rattle.js_rules.specs.declared.flow.Flow.{Flow}
use Rattle.js_rules.specs.declared.flow.Flow.TheVariants as flow
use Rattle.js_rules.specs.declared.built_in.BuiltIn.{BuiltIn}
use Rattle.js_rules.specs.BuiltIns.{built_in, makes_objects}
use Rattle.js_rules.specs.Fixed.{Fixed, frame, Coded, code_of}
use Rattle.cell_places.specs.Known.{object_prototype}
use Rattle.js_rules.specs.Indices.{has_key, without, and_new}
use Rattle.js_rules.specs.Tasks.{Values, Nothing, Apply, RunCode, BindParameters, BindFunctions, BindVars, Closure, GetValue, Each, Native}
use Rattle.js_rules.specs.Prog.{Prog, Ret, Enter, ◌>>=◌, ◌>>◌, look, put, make, charge, tick, part, done, type_error, not_a_function, bind, weight}
use Rattle.js_rules.specs.Tasks.{NewScope}

-- ---- names of a body

-- the name of a declared function; it has one
abbrev pub code_name : Option Coded → List ℕ
code_name None = []
code_name (Some c) = unwrap_or c.code.name []

-- the name of the function with this code
abbrev pub function_name : Fixed → ℕ → List ℕ
function_name fixed n = code_name (code_of fixed n)

-- each name once
abbrev pub distinct : List (List ℕ) → List (List ℕ)
distinct [] = []
distinct (n ∷ names) = n ∷ without n (distinct names)

-- the names of declared functions, by the numbers within their program
abbrev pub function_names : Fixed → ℕ → List ℕ → List (List ℕ)
function_names fixed first funs = map (λ n. function_name fixed (first + n)) funs

-- parameters and functions, each once
abbrev pub given_names : Fixed → Coded → List (List ℕ)
given_names fixed c = and_new c.code.params (distinct (function_names fixed c.first c.code.funs))

-- the names that `var` adds
abbrev pub new_vars : Fixed → Coded → List (List ℕ)
new_vars fixed c = filter (λ n. not (has_key n (given_names fixed c))) c.code.vars

-- the weight of a scope with its bindings (this project's own)
abbrev pub scope_weight : Fixed → Coded → ℕ
scope_weight fixed c = 1 + sum (map weight (given_names fixed c ++ new_vars fixed c))

-- ---- bindings (10.5)

-- parameters: a missing argument is undefined, and one too many is dropped (step 4)
abbrev pub bind_parameters : CellName → List (List ℕ) → List Value → Prog Nothing
bind_parameters scope [] args = done
bind_parameters scope (n ∷ names) [] = do
  put (bind scope n) (a.One v.Undefined)
  part (BindParameters scope names [])
bind_parameters scope (n ∷ names) (x ∷ args) = do
  put (bind scope n) (a.One x)
  part (BindParameters scope names args)

-- function declarations (step 5)
abbrev pub bind_functions : Fixed → CellName → ℕ → List ℕ → Prog Nothing
bind_functions fixed scope first [] = done
bind_functions fixed scope first (n ∷ more) = do
  f ← part (Closure (first + n) scope)
  put (bind scope (function_name fixed (first + n))) (a.One f)
  part (BindFunctions scope first more)

-- variables (step 8)
abbrev pub bind_vars : CellName → List (List ℕ) → Prog Nothing
bind_vars scope [] = done
bind_vars scope (n ∷ names) = do
  put (bind scope n) (a.One v.Undefined)
  part (BindVars scope names)

-- ---- calls

-- what a call gives: the value of its `return`, or else undefined (13.2.1)
abbrev pub result_of : Flow → Value
result_of (flow.Return x) = x
result_of _ = v.Undefined

-- Entering Function Code (10.4.3) and [[Call]] (13.2.1)
abbrev pub run_code : Fixed → Option Coded → CellName → Value → List Value → Prog Values
run_code fixed None scope this args = not_a_function
run_code fixed (Some c) scope this args = do
  inner ← part (NewScope scope (scope_weight fixed c))
  part (BindParameters inner c.code.params args)
  part (BindFunctions inner c.first c.code.funs)
  part (BindVars inner (new_vars fixed c))
  end ← part (Each (frame inner this c.first) c.code.body)
  Ret (result_of end)

abbrev pub apply_kind : Fixed → CellKind → Value → List Value → Prog Values
apply_kind fixed (k.Fun code scope) this args = part (RunCode (code_of fixed code) scope this args)
apply_kind fixed (k.Native which) this args = part (Native which this args)
apply_kind fixed _ this args = not_a_function

-- [[Call]] of any value (11.2.3, steps 4 and 5)
abbrev pub apply : Fixed → Value → Value → List Value → Prog Values
apply fixed (v.Cell f) this args = do
  kind ← look f
  apply_kind fixed kind this args
apply fixed _ this args = not_a_function

-- a call that no node of a tree makes is a step, and counts in the depth (this project's own)
abbrev pub inner_call : CellName → CellKind → Value → List Value → Prog Values
inner_call f kind this args =
    if is_function kind then (tick 1 >> Enter (part (Apply (v.Cell f) this args)))
    else not_a_function

-- such a call of any value
abbrev pub call : Value → Value → List Value → Prog Values
call (v.Cell f) this args = do
  kind ← look f
  inner_call f kind this args
call _ this args = not_a_function

-- ---- new

-- an object, or else this one
abbrev pub object_or : Value → CellName → Value
object_or (v.Cell c) other = v.Cell c
object_or _ other = v.Cell other

-- [[Construct]] (13.2.2)
abbrev pub construct_function : CellName → List Value → Prog Values
construct_function f args = do
  charge 1
  object ← make k.Plain
  prototype ← part (GetValue (v.Cell f) (codes "prototype"))
  put (place object s.Proto) (a.One (object_or prototype object_prototype))
  x ← part (Apply (v.Cell f) (v.Cell object) args)
  Ret (object_or x object)

abbrev pub is_constructor : Option BuiltIn → Bool
is_constructor None = false
is_constructor (Some f) = makes_objects f

-- a built-in function that works with `new` makes its own object
abbrev pub construct_kind : CellName → CellKind → List Value → Prog Values
construct_kind f (k.Fun code scope) args = construct_function f args
construct_kind f (k.Native which) args =
    if is_constructor (built_in which) then part (Native which v.Undefined args)
    else type_error (codes "not a constructor")
construct_kind f _ args = not_a_function

-- The new Operator (11.2.2), with its arguments
abbrev pub construct : Value → List Value → Prog Values
construct (v.Cell f) args = do
  kind ← look f
  construct_kind f kind args
construct _ args = not_a_function
