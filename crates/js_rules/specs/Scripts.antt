-- Scripts (ECMA-262 5.1, 10.4.1, 10.5 and 14), with the global scope as a scope (this project's own).
use Rattle.std.specs.Prelude.{ℕ, ◌+◌, List, [], ◌∷◌, Option, Some, None}
use Rattle.page_units.specs.declared.value.Value.{Value}
use Rattle.page_units.specs.declared.value.Value.TheVariants as v
use Rattle.cell_places.specs.declared.answer.Answer.{Answer}
use Rattle.cell_places.specs.declared.answer.Answer.TheVariants as a
use Rattle.js_tree.specs.declared.code.Program.{Program}
use Rattle.js_rules.specs.Fixed.{Fixed, frame, script_of}
use Rattle.cell_places.specs.Known.{global_scope}
use Rattle.js_rules.specs.Calls.{function_name}
use Rattle.js_rules.specs.Tasks.{Values, Nothing, Each, Closure, DeclareFunctions, DeclareVars}
use Rattle.js_rules.specs.Prog.{Prog, Ret, ◌>>=◌, ◌>>◌, ask, put, charge, part, done, bind, weight}

-- a binding that is there already costs nothing
abbrev pub declare_function : List ℕ → ℕ → List ℕ → Value → Answer → Prog Nothing
declare_function name first more f (a.One x) = do
  put (bind global_scope name) (a.One f)
  part (DeclareFunctions first more)
declare_function name first more f _ = do
  charge (weight name)
  put (bind global_scope name) (a.One f)
  part (DeclareFunctions first more)

-- function declarations (10.5, step 5)
abbrev pub declare_functions : Fixed → ℕ → List ℕ → Prog Nothing
declare_functions fixed first [] = done
declare_functions fixed first (n ∷ more) = do
  f ← part (Closure (first + n) global_scope)
  there ← ask (bind global_scope (function_name fixed (first + n)))
  declare_function (function_name fixed (first + n)) first more f there

abbrev pub declare_var : List ℕ → List (List ℕ) → Answer → Prog Nothing
declare_var name more (a.One x) = part (DeclareVars more)
declare_var name more _ = do
  charge (weight name)
  put (bind global_scope name) (a.One v.Undefined)
  part (DeclareVars more)

-- variables (10.5, step 8)
abbrev pub declare_vars : List (List ℕ) → Prog Nothing
declare_vars [] = done
declare_vars (name ∷ more) = do
  there ← ask (bind global_scope name)
  declare_var name more there

-- a script that doesn't throw ends with undefined
abbrev pub run_script : Option (Program × ℕ) → Prog Values
run_script None = Ret v.Undefined
run_script (Some p) = do
  part (DeclareFunctions p.1 p.0.funs)
  part (DeclareVars p.0.vars)
  part (Each (frame global_scope v.Undefined p.1) p.0.body)
  Ret v.Undefined

abbrev pub script : Fixed → ℕ → Prog Values
script fixed n = run_script (script_of fixed n)
