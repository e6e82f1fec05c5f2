-- Names: looked up through scopes, and assigned (ECMA-262 5.1, 8.7 and 10.2). The global scope is a scope like
-- the others (this project's own).
use Rattle.std.specs.Prelude.{ℕ, List, ◌++◌, Option, Some, None, codes, if◌then◌else◌}
use Rattle.page_units.specs.declared.value.CellName.{CellName}
use Rattle.page_units.specs.declared.value.Value.{Value}
use Rattle.page_units.specs.declared.value.Value.TheVariants as v
use Rattle.cell_places.specs.declared.answer.Answer.{Answer}
use Rattle.cell_places.specs.declared.answer.Answer.TheVariants as a
use Rattle.cell_places.specs.declared.kind.CellKind.{CellKind}
use Rattle.cell_places.specs.declared.kind.CellKind.TheVariants as k
use Rattle.cell_places.specs.declared.kind.FaultName.TheVariants as fault
use Rattle.js_rules.specs.Fixed.{Fixed, is_own_scope}
use Rattle.js_rules.specs.Tasks.{Kind, Values, Bindings, Find}
use Rattle.js_rules.specs.Prog.{Prog, Ret, ◌>>=◌, ◌>>◌, ask, look, put, part, raise, read_only, bind}

-- from a scope that doesn't bind the name outwards
abbrev pub find_outwards : List ℕ → CellKind → Prog Bindings
find_outwards name (k.Scope (Some outer)) = part (Find outer name)
find_outwards name _ = Ret None

-- GetIdentifierReference (10.2.2.1), with the value that stands there
abbrev pub find_rule : CellName → List ℕ → Answer → Prog Bindings
find_rule scope name (a.One x) = Ret (Some (scope, x))
find_rule scope name _ = do
  kind ← look scope
  find_outwards name kind

-- the innermost scope that binds a name
abbrev pub find : CellName → List ℕ → Prog Bindings
find scope name = do
  found ← ask (bind scope name)
  find_rule scope name found

-- a name that isn't bound throws
abbrev pub not_defined : {K : Kind} → List ℕ → Prog K
not_defined name = raise fault.ReferenceError (name ++ codes " is not defined")

-- GetValue of a name (8.7.1)
abbrev pub bound_value : List ℕ → Option (CellName × Value) → Prog Values
bound_value name None = not_defined name
bound_value name (Some b) = Ret b.1

-- the value of a name for `typeof` (11.4.3)
abbrev pub bound_or_undefined : Option (CellName × Value) → Value
bound_or_undefined None = v.Undefined
bound_or_undefined (Some b) = b.1

-- SetMutableBinding (10.2.1.1.3)
abbrev pub put_binding : CellName → List ℕ → Value → Prog Values
put_binding scope name x = do
  put (bind scope name) (a.One x)
  Ret x

-- the name of a function expression can't be assigned in its own scope (13)
abbrev pub rebind : Fixed → CellName → List ℕ → Value → Value → Prog Values
rebind fixed scope name (v.Cell function) x = do
  kind ← look function
  if is_own_scope fixed scope kind then read_only else put_binding scope name x
rebind fixed scope name _ x = put_binding scope name x

-- PutValue of a name (8.7.2)
abbrev pub set_binding : Fixed → List ℕ → Option (CellName × Value) → Value → Prog Values
set_binding fixed name None x = not_defined name
set_binding fixed name (Some b) x = rebind fixed b.0 name b.1 x
