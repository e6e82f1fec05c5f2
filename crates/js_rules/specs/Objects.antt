-- New objects, scopes, functions and faults (ECMA-262 5.1, 10.2.2.2, 13.2, 15.2.2.1 and 15.11; their weights are this
-- project's own).
use Rattle.std.specs.Prelude.{Some, ℕ, List, codes}
use Rattle.page_units.specs.declared.value.CellName.{CellName}
use Rattle.page_units.specs.declared.value.Value.{Value}
use Rattle.page_units.specs.declared.value.Value.TheVariants as v
use Rattle.cell_places.specs.declared.place.Slot.TheVariants as s
use Rattle.cell_places.specs.declared.answer.Answer.TheVariants as a
use Rattle.cell_places.specs.declared.kind.CellKind.{CellKind}
use Rattle.cell_places.specs.declared.kind.CellKind.TheVariants as k
use Rattle.cell_places.specs.declared.kind.FaultName.{FaultName}
use Rattle.cell_places.specs.declared.kind.FaultName.TheVariants as fault
use Rattle.cell_places.specs.Heap.{place}
use Rattle.cell_places.specs.Known.{object_prototype, function_prototype}
use Rattle.js_rules.specs.Tasks.{Values, Objects, Scopes}
use Rattle.js_rules.specs.Prog.{Prog, Ret, ◌>>=◌, ◌>>◌, put, make, charge, own, text}
use Rattle.cell_places.specs.Known.{error_prototype, type_error_prototype, range_error_prototype, reference_error_prototype, syntax_error_prototype}

-- an object of this kind with this prototype
abbrev pub new_object : CellKind → Value → Prog Objects
new_object kind prototype = do
  charge 1
  n ← make kind
  put (place n s.Proto) (a.One prototype)
  Ret n

-- a scope in another (10.2.2.2), with the weight of its bindings; the bindings are put by who makes it
abbrev pub new_scope : CellName → ℕ → Prog Scopes
new_scope outer weight = do
  charge weight
  n ← make (k.Scope (Some outer))
  Ret n

-- the prototype of new faults of a name
abbrev pub fault_prototype : FaultName → CellName
fault_prototype fault.Error = error_prototype
fault_prototype fault.TypeError = type_error_prototype
fault_prototype fault.RangeError = range_error_prototype
fault_prototype fault.ReferenceError = reference_error_prototype
fault_prototype fault.SyntaxError = syntax_error_prototype
fault_prototype fault.HierarchyRequestError = error_prototype
fault_prototype fault.NotFoundError = error_prototype

-- the two faults of nodes have an own name (this project's own)
abbrev pub named : CellName → List ℕ → Prog Values
named n name = do
  charge 1
  put (own n (codes "name")) (a.One (text name))
  Ret (v.Cell n)

abbrev pub with_name : FaultName → CellName → Prog Values
with_name fault.HierarchyRequestError n = named n (codes "HierarchyRequestError")
with_name fault.NotFoundError n = named n (codes "NotFoundError")
with_name _ n = Ret (v.Cell n)

-- a fault that a rule throws: its cell, then each own property
abbrev pub new_fault : FaultName → List ℕ → Prog Values
new_fault name message = do
  charge 1
  n ← make (k.Fault name)
  put (place n s.Proto) (a.One (v.Cell (fault_prototype name)))
  charge 1
  put (own n (codes "message")) (a.One (text message))
  with_name name n

-- the two cells of a function, linked
abbrev pub linked : CellName → CellName → Prog Values
linked f p = do
  put (place f s.Proto) (a.One (v.Cell function_prototype))
  put (own f (codes "prototype")) (a.One (v.Cell p))
  put (place p s.Proto) (a.One (v.Cell object_prototype))
  put (own p (codes "constructor")) (a.One (v.Cell f))
  Ret (v.Cell f)

-- Creating Function Objects (13.2): the function's cell, then its prototype object
abbrev pub closure : ℕ → CellName → Prog Values
closure code scope = do
  charge 4
  f ← make (k.Fun code scope)
  p ← make k.Plain
  linked f p
