-- What stands in the heap that a page starts with (this project's own), by the tables of `StartTable`. Its properties
-- are not enumerable (ECMA-262 5.1, 15): no Keys stands here, which holds the enumerable ones alone.
use Rattle.std.specs.Prelude.{ℕ, ℤ, pos, List, [], ◌∷◌, ◌++◌, map, codes}
use Rattle.std.specs.List.{flat_map, range_with_len}
use Rattle.page_units.specs.declared.value.CellName.{CellName}
use Rattle.page_units.specs.declared.value.Value.{Value}
use Rattle.page_units.specs.declared.value.Value.TheVariants as v
use Rattle.cell_places.specs.declared.place.Place.{Place}
use Rattle.cell_places.specs.declared.place.Slot.TheVariants as s
use Rattle.cell_places.specs.declared.answer.Answer.{Answer}
use Rattle.cell_places.specs.declared.answer.Answer.TheVariants.{One}
use Rattle.cell_places.specs.Heap.{place}
use Rattle.cell_places.specs.Acts.{Act, placed}
use Rattle.cell_places.specs.Known.{global_scope, page_cell, document_cell, object_prototype, function_prototype, error_prototype, node_prototype, function_cell, native_count}
use Rattle.cell_places.specs.StartTable.{methods, constructors, global_functions, global_objects, fault_names, plain_objects, kinds_of_error}

-- a place and what stands there
abbrev pub Row : Type 0
Row = Place × Answer

-- the acts that put these
abbrev pub puts : List Row → List Act
puts rows = map (λ (r : Row). placed r.0 r.1) rows

-- ---- one row

abbrev pub property : CellName → List ℕ → Value → Row
property owner key x = (place owner (s.Own key), One x)

abbrev pub binding : List ℕ → Value → Row
binding name x = (place global_scope (s.Bind name), One x)

abbrev pub prototype_row : CellName → CellName → Row
prototype_row prototype n = (place n s.Proto, One (v.Cell prototype))

-- ---- rows of one line of a table

-- a method, which its owner holds under its name
abbrev pub method_row : CellName × List ℕ × ℕ → Row
method_row (owner, key, which) = property owner key (v.Cell (function_cell which))

-- a constructor, which its prototype and the global scope hold
abbrev pub constructor_rows : List ℕ × ℕ × CellName → List Row
constructor_rows (name, which, prototype) =
    property prototype (codes "constructor") (v.Cell (function_cell which))
    ∷ property (function_cell which) (codes "prototype") (v.Cell prototype)
    ∷ binding name (v.Cell (function_cell which))
    ∷ []

-- the prototype of faults of a name has it, and an empty message
abbrev pub fault_rows : CellName × List ℕ → List Row
fault_rows (prototype, name) =
    property prototype (codes "name") (v.Str name) ∷ property prototype (codes "message") (v.Str []) ∷ []

abbrev pub function_binding : List ℕ × ℕ → Row
function_binding (name, which) = binding name (v.Cell (function_cell which))

abbrev pub object_binding : List ℕ × CellName → Row
object_binding (name, n) = binding name (v.Cell n)

-- ---- all rows

-- the clock and the first ids
abbrev pub page_rows : ℤ → List Row
page_rows now =
    (place page_cell s.Clock, One (v.Num now))
    ∷ (place page_cell s.NextTimer, One (v.Num (pos 1)))
    ∷ (place page_cell s.NextGuess, One (v.Num (pos 1)))
    ∷ []

abbrev pub function_prototype_rows : ℕ → List Row
function_prototype_rows many = map (λ which. prototype_row function_prototype (function_cell which)) (range_with_len 0 many)

abbrev pub prototype_rows : List Row
prototype_rows =
    map (prototype_row object_prototype) plain_objects
    ++ (map (prototype_row error_prototype) kinds_of_error
    ++ (function_prototype_rows native_count
    ++ prototype_row node_prototype document_cell ∷ []))

abbrev pub binding_rows : List Row
binding_rows =
    map function_binding global_functions ++ (map object_binding global_objects ++ binding (codes "undefined") v.Undefined ∷ [])

-- those in which no clock stands
abbrev pub built_in_rows : List Row
built_in_rows =
    prototype_rows
    ++ (map method_row methods ++ (flat_map constructor_rows constructors ++ (flat_map fault_rows fault_names ++ binding_rows)))

abbrev pub start_rows : ℤ → List Row
start_rows now = page_rows now ++ built_in_rows
