-- The cells that every heap has from its start (this project's own), by the names of their objects in ECMA-262 5.1, 15.
use Rattle.std.specs.Prelude.{ℕ, ◌+◌}
use Rattle.page_units.specs.declared.value.CellName.{CellName}
use Rattle.cell_places.specs.Heap.{cell}

abbrev pub global_scope : CellName
global_scope = cell 0

abbrev pub page_cell : CellName
page_cell = cell 1

abbrev pub document_cell : CellName
document_cell = cell 2

abbrev pub object_prototype : CellName
object_prototype = cell 3

abbrev pub function_prototype : CellName
function_prototype = cell 4

-- the prototype of lists
abbrev pub list_prototype : CellName
list_prototype = cell 5

abbrev pub string_prototype : CellName
string_prototype = cell 6

abbrev pub number_prototype : CellName
number_prototype = cell 7

abbrev pub boolean_prototype : CellName
boolean_prototype = cell 8

-- the prototypes of faults
abbrev pub error_prototype : CellName
error_prototype = cell 9

abbrev pub type_error_prototype : CellName
type_error_prototype = cell 10

abbrev pub range_error_prototype : CellName
range_error_prototype = cell 11

abbrev pub reference_error_prototype : CellName
reference_error_prototype = cell 12

abbrev pub syntax_error_prototype : CellName
syntax_error_prototype = cell 13

-- the prototype of the document, of elements and of text nodes
abbrev pub node_prototype : CellName
node_prototype = cell 14

abbrev pub event_prototype : CellName
event_prototype = cell 15

abbrev pub math_object : CellName
math_object = cell 16

abbrev pub json_object : CellName
json_object = cell 17

abbrev pub console_object : CellName
console_object = cell 18

-- the page's requests, and its guesses
abbrev pub net_object : CellName
net_object = cell 19

abbrev pub crom_object : CellName
crom_object = cell 20

-- the first built-in function
abbrev pub first_native : CellName
first_native = cell 21

-- how many built-in functions there are, and how many plain objects stand in reserve behind them
abbrev pub native_count : ℕ
native_count = 89

abbrev pub reserve_count : ℕ
reserve_count = 18

-- the cell of a built-in function of this number, from 0
abbrev pub function_cell : ℕ → CellName
function_cell which = cell (first_native.0 + which)
