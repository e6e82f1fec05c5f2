-- The tables of the heap that a page starts with. The functions stand in the order of their numbers, which is this
-- project's own; their names and owners are those of ECMA-262 5.1, 15, of WHATWG DOM, and of this project's net and crom.
use Rattle.std.specs.Prelude.{ℕ, List, [], ◌∷◌, codes}
use Rattle.page_units.specs.declared.value.CellName.{CellName}
use Rattle.cell_places.specs.Known.{document_cell, object_prototype, function_prototype, list_prototype, string_prototype}
use Rattle.cell_places.specs.Known.{number_prototype, boolean_prototype, error_prototype, type_error_prototype}
use Rattle.cell_places.specs.Known.{range_error_prototype, reference_error_prototype, syntax_error_prototype}
use Rattle.cell_places.specs.Known.{node_prototype, event_prototype, math_object, json_object, console_object}
use Rattle.cell_places.specs.Known.{net_object, crom_object, function_cell}

-- the functions that are methods: each one's owner, its name, and its number
abbrev pub methods : List (CellName × List ℕ × ℕ)
methods =
    (function_cell 0, codes "keys", 1)
    ∷ (function_cell 0, codes "create", 2)
    ∷ (function_cell 0, codes "getPrototypeOf", 3)
    ∷ (object_prototype, codes "hasOwnProperty", 4)
    ∷ (object_prototype, codes "isPrototypeOf", 5)
    ∷ (object_prototype, codes "toString", 6)
    ∷ (object_prototype, codes "valueOf", 7)
    ∷ (function_prototype, codes "call", 8)
    ∷ (function_prototype, codes "apply", 9)
    ∷ (function_cell 10, codes "isArray", 11)
    ∷ (list_prototype, codes "push", 12)
    ∷ (list_prototype, codes "pop", 13)
    ∷ (list_prototype, codes "shift", 14)
    ∷ (list_prototype, codes "unshift", 15)
    ∷ (list_prototype, codes "slice", 16)
    ∷ (list_prototype, codes "splice", 17)
    ∷ (list_prototype, codes "concat", 18)
    ∷ (list_prototype, codes "join", 19)
    ∷ (list_prototype, codes "reverse", 20)
    ∷ (list_prototype, codes "indexOf", 21)
    ∷ (list_prototype, codes "lastIndexOf", 22)
    ∷ (list_prototype, codes "forEach", 23)
    ∷ (list_prototype, codes "map", 24)
    ∷ (list_prototype, codes "filter", 25)
    ∷ (list_prototype, codes "some", 26)
    ∷ (list_prototype, codes "every", 27)
    ∷ (list_prototype, codes "reduce", 28)
    ∷ (list_prototype, codes "toString", 29)
    ∷ (function_cell 30, codes "fromCharCode", 31)
    ∷ (string_prototype, codes "charAt", 32)
    ∷ (string_prototype, codes "charCodeAt", 33)
    ∷ (string_prototype, codes "indexOf", 34)
    ∷ (string_prototype, codes "lastIndexOf", 35)
    ∷ (string_prototype, codes "slice", 36)
    ∷ (string_prototype, codes "substring", 37)
    ∷ (string_prototype, codes "split", 38)
    ∷ (string_prototype, codes "trim", 39)
    ∷ (string_prototype, codes "toLowerCase", 40)
    ∷ (string_prototype, codes "toUpperCase", 41)
    ∷ (string_prototype, codes "replace", 42)
    ∷ (string_prototype, codes "concat", 43)
    ∷ (string_prototype, codes "toString", 44)
    ∷ (string_prototype, codes "valueOf", 45)
    ∷ (number_prototype, codes "toString", 47)
    ∷ (number_prototype, codes "valueOf", 48)
    ∷ (boolean_prototype, codes "toString", 50)
    ∷ (boolean_prototype, codes "valueOf", 51)
    ∷ (math_object, codes "abs", 52)
    ∷ (math_object, codes "floor", 53)
    ∷ (math_object, codes "max", 54)
    ∷ (math_object, codes "min", 55)
    ∷ (math_object, codes "pow", 56)
    ∷ (error_prototype, codes "toString", 63)
    ∷ (json_object, codes "parse", 64)
    ∷ (json_object, codes "stringify", 65)
    ∷ (console_object, codes "log", 66)
    ∷ (net_object, codes "get", 67)
    ∷ (net_object, codes "post", 68)
    ∷ (crom_object, codes "guess", 69)
    ∷ (crom_object, codes "forget", 70)
    ∷ (crom_object, codes "clock", 71)
    ∷ (document_cell, codes "getElementById", 74)
    ∷ (document_cell, codes "createElement", 75)
    ∷ (document_cell, codes "createTextNode", 76)
    ∷ (node_prototype, codes "appendChild", 77)
    ∷ (node_prototype, codes "insertBefore", 78)
    ∷ (node_prototype, codes "removeChild", 79)
    ∷ (node_prototype, codes "getAttribute", 80)
    ∷ (node_prototype, codes "setAttribute", 81)
    ∷ (node_prototype, codes "removeAttribute", 82)
    ∷ (node_prototype, codes "hasAttribute", 83)
    ∷ (node_prototype, codes "addEventListener", 84)
    ∷ (node_prototype, codes "removeEventListener", 85)
    ∷ (event_prototype, codes "preventDefault", 86)
    ∷ (event_prototype, codes "stopPropagation", 87)
    ∷ (event_prototype, codes "stopImmediatePropagation", 88)
    ∷ []

-- the functions that are constructors: each one's name, its number, and the prototype of what it makes
abbrev pub constructors : List (List ℕ × ℕ × CellName)
constructors =
    (codes "Object", 0, object_prototype)
    ∷ (codes "Array", 10, list_prototype)
    ∷ (codes "String", 30, string_prototype)
    ∷ (codes "Number", 46, number_prototype)
    ∷ (codes "Boolean", 49, boolean_prototype)
    ∷ (codes "Error", 58, error_prototype)
    ∷ (codes "TypeError", 59, type_error_prototype)
    ∷ (codes "RangeError", 60, range_error_prototype)
    ∷ (codes "ReferenceError", 61, reference_error_prototype)
    ∷ (codes "SyntaxError", 62, syntax_error_prototype)
    ∷ []

-- the functions that the global scope alone names
abbrev pub global_functions : List (List ℕ × ℕ)
global_functions = (codes "parseInt", 57) ∷ (codes "setTimeout", 72) ∷ (codes "clearTimeout", 73) ∷ []

-- the objects that the global scope names
abbrev pub global_objects : List (List ℕ × CellName)
global_objects =
    (codes "Math", math_object)
    ∷ (codes "JSON", json_object)
    ∷ (codes "console", console_object)
    ∷ (codes "net", net_object)
    ∷ (codes "crom", crom_object)
    ∷ (codes "document", document_cell)
    ∷ []

-- the prototypes of faults, and their names
abbrev pub fault_names : List (CellName × List ℕ)
fault_names =
    (error_prototype, codes "Error")
    ∷ (type_error_prototype, codes "TypeError")
    ∷ (range_error_prototype, codes "RangeError")
    ∷ (reference_error_prototype, codes "ReferenceError")
    ∷ (syntax_error_prototype, codes "SyntaxError")
    ∷ []

-- the objects whose prototype is that of objects, and those whose prototype is that of errors
abbrev pub plain_objects : List CellName
plain_objects =
    function_prototype ∷ list_prototype ∷ string_prototype ∷ number_prototype ∷ boolean_prototype ∷ error_prototype
    ∷ node_prototype ∷ event_prototype ∷ math_object ∷ json_object ∷ console_object ∷ net_object ∷ crom_object ∷ []

abbrev pub kinds_of_error : List CellName
kinds_of_error = type_error_prototype ∷ range_error_prototype ∷ reference_error_prototype ∷ syntax_error_prototype ∷ []
