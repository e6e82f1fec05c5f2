-- Conversions of values (ECMA-262 5.1, 9.2, 9.3 and 9.8), with whole numbers alone (this project's own).
use Rattle.std.specs.Prelude.{ℕ, Bool, true, false, not, cond, ◌==◌, List, [], length, pos, negsuc, codes}
use Rattle.page_units.specs.Digits.{digits}
use Rattle.page_units.specs.declared.value.Value.{Value}
use Rattle.page_units.specs.declared.value.Value.TheVariants as v
use Rattle.js_ops.specs.declared.numbers.NumberOf.{NumberOf}
use Rattle.js_ops.specs.declared.numbers.NumberOf.TheVariants.{Num, NoNumber}
use Rattle.js_ops.specs.TextNumbers.{number_of_text}

-- no object
abbrev pub is_primitive : Value → Bool
is_primitive (v.Cell n) = false
is_primitive _ = true

-- the truth value of a value (9.2)
abbrev pub truth : Value → Bool
truth v.Undefined = false
truth v.Null = false
truth (v.Bool b) = b
truth (v.Num (pos n)) = not (n == 0)
truth (v.Num (negsuc n)) = true
truth (v.Str units) = not (length units == 0)
truth (v.Cell n) = true

-- the number of a primitive value (9.3); an object has none
abbrev pub number : Value → NumberOf
number v.Undefined = NoNumber
number v.Null = Num (pos 0)
number (v.Bool b) = Num (cond b (pos 1) (pos 0))
number (v.Num z) = Num z
number (v.Str units) = number_of_text units
number (v.Cell n) = NoNumber

-- the text of a primitive value (9.8); an object has none
abbrev pub text : Value → List ℕ
text v.Undefined = codes "undefined"
text v.Null = codes "null"
text (v.Bool b) = cond b (codes "true") (codes "false")
text (v.Num z) = digits z
text (v.Str units) = units
text (v.Cell n) = []

-- what `typeof` gives of a primitive value (11.4.3)
abbrev pub type_name : Value → List ℕ
type_name v.Undefined = codes "undefined"
type_name v.Null = codes "object"
type_name (v.Bool b) = codes "boolean"
type_name (v.Num z) = codes "number"
type_name (v.Str units) = codes "string"
type_name (v.Cell n) = []
