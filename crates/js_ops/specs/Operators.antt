-- What the operators give (ECMA-262 5.1, 11.4 to 11.10), with whole numbers alone (this project's own): a value and the
-- steps that it costs, or why there is none.
use Rattle.std.specs.Prelude.{ℕ, ◌+◌, ◌-◌, ◌*◌, ◌/◌, ◌%◌, ◌^◌, min, Bool, true, false, not, ◌&&◌, ◌||◌, cond, ◌==◌, nat_lt, nat_le, nat_eq, List, [], ◌∷◌, ◌++◌, length, ℤ, pos, negsuc, ◌+ℤ◌, ◌-ℤ◌, ◌*ℤ◌, neg_ℤ, int_lt, int_le, int_div, int_rem, bit_and, bit_or, bit_xor}
use Rattle.std.specs.Str.{bytes_eq}
use Rattle.page_units.specs.declared.operator.BinOp.{BinOp}
use Rattle.page_units.specs.declared.operator.BinOp.TheVariants as o
use Rattle.page_units.specs.declared.operator.UnOp.{UnOp}
use Rattle.page_units.specs.declared.operator.UnOp.TheVariants as u
use Rattle.page_units.specs.declared.value.Value.{Value}
use Rattle.page_units.specs.declared.value.Value.TheVariants as v
use Rattle.page_units.specs.Texts.{longest_text}
use Rattle.js_ops.specs.declared.numbers.NumberOf.{NumberOf}
use Rattle.js_ops.specs.declared.numbers.NumberOf.TheVariants.{Num, Outside}
use Rattle.js_ops.specs.Whole.{is_in_range, to_uint32, signed, to_int32, shift_count, shifted_right}
use Rattle.js_ops.specs.Conversions.{truth, number, text, type_name}

-- a value and the steps that it costs; a result that is no whole number in range; a text that would be too long
pub data Given : Type 0 where
  value : (steps : ℕ) → Value → Given
  not_whole : Given
  too_long : Given

abbrev pub free : Value → Given
free x = value 0 x

abbrev pub bool : Bool → Given
bool b = free (v.Bool b)

-- a whole number in range
abbrev pub whole : ℤ → Given
whole z = cond (is_in_range z) (free (v.Num z)) not_whole

-- ---- numbers (11.5, 11.6.2, 11.6.3, 11.7, 11.10)

-- both operands as numbers
abbrev pub with_numbers : NumberOf → NumberOf → (ℤ → ℤ → Given) → Given
with_numbers (Num x) (Num y) f = f x y
with_numbers _ _ f = not_whole

abbrev pub on_numbers : Value → Value → (ℤ → ℤ → Given) → Given
on_numbers a b f = with_numbers (number a) (number b) f

abbrev pub is_zero : ℤ → Bool
is_zero (pos n) = n == 0
is_zero (negsuc n) = false

-- a quotient without rest (11.5.2)
abbrev pub quotient : ℤ → ℤ → Given
quotient x y = cond (is_zero y) not_whole (cond (is_zero (int_rem x y)) (whole (int_div x y)) not_whole)

-- the rest of a division, with the dividend's sign (11.5.3)
abbrev pub rest : ℤ → ℤ → Given
rest x y = cond (is_zero y) not_whole (whole (int_rem x y))

-- bits of two numbers of 32 bits, as a signed number (11.10)
abbrev pub bits : (ℕ → ℕ → ℕ) → ℤ → ℤ → Given
bits f x y = free (v.Num (signed (f (to_uint32 x) (to_uint32 y))))

-- ---- texts

-- how many texts' units a step compares or joins
abbrev pub units_a_step : ℕ
units_a_step = 16

abbrev pub is_text : Value → Bool
is_text (v.Str units) = true
is_text _ = false

-- two texts joined, which may not be longer than a text (11.6.1)
abbrev pub joined : List ℕ → List ℕ → Given
joined x y = cond (nat_le (length x + length y) longest_text) (value ((length x + length y) / units_a_step) (v.Str (x ++ y))) too_long

-- the steps of comparing two texts: those of the shorter one
abbrev pub comparing : List ℕ → List ℕ → ℕ
comparing x y = min (length x) (length y) / units_a_step

-- ---- comparisons (11.8, 11.9)

-- x stands before y by its units (11.8.5)
abbrev pub units_before : List ℕ → List ℕ → Bool
units_before xs [] = false
units_before [] (y ∷ ys) = true
units_before (x ∷ xs) (y ∷ ys) = cond (x == y) (units_before xs ys) (nat_lt x y)

-- numbers compared: where one is outside there is no answer, and where one isn't there the answer is false
abbrev pub numbers_compared : NumberOf → NumberOf → (ℤ → ℤ → Bool) → Given
numbers_compared Outside y f = not_whole
numbers_compared x Outside f = not_whole
numbers_compared (Num x) (Num y) f = bool (f x y)
numbers_compared x y f = bool false

-- two texts by their units, and all else as numbers
abbrev pub compared : Value → Value → (List ℕ → List ℕ → Bool) → (ℤ → ℤ → Bool) → Given
compared (v.Str x) (v.Str y) texts numbers = value (comparing x y) (v.Bool (texts x y))
compared a b texts numbers = numbers_compared (number a) (number b) numbers

abbrev pub int_eq : ℤ → ℤ → Bool
int_eq x y = int_le x y && int_le y x

-- undefined and null
abbrev pub is_nothing : Value → Bool
is_nothing v.Undefined = true
is_nothing v.Null = true
is_nothing _ = false

-- `===` (11.9.6)
abbrev pub strictly_equal : Value → Value → Given
strictly_equal v.Undefined v.Undefined = bool true
strictly_equal v.Null v.Null = bool true
strictly_equal (v.Bool true) (v.Bool true) = bool true
strictly_equal (v.Bool false) (v.Bool false) = bool true
strictly_equal (v.Num x) (v.Num y) = bool (int_eq x y)
strictly_equal (v.Str x) (v.Str y) = value (comparing x y) (v.Bool (bytes_eq x y))
strictly_equal (v.Cell x) (v.Cell y) = bool (nat_eq x.0 y.0)
strictly_equal _ _ = bool false

-- `==` (11.9.3) of values that are no objects, or both objects, or an object and undefined or null
abbrev pub equal_somehow : Value → Value → Given
equal_somehow (v.Cell x) (v.Cell y) = bool (nat_eq x.0 y.0)
equal_somehow a b = compared a b bytes_eq int_eq

abbrev pub equal : Value → Value → Given
equal a b = cond (is_nothing a || is_nothing b) (bool (is_nothing a && is_nothing b)) (equal_somehow a b)

-- the other truth value
abbrev pub negated : Given → Given
negated (value steps (v.Bool b)) = value steps (v.Bool (not b))
negated given = given

-- ---- the tables

-- an operator with two operands; `instanceof` and `in` are none of these
abbrev pub binary : BinOp → Value → Value → Given
binary o.BitOr a b = on_numbers a b (bits bit_or)
binary o.BitXor a b = on_numbers a b (bits bit_xor)
binary o.BitAnd a b = on_numbers a b (bits bit_and)
binary o.Equal a b = equal a b
binary o.NotEqual a b = negated (equal a b)
binary o.StrictEqual a b = strictly_equal a b
binary o.StrictNotEqual a b = negated (strictly_equal a b)
binary o.Less a b = compared a b units_before int_lt
binary o.Greater a b = compared a b (λ x y. units_before y x) (λ x y. int_lt y x)
binary o.LessEqual a b = compared a b (λ x y. not (units_before y x)) int_le
binary o.GreaterEqual a b = compared a b (λ x y. not (units_before x y)) (λ x y. int_le y x)
binary o.InstanceOf a b = not_whole
binary o.In a b = not_whole
binary o.ShiftLeft a b = on_numbers a b (λ x y. free (v.Num (signed ((to_uint32 x * 2 ^ shift_count y) % 2 ^ 32))))
binary o.ShiftRight a b = on_numbers a b (λ x y. free (v.Num (shifted_right (to_int32 x) (shift_count y))))
binary o.ShiftRightUnsigned a b = on_numbers a b (λ x y. free (v.Num (pos (to_uint32 x / 2 ^ shift_count y))))
binary o.Add a b = cond (is_text a || is_text b) (joined (text a) (text b)) (on_numbers a b (λ x y. whole (x +ℤ y)))
binary o.Subtract a b = on_numbers a b (λ x y. whole (x -ℤ y))
binary o.Multiply a b = on_numbers a b (λ x y. whole (x *ℤ y))
binary o.Divide a b = on_numbers a b quotient
binary o.Remainder a b = on_numbers a b rest

-- the operand as a number
abbrev pub with_number : NumberOf → (ℤ → Given) → Given
with_number (Num x) f = f x
with_number _ f = not_whole

-- an operator with one operand; `delete` is none of these
abbrev pub unary : UnOp → Value → Given
unary u.Delete a = not_whole
unary u.Void a = free v.Undefined
unary u.TypeOf a = free (v.Str (type_name a))
unary u.Plus a = with_number (number a) whole
unary u.Minus a = with_number (number a) (λ x. whole (neg_ℤ x))
unary u.BitNot a = with_number (number a) (λ x. free (v.Num (signed (2 ^ 32 - 1 - to_uint32 x))))
unary u.Not a = bool (not (truth a))
