-- The built-in functions of numbers and truth values, and Math (ECMA-262 5.1, 15.1.2.2 and 15.6 to 15.8), with whole
-- numbers alone (this project's own).
use Rattle.std.specs.Prelude.{ℤ, pos, int_lt, nat_abs, Bool, List, [], ◌∷◌, if◌then◌else◌}
use Rattle.page_units.specs.declared.value.Value.{Value}
use Rattle.page_units.specs.declared.value.Value.TheVariants as v
use Rattle.js_ops.specs.Conversions.{text as text_of}
use Rattle.js_rules.specs.Arguments.{arg, text_in, number_in}
use Rattle.js_rules.specs.ListItems.{answers}
use Rattle.js_rules.specs.Tasks.{Outcomes, made, NumberOf, ToInteger, AllNumbers}
use Rattle.js_rules.specs.Prog.{Prog, Ret, ◌>>=◌, part, bad_argument, no_whole_number}
use Rattle.js_rules.specs.Integers.{whole, whole_or}
use Rattle.js_rules.specs.Numbers.{parsed, whole_power}

-- ---- Number, Boolean, Math (15.6 to 15.8)

-- Number (15.7.1)
abbrev pub number_from : List Value → Prog Outcomes
number_from [] = whole (pos 0)
number_from (x ∷ more) = do
  y ← part (NumberOf x)
  answers y

abbrev pub own_number : Value → Prog Outcomes
own_number (v.Num z) = whole z
own_number _ = bad_argument

-- toString (15.7.4.2)
abbrev pub number_to_string : Value → Prog Outcomes
number_to_string (v.Num z) = Ret (made (text_of (v.Num z)))
number_to_string _ = bad_argument

abbrev pub own_truth : Value → Prog Outcomes
own_truth (v.Bool b) = answers (v.Bool b)
own_truth _ = bad_argument

-- toString (15.6.4.2)
abbrev pub boolean_to_string : Value → Prog Outcomes
boolean_to_string (v.Bool b) = Ret (made (text_of (v.Bool b)))
boolean_to_string _ = bad_argument

-- abs (15.8.2.1)
abbrev pub absolute : List Value → Prog Outcomes
absolute args = do
  x ← part (NumberOf (arg 0 args))
  whole (pos (nat_abs (number_in x)))

-- floor (15.8.2.9)
abbrev pub floor_of : List Value → Prog Outcomes
floor_of args = do
  x ← part (NumberOf (arg 0 args))
  answers x

-- the first of the numbers before which none stands
abbrev pub extreme : (ℤ → ℤ → Bool) → ℤ → List ℤ → ℤ
extreme before z [] = z
extreme before z (y ∷ more) = extreme before (if before y z then y else z) more

abbrev pub extreme_of : (ℤ → ℤ → Bool) → List ℤ → Prog Outcomes
extreme_of before [] = no_whole_number
extreme_of before (z ∷ more) = whole (extreme before z more)

-- max (15.8.2.11)
abbrev pub greatest : List Value → Prog Outcomes
greatest args = do
  zs ← part (AllNumbers args)
  extreme_of (λ x y. int_lt y x) zs

-- min (15.8.2.12)
abbrev pub least : List Value → Prog Outcomes
least args = do
  zs ← part (AllNumbers args)
  extreme_of int_lt zs

-- pow (15.8.2.13)
abbrev pub power : List Value → Prog Outcomes
power args = do
  x ← part (NumberOf (arg 0 args))
  y ← part (NumberOf (arg 1 args))
  whole_or (whole_power (number_in x) (number_in y))

-- parseInt (15.1.2.2)
abbrev pub parse_int : List Value → Prog Outcomes
parse_int args = do
  z ← part (ToInteger (pos 0) (arg 1 args))
  whole_or (parsed (text_in (arg 0 args)) z)
