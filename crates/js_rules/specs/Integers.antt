-- Numbers among the arguments of built-in functions (ECMA-262 5.1, 9.3 and 9.4), with whole numbers alone (this
-- project's own).
use Rattle.std.specs.Prelude.{ℤ, pos, List, [], ◌∷◌, Option, Some, None}
use Rattle.page_units.specs.declared.value.Value.{Value}
use Rattle.js_ops.specs.declared.numbers.NumberOf.{NumberOf as AsNumber}
use Rattle.js_ops.specs.declared.numbers.NumberOf.TheVariants as num
use Rattle.js_ops.specs.Conversions.{number as number_of}
use Rattle.js_rules.specs.Arguments.{number_in}
use Rattle.js_rules.specs.ListItems.{answers}
use Rattle.js_rules.specs.Tasks.{Numbers, Integers, Outcomes, NumberOf, ToInteger, AllNumbers, AllIntegers}
use Rattle.js_rules.specs.Prog.{Prog, Ret, ◌>>=◌, part, no_whole_number, number}

-- ---- numbers of arguments

-- ToInteger (9.4) of a primitive value: what is no number counts as `otherwise`
abbrev pub integer : ℤ → AsNumber → Prog Numbers
integer otherwise (num.Num z) = Ret z
integer otherwise num.NoNumber = Ret otherwise
integer otherwise num.Outside = no_whole_number

abbrev pub to_integer : ℤ → Value → Prog Numbers
to_integer otherwise x = integer otherwise (number_of x)

abbrev pub all_integers : List Value → Prog Integers
all_integers [] = Ret []
all_integers (x ∷ more) = do
  z ← part (ToInteger (pos 0) x)
  zs ← part (AllIntegers more)
  Ret (z ∷ zs)

-- numbers that must be there
abbrev pub all_numbers : List Value → Prog Integers
all_numbers [] = Ret []
all_numbers (x ∷ more) = do
  z ← part (NumberOf x)
  zs ← part (AllNumbers more)
  Ret (number_in z ∷ zs)

abbrev pub whole : ℤ → Prog Outcomes
whole z = answers (number z)

abbrev pub whole_or : Option ℤ → Prog Outcomes
whole_or None = no_whole_number
whole_or (Some z) = whole z
