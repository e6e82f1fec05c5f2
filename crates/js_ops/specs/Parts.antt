-- What the parts of the operators give, in the operators' own terms (this project's own).
use Rattle.std.specs.Prelude.{◌≡◌, ℕ, zero, Bool, not, Option, Some, None, Result, Ok, Err, ⊤, List, ℤ, pos, ◌+ℤ◌, ◌-ℤ◌, ◌*ℤ◌, ◌*◌, ◌/◌, ◌%◌, ◌^◌, bit_and, bit_or, bit_xor}
use Rattle.std.specs.declared.cmp.Ordering.{Ordering}
use Rattle.std.specs.Ordering.{int_cmp, is_eq, is_lt, is_gt, is_le, is_ge}
use Rattle.page_units.specs.declared.value.Value.{Value}
use Rattle.page_units.specs.declared.value.Value.TheVariants as v
use Rattle.page_units.specs.Texts.{text_cmp}
use Rattle.js_ops.specs.declared.arithmetic.NumberOp.{NumberOp}
use Rattle.js_ops.specs.declared.arithmetic.NumberOp.TheVariants as n
use Rattle.js_ops.specs.declared.comparisons.Relation.{Relation}
use Rattle.js_ops.specs.declared.comparisons.Relation.TheVariants as r
use Rattle.js_ops.specs.declared.fault.OpFault.{OpFault}
use Rattle.js_ops.specs.declared.fault.OpFault.TheVariants as f
use Rattle.js_ops.specs.declared.numbers.NumberOf.{NumberOf}
use Rattle.js_ops.specs.declared.numbers.NumberOf.TheVariants.{Num}
use Rattle.js_ops.specs.Whole.{to_uint32, signed, to_int32, shift_count, shifted_right}
use Rattle.js_ops.specs.Operators.{Given, value, not_whole, free, whole, quotient, rest, bits}

-- the number of what costs no steps, and None where it is not whole
abbrev pub GivesNumber : Given → Option ℤ → Type 0
GivesNumber (value zero (v.Num x)) (Some y) = y ≡ x
GivesNumber not_whole None = ⊤
GivesNumber _ _ = ⊥

-- the truth of what costs no steps, and NotWhole where it is not whole
abbrev pub GivesTruth : Given → Result Bool OpFault → Type 0
GivesTruth (value zero (v.Bool x)) (Ok y) = y ≡ x
GivesTruth not_whole (Err f.NotWhole) = ⊤
GivesTruth _ _ = ⊥

-- a number, or NotWhole
abbrev pub number_or_fault : NumberOf → Result ℤ OpFault
number_or_fault (Num x) = Ok x
number_or_fault _ = Err f.NotWhole

-- a truth value as a value
abbrev pub truth_value : Result Bool OpFault → Result Value OpFault
truth_value (Ok b) = Ok (v.Bool b)
truth_value (Err fault) = Err fault

-- whether things in this order stand in this relation
abbrev pub holds : Relation → Ordering → Bool
holds r.Equal order = is_eq order
holds r.Less order = is_lt order
holds r.Greater order = is_gt order
holds r.LessEqual order = is_le order
holds r.GreaterEqual order = is_ge order

-- whether two texts stand in this relation by their units, and two numbers by their size
abbrev pub texts_stand : Relation → List ℕ → List ℕ → Bool
texts_stand relation x y = holds relation (text_cmp x y)

abbrev pub numbers_stand : Relation → ℤ → ℤ → Bool
numbers_stand relation x y = holds relation (int_cmp x y)

-- what an operator on numbers gives
abbrev pub number_op : NumberOp → ℤ → ℤ → Given
number_op n.BitOr x y = bits bit_or x y
number_op n.BitXor x y = bits bit_xor x y
number_op n.BitAnd x y = bits bit_and x y
number_op n.ShiftLeft x y = free (v.Num (signed ((to_uint32 x * 2 ^ shift_count y) % 2 ^ 32)))
number_op n.ShiftRight x y = free (v.Num (shifted_right (to_int32 x) (shift_count y)))
number_op n.ShiftRightUnsigned x y = free (v.Num (pos (to_uint32 x / 2 ^ shift_count y)))
number_op n.Add x y = whole (x +ℤ y)
number_op n.Subtract x y = whole (x -ℤ y)
number_op n.Multiply x y = whole (x *ℤ y)
number_op n.Divide x y = quotient x y
number_op n.Remainder x y = rest x y

-- the other truth value
abbrev pub inverted : Result Bool OpFault → Result Bool OpFault
inverted (Ok b) = Ok (not b)
inverted (Err fault) = Err fault
