-- What the operators' calls answer.
use Rattle.std.specs.Prelude.{◌≡◌, ◌⊎◌, ◌≤◌, ◌<◌, ◌+◌, Bool, true, false, ◌&&◌, ◌||◌, Result, Ok, Err, ⊤}
use Rattle.page_units.specs.Metered.{Metered, ticked}
use Rattle.page_units.specs.declared.operator.BinOp.{BinOp}
use Rattle.page_units.specs.declared.operator.BinOp.TheVariants as o
use Rattle.page_units.specs.declared.operator.UnOp.{UnOp}
use Rattle.page_units.specs.declared.operator.UnOp.TheVariants as u
use Rattle.page_units.specs.declared.value.Value.{Value}
use Rattle.page_units.specs.declared.value.Value.TheVariants as v
use Rattle.js_ops.specs.declared.fault.OpFault.{OpFault}
use Rattle.js_ops.specs.declared.fault.OpFault.TheVariants as f
use Rattle.js_ops.specs.Conversions.{is_primitive}
use Rattle.js_ops.specs.Operators.{Given, value, not_whole, too_long, is_nothing}

-- no object stands beside a text, a number or a truth value
abbrev pub suits_equal : Value → Value → Bool
suits_equal (v.Cell n) (v.Cell m) = true
suits_equal a b = (is_primitive a && is_primitive b) || is_nothing a || is_nothing b

-- The operands suit the operator: `===` and `!==` take any values; `==` and `!=` take no object beside a text, a number
-- or a truth value; `instanceof` and `in` aren't taken; all others take primitive values.
abbrev pub suits_binary : BinOp → Value → Value → Bool
suits_binary o.StrictEqual a b = true
suits_binary o.StrictNotEqual a b = true
suits_binary o.Equal a b = suits_equal a b
suits_binary o.NotEqual a b = suits_equal a b
suits_binary o.InstanceOf a b = false
suits_binary o.In a b = false
suits_binary _ a b = is_primitive a && is_primitive b

-- `!` and `void` take any value, `delete` isn't taken, and all others take a primitive value
abbrev pub suits_unary : UnOp → Value → Bool
suits_unary u.Delete a = false
suits_unary u.Not a = true
suits_unary u.Void a = true
suits_unary _ a = is_primitive a

-- What is answered, and the meter then: the value where its steps stay within the bound, and else Steps; a refusal
-- leaves the meter as it was. Out of memory may come for any operands; the meter is then as it was, or has counted just
-- the steps of the value.
abbrev pub Answers : Given → Result Value OpFault → (old new : Metered) → Type 0
Answers (value steps x) (Ok y) old new = (y ≡ x) × (old.used + steps ≤ old.bound) × (new ≡ ticked steps old)
Answers (value steps x) (Err f.Steps) old new = (old.bound < old.used + steps) × (new ≡ old)
Answers not_whole (Err f.NotWhole) old new = new ≡ old
Answers too_long (Err f.TooLong) old new = new ≡ old
Answers (value steps x) (Err f.NoMemory) old new = (new ≡ old) ⊎ ((old.used + steps ≤ old.bound) × (new ≡ ticked steps old))
Answers not_whole (Err f.NoMemory) old new = new ≡ old
Answers too_long (Err f.NoMemory) old new = new ≡ old
Answers _ _ old new = ⊥

-- the same where no steps are counted
abbrev pub AnswersFree : Given → Result Value OpFault → Type 0
AnswersFree (value steps x) (Ok y) = y ≡ x
AnswersFree not_whole (Err f.NotWhole) = ⊤
AnswersFree _ (Err f.NoMemory) = ⊤
AnswersFree _ _ = ⊥
