-- What is given, by what its parts say.
use Rattle.std.proofs.Common.{◌≡◌, ℕ, zero, suc, Bool, not, Some, None, Result, Ok, Err, ℤ, refl, sym, ap}
use Rattle.page_units.specs.Metered.{Metered}
use Rattle.page_units.specs.declared.value.Value.{Value}
use Rattle.page_units.specs.declared.value.Value.TheVariants as v
use Rattle.js_ops.specs.declared.fault.OpFault.{OpFault}
use Rattle.js_ops.specs.declared.fault.OpFault.TheVariants as f
use Rattle.js_ops.specs.declared.numbers.NumberOf.{NumberOf}
use Rattle.js_ops.specs.declared.numbers.NumberOf.TheVariants.{Num, NoNumber, Outside}
use Rattle.js_ops.specs.Answers.{Answers}
use Rattle.js_ops.specs.Operators.{Given, value, not_whole, too_long, with_numbers, negated}
use Rattle.js_ops.specs.Parts.{GivesNumber, number_or_fault, truth_value, inverted}

pub given_number : (g : Given) (z : ℤ) → GivesNumber g (Some z) → g ≡ value 0 (v.Num z)
given_number (value zero (v.Num x)) z e = ap (λ y. value 0 (v.Num y)) (sym e)
given_number (value zero v.Undefined) z e = elim e [ ]
given_number (value zero v.Null) z e = elim e [ ]
given_number (value zero (v.Bool x)) z e = elim e [ ]
given_number (value zero (v.Str x)) z e = elim e [ ]
given_number (value zero (v.Cell x)) z e = elim e [ ]
given_number (value (suc n) x) z e = elim e [ ]
given_number not_whole z e = elim e [ ]
given_number too_long z e = elim e [ ]

pub given_none : (g : Given) → GivesNumber g None → g ≡ not_whole
given_none not_whole e = refl
given_none (value zero v.Undefined) e = elim e [ ]
given_none (value zero v.Null) e = elim e [ ]
given_none (value zero (v.Bool x)) e = elim e [ ]
given_none (value zero (v.Num x)) e = elim e [ ]
given_none (value zero (v.Str x)) e = elim e [ ]
given_none (value zero (v.Cell x)) e = elim e [ ]
given_none (value (suc n) x) e = elim e [ ]
given_none too_long e = elim e [ ]

-- an operator on two values that have numbers
pub on_numbers_is : (m n : NumberOf) (f : ℤ → ℤ → Given) (x y : ℤ) → Ok x ≡ number_or_fault m → Ok y ≡ number_or_fault n → with_numbers m n f ≡ f x y
on_numbers_is (Num x') (Num y') f x y e k = let p : x' ≡ x = cc in let q : y' ≡ y = cc in cc
on_numbers_is (Num x') NoNumber f x y e k = absurd (cc)
on_numbers_is (Num x') Outside f x y e k = absurd (cc)
on_numbers_is NoNumber n f x y e k = absurd (cc)
on_numbers_is Outside n f x y e k = absurd (cc)

-- a refusal says nothing of the value
refused : (steps : ℕ) (x y : Value) (fault : OpFault) (old new : Metered) → Answers (value steps x) (Err fault) old new → Answers (value steps y) (Err fault) old new
refused steps x y f.NotWhole old new h = h
refused steps x y f.TooLong old new h = h
refused steps x y f.Steps old new h = h
refused steps x y f.NoMemory old new h = h

-- the other truth value
pub negated_answers : (g : Given) (r : Result Bool OpFault) (old new : Metered) → Answers g (truth_value r) old new → Answers (negated g) (truth_value (inverted r)) old new
negated_answers (value steps (v.Bool b)) (Ok t) old new (e, fits, moved) = (let same : t ≡ b = cc in ap (λ x. v.Bool (not x)) same, fits, moved)
negated_answers (value steps v.Undefined) (Ok t) old new (e, fits, moved) = absurd (cc)
negated_answers (value steps v.Null) (Ok t) old new (e, fits, moved) = absurd (cc)
negated_answers (value steps (v.Num z)) (Ok t) old new (e, fits, moved) = absurd (cc)
negated_answers (value steps (v.Str us)) (Ok t) old new (e, fits, moved) = absurd (cc)
negated_answers (value steps (v.Cell n)) (Ok t) old new (e, fits, moved) = absurd (cc)
negated_answers not_whole (Ok t) old new h = h
negated_answers too_long (Ok t) old new h = h
negated_answers (value steps (v.Bool b)) (Err fault) old new h = refused steps (v.Bool b) (v.Bool (not b)) fault old new h
negated_answers (value steps v.Undefined) (Err fault) old new h = h
negated_answers (value steps v.Null) (Err fault) old new h = h
negated_answers (value steps (v.Num z)) (Err fault) old new h = h
negated_answers (value steps (v.Str us)) (Err fault) old new h = h
negated_answers (value steps (v.Cell n)) (Err fault) old new h = h
negated_answers not_whole (Err fault) old new h = h
negated_answers too_long (Err fault) old new h = h
