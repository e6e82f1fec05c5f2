-- Laws of the comparisons and of 32 bits.
use Rattle.std.proofs.Common.{◌≡◌, ℕ, ◌/◌, ◌%◌, ◌-◌, ◌^◌, ◌<◌, ◌≤◌, ◌-ℤ◌, inl, inr, ◌⊎◌, min, Bool, true, false, ◌&&◌, List, [], ◌∷◌, length, ℤ, pos, negsuc, nat_eq, refl, ap, ◌∙◌, arith}
use Rattle.std.specs.Prelude.{int_le}
use Rattle.std.proofs.lemmas.Bool.{lt-ltb, le-ltb, cases_lt}
use Rattle.std.proofs.lemmas.Bool.Decides.{nat_tests}
use Rattle.std.proofs.lemmas.Int.{ints}
use Rattle.std.specs.Str.{bytes_eq}
use Rattle.page_units.specs.declared.value.Value.{Value}
use Rattle.page_units.specs.declared.value.Value.TheVariants as v
use Rattle.js_ops.specs.declared.numbers.NumberOf.{NumberOf}
use Rattle.js_ops.specs.declared.numbers.NumberOf.TheVariants.{Num, NoNumber, Outside}
use Rattle.js_ops.specs.Conversions.{number}
use Rattle.js_ops.specs.Whole.{to_uint32, to_int32, signed}
use Rattle.js_ops.specs.Operators.{value, bool, comparing, int_eq, numbers_compared, equal, strictly_equal}

bytes_eq-sym : (xs ys : List ℕ) → bytes_eq xs ys ≡ bytes_eq ys xs
bytes_eq-sym [] [] = refl
bytes_eq-sym [] (y ∷ ys) = refl
bytes_eq-sym (x ∷ xs) [] = refl
bytes_eq-sym (x ∷ xs) (y ∷ ys) = let rest = bytes_eq-sym xs ys in grind (arith, nat_tests, rest)

nat_eq-sym : (m n : ℕ) → nat_eq m n ≡ nat_eq n m
nat_eq-sym m n = grind (arith, nat_tests)

and-sym : (p q : Bool) → (p && q) ≡ (q && p)
and-sym true true = refl
and-sym true false = refl
and-sym false true = refl
and-sym false false = refl

numbers-sym : (m n : NumberOf) → numbers_compared m n int_eq ≡ numbers_compared n m int_eq
numbers-sym (Num x) (Num y) = ap bool (and-sym (int_le x y) (int_le y x))
numbers-sym (Num x) NoNumber = refl
numbers-sym (Num x) Outside = refl
numbers-sym NoNumber (Num y) = refl
numbers-sym NoNumber NoNumber = refl
numbers-sym NoNumber Outside = refl
numbers-sym Outside (Num y) = refl
numbers-sym Outside NoNumber = refl
numbers-sym Outside Outside = refl

texts-sym : (x y : List ℕ) → value (comparing x y) (v.Bool (bytes_eq x y)) ≡ value (comparing y x) (v.Bool (bytes_eq y x))
texts-sym x y =
    let steps : min (length x) (length y) ≡ min (length y) (length x) = omega arith in
    ap (λ n. value (n / 16) (v.Bool (bytes_eq x y))) steps ∙ ap (λ t. value (comparing y x) (v.Bool t)) (bytes_eq-sym x y)

-- `a == b` is `b == a`, at the same steps
pub equal-sym : (a b : Value) → equal a b ≡ equal b a
equal-sym v.Undefined v.Undefined = refl
equal-sym v.Undefined v.Null = refl
equal-sym v.Undefined (v.Bool y) = refl
equal-sym v.Undefined (v.Num y) = refl
equal-sym v.Undefined (v.Str y) = refl
equal-sym v.Undefined (v.Cell y) = refl
equal-sym v.Null v.Undefined = refl
equal-sym v.Null v.Null = refl
equal-sym v.Null (v.Bool y) = refl
equal-sym v.Null (v.Num y) = refl
equal-sym v.Null (v.Str y) = refl
equal-sym v.Null (v.Cell y) = refl
equal-sym (v.Bool x) v.Undefined = refl
equal-sym (v.Bool x) v.Null = refl
equal-sym (v.Bool x) (v.Bool y) = numbers-sym (number (v.Bool x)) (number (v.Bool y))
equal-sym (v.Bool x) (v.Num y) = numbers-sym (number (v.Bool x)) (number (v.Num y))
equal-sym (v.Bool x) (v.Str y) = numbers-sym (number (v.Bool x)) (number (v.Str y))
equal-sym (v.Bool x) (v.Cell y) = numbers-sym (number (v.Bool x)) (number (v.Cell y))
equal-sym (v.Num x) v.Undefined = refl
equal-sym (v.Num x) v.Null = refl
equal-sym (v.Num x) (v.Bool y) = numbers-sym (number (v.Num x)) (number (v.Bool y))
equal-sym (v.Num x) (v.Num y) = numbers-sym (number (v.Num x)) (number (v.Num y))
equal-sym (v.Num x) (v.Str y) = numbers-sym (number (v.Num x)) (number (v.Str y))
equal-sym (v.Num x) (v.Cell y) = numbers-sym (number (v.Num x)) (number (v.Cell y))
equal-sym (v.Str x) v.Undefined = refl
equal-sym (v.Str x) v.Null = refl
equal-sym (v.Str x) (v.Bool y) = numbers-sym (number (v.Str x)) (number (v.Bool y))
equal-sym (v.Str x) (v.Num y) = numbers-sym (number (v.Str x)) (number (v.Num y))
equal-sym (v.Str x) (v.Str y) = texts-sym x y
equal-sym (v.Str x) (v.Cell y) = numbers-sym (number (v.Str x)) (number (v.Cell y))
equal-sym (v.Cell x) v.Undefined = refl
equal-sym (v.Cell x) v.Null = refl
equal-sym (v.Cell x) (v.Bool y) = numbers-sym (number (v.Cell x)) (number (v.Bool y))
equal-sym (v.Cell x) (v.Num y) = numbers-sym (number (v.Cell x)) (number (v.Num y))
equal-sym (v.Cell x) (v.Str y) = numbers-sym (number (v.Cell x)) (number (v.Str y))
equal-sym (v.Cell x) (v.Cell y) = ap bool (nat_eq-sym x.0 y.0)

-- what is equal by `===` is equal by `==`, at the same steps
pub equal-strictly : (a b : Value) (steps : ℕ) → strictly_equal a b ≡ value steps (v.Bool true) → equal a b ≡ value steps (v.Bool true)
equal-strictly v.Undefined v.Undefined steps e = e
equal-strictly v.Undefined v.Null steps e = absurd (cc)
equal-strictly v.Undefined (v.Bool true) steps e = absurd (cc)
equal-strictly v.Undefined (v.Bool false) steps e = absurd (cc)
equal-strictly v.Undefined (v.Num y) steps e = absurd (cc)
equal-strictly v.Undefined (v.Str y) steps e = absurd (cc)
equal-strictly v.Undefined (v.Cell y) steps e = absurd (cc)
equal-strictly v.Null v.Undefined steps e = absurd (cc)
equal-strictly v.Null v.Null steps e = e
equal-strictly v.Null (v.Bool true) steps e = absurd (cc)
equal-strictly v.Null (v.Bool false) steps e = absurd (cc)
equal-strictly v.Null (v.Num y) steps e = absurd (cc)
equal-strictly v.Null (v.Str y) steps e = absurd (cc)
equal-strictly v.Null (v.Cell y) steps e = absurd (cc)
equal-strictly (v.Bool true) v.Undefined steps e = absurd (cc)
equal-strictly (v.Bool false) v.Undefined steps e = absurd (cc)
equal-strictly (v.Bool true) v.Null steps e = absurd (cc)
equal-strictly (v.Bool false) v.Null steps e = absurd (cc)
equal-strictly (v.Bool true) (v.Bool true) steps e = e
equal-strictly (v.Bool true) (v.Bool false) steps e = absurd (cc)
equal-strictly (v.Bool false) (v.Bool true) steps e = absurd (cc)
equal-strictly (v.Bool false) (v.Bool false) steps e = e
equal-strictly (v.Bool true) (v.Num y) steps e = absurd (cc)
equal-strictly (v.Bool false) (v.Num y) steps e = absurd (cc)
equal-strictly (v.Bool true) (v.Str y) steps e = absurd (cc)
equal-strictly (v.Bool false) (v.Str y) steps e = absurd (cc)
equal-strictly (v.Bool true) (v.Cell y) steps e = absurd (cc)
equal-strictly (v.Bool false) (v.Cell y) steps e = absurd (cc)
equal-strictly (v.Num x) v.Undefined steps e = absurd (cc)
equal-strictly (v.Num x) v.Null steps e = absurd (cc)
equal-strictly (v.Num x) (v.Bool true) steps e = absurd (cc)
equal-strictly (v.Num x) (v.Bool false) steps e = absurd (cc)
equal-strictly (v.Num x) (v.Num y) steps e = e
equal-strictly (v.Num x) (v.Str y) steps e = absurd (cc)
equal-strictly (v.Num x) (v.Cell y) steps e = absurd (cc)
equal-strictly (v.Str x) v.Undefined steps e = absurd (cc)
equal-strictly (v.Str x) v.Null steps e = absurd (cc)
equal-strictly (v.Str x) (v.Bool true) steps e = absurd (cc)
equal-strictly (v.Str x) (v.Bool false) steps e = absurd (cc)
equal-strictly (v.Str x) (v.Num y) steps e = absurd (cc)
equal-strictly (v.Str x) (v.Str y) steps e = e
equal-strictly (v.Str x) (v.Cell y) steps e = absurd (cc)
equal-strictly (v.Cell x) v.Undefined steps e = absurd (cc)
equal-strictly (v.Cell x) v.Null steps e = absurd (cc)
equal-strictly (v.Cell x) (v.Bool true) steps e = absurd (cc)
equal-strictly (v.Cell x) (v.Bool false) steps e = absurd (cc)
equal-strictly (v.Cell x) (v.Num y) steps e = absurd (cc)
equal-strictly (v.Cell x) (v.Str y) steps e = absurd (cc)
equal-strictly (v.Cell x) (v.Cell y) steps e = e

-- ---- 32 bits

back : (n : ℕ) → n < 2 ^ 32 → (n < 2 ^ 31) ⊎ (2 ^ 31 ≤ n) → to_uint32 (signed n) ≡ n
back n fits (inl low) = rw (lt-ltb n (2 ^ 31) low) (omega arith)
back n fits (inr high) =
    let e : pos n -ℤ pos (2 ^ 32) ≡ negsuc (2 ^ 32 - 1 - n) = omega (arith, ints) in
    rw (le-ltb n (2 ^ 31) high, e) (omega arith)

-- the 32 bits of a number as a signed number are those of the number
pub to_uint32-to_int32 : (z : ℤ) → to_uint32 (to_int32 z) ≡ to_uint32 z
to_uint32-to_int32 (pos n) = back (n % 2 ^ 32) (omega arith) (cases_lt (n % 2 ^ 32) (2 ^ 31))
to_uint32-to_int32 (negsuc n) = back (2 ^ 32 - 1 - n % 2 ^ 32) (omega arith) (cases_lt (2 ^ 32 - 1 - n % 2 ^ 32) (2 ^ 31))
