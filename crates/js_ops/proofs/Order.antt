-- The order of texts and numbers, against the operators' tests.
use Rattle.std.proofs.Common.{◌≡◌, ℕ, true, false, not, List, [], ◌∷◌, ℤ, pos, negsuc, refl, ap, ◌∙◌, arith}
use Rattle.std.specs.Prelude.{int_lt, int_le}
use Rattle.std.proofs.lemmas.Bool.Decides.{nat_tests}
use Rattle.std.specs.Cmp.Lexicographic.{slice_cmp}
use Rattle.std.specs.declared.cmp.Ordering.{Ordering}
use Rattle.std.specs.declared.cmp.Ordering.TheVariants.{Less, Equal, Greater}
use Rattle.std.specs.Ordering.{nat_cmp, int_cmp, is_eq, is_lt, is_gt, is_le, is_ge}
use Rattle.std.specs.Str.{bytes_eq}
use Rattle.page_units.specs.declared.value.Value.{Value}
use Rattle.js_ops.specs.declared.comparisons.Relation.TheVariants as r
use Rattle.js_ops.specs.Conversions.{is_primitive}
use Rattle.js_ops.specs.Operators.{units_before, int_eq, compared, equal, is_nothing}
use Rattle.js_ops.specs.Parts.{texts_stand, numbers_stand}
use Rattle.page_units.specs.declared.value.Value.TheVariants as v

-- x stands before y
pub is_lt-units : (xs ys : List ℕ) → units_before xs ys ≡ is_lt (slice_cmp nat_cmp xs ys)
is_lt-units [] [] = refl
is_lt-units [] (y ∷ ys) = refl
is_lt-units (x ∷ xs) [] = refl
is_lt-units (x ∷ xs) (y ∷ ys) = let rest = is_lt-units xs ys in grind (arith, nat_tests, rest)

pub is_gt-units : (xs ys : List ℕ) → units_before ys xs ≡ is_gt (slice_cmp nat_cmp xs ys)
is_gt-units [] [] = refl
is_gt-units [] (y ∷ ys) = refl
is_gt-units (x ∷ xs) [] = refl
is_gt-units (x ∷ xs) (y ∷ ys) = let rest = is_gt-units xs ys in grind (arith, nat_tests, rest)

pub is_eq-units : (xs ys : List ℕ) → bytes_eq xs ys ≡ is_eq (slice_cmp nat_cmp xs ys)
is_eq-units [] [] = refl
is_eq-units [] (y ∷ ys) = refl
is_eq-units (x ∷ xs) [] = refl
is_eq-units (x ∷ xs) (y ∷ ys) = let rest = is_eq-units xs ys in grind (arith, nat_tests, rest)

is_lt-ints : (x y : ℤ) → int_lt x y ≡ is_lt (int_cmp x y)
is_lt-ints (pos a) (pos b) = grind (arith, nat_tests)
is_lt-ints (pos a) (negsuc b) = refl
is_lt-ints (negsuc a) (pos b) = refl
is_lt-ints (negsuc a) (negsuc b) = grind (arith, nat_tests)

is_gt-ints : (x y : ℤ) → int_lt y x ≡ is_gt (int_cmp x y)
is_gt-ints (pos a) (pos b) = grind (arith, nat_tests)
is_gt-ints (pos a) (negsuc b) = refl
is_gt-ints (negsuc a) (pos b) = refl
is_gt-ints (negsuc a) (negsuc b) = grind (arith, nat_tests)

is_le-ints : (x y : ℤ) → int_le x y ≡ is_le (int_cmp x y)
is_le-ints (pos a) (pos b) = grind (arith, nat_tests)
is_le-ints (pos a) (negsuc b) = refl
is_le-ints (negsuc a) (pos b) = refl
is_le-ints (negsuc a) (negsuc b) = grind (arith, nat_tests)

is_ge-ints : (x y : ℤ) → int_le y x ≡ is_ge (int_cmp x y)
is_ge-ints (pos a) (pos b) = grind (arith, nat_tests)
is_ge-ints (pos a) (negsuc b) = refl
is_ge-ints (negsuc a) (pos b) = refl
is_ge-ints (negsuc a) (negsuc b) = grind (arith, nat_tests)

is_eq-ints : (x y : ℤ) → int_eq x y ≡ is_eq (int_cmp x y)
is_eq-ints (pos a) (pos b) = grind (arith, nat_tests)
is_eq-ints (pos a) (negsuc b) = refl
is_eq-ints (negsuc a) (pos b) = refl
is_eq-ints (negsuc a) (negsuc b) = grind (arith, nat_tests)

not-is_gt : (o : Ordering) → not (is_gt o) ≡ is_le o
not-is_gt Less = refl
not-is_gt Equal = refl
not-is_gt Greater = refl

not-is_lt : (o : Ordering) → not (is_lt o) ≡ is_ge o
not-is_lt Less = refl
not-is_lt Equal = refl
not-is_lt Greater = refl

-- ---- the comparisons by their relations

pub less_stands : (a b : Value) → compared a b units_before int_lt ≡ compared a b (texts_stand r.Less) (numbers_stand r.Less)
less_stands a b = λ i. compared a b (λ x y. is_lt-units x y i) (λ x y. is_lt-ints x y i)

pub greater_stands : (a b : Value) → compared a b (λ x y. units_before y x) (λ x y. int_lt y x) ≡ compared a b (texts_stand r.Greater) (numbers_stand r.Greater)
greater_stands a b = λ i. compared a b (λ x y. is_gt-units x y i) (λ x y. is_gt-ints x y i)

pub less_equal_stands : (a b : Value) → compared a b (λ x y. not (units_before y x)) int_le ≡ compared a b (texts_stand r.LessEqual) (numbers_stand r.LessEqual)
less_equal_stands a b = λ i. compared a b (λ x y. (ap not (is_gt-units x y) ∙ not-is_gt (slice_cmp nat_cmp x y)) i) (λ x y. is_le-ints x y i)

pub greater_equal_stands : (a b : Value) → compared a b (λ x y. not (units_before x y)) (λ x y. int_le y x) ≡ compared a b (texts_stand r.GreaterEqual) (numbers_stand r.GreaterEqual)
greater_equal_stands a b = λ i. compared a b (λ x y. (ap not (is_lt-units x y) ∙ not-is_lt (slice_cmp nat_cmp x y)) i) (λ x y. is_ge-ints x y i)

equal_stands : (a b : Value) → compared a b bytes_eq int_eq ≡ compared a b (texts_stand r.Equal) (numbers_stand r.Equal)
equal_stands a b = λ i. compared a b (λ x y. is_eq-units x y i) (λ x y. is_eq-ints x y i)

-- `==` of two primitive values that are there
pub equal_is : (a b : Value) → is_nothing a ≡ false → is_nothing b ≡ false → is_primitive a ≡ true → equal a b ≡ compared a b (texts_stand r.Equal) (numbers_stand r.Equal)
equal_is v.Undefined b p q k = absurd (cc)
equal_is v.Null b p q k = absurd (cc)
equal_is (v.Bool x) b p q k = rw q (equal_stands (v.Bool x) b)
equal_is (v.Num x) b p q k = rw q (equal_stands (v.Num x) b)
equal_is (v.Str x) b p q k = rw q (equal_stands (v.Str x) b)
equal_is (v.Cell x) b p q k = absurd (cc)
