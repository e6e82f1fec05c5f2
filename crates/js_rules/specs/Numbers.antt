-- What the built-in functions of numbers compute (ECMA-262 5.1, 15.1.2.2 and 15.8.2.13), with whole numbers
-- alone (this project's own).
use Prim.Native.Char.{code}
use Rattle.std.specs.Prelude.{ℕ, zero, suc, ◌%◌, ◌==◌, nat_lt, nat_abs, ℤ, pos, negsuc, ◌*ℤ◌, neg_ℤ, int_lt, int_le, Bool, true, false, ◌&&◌, ◌||◌, cond, List, [], ◌∷◌, take, drop, Option, Some, None, if◌then◌else◌}
use Rattle.std.specs.List.{prefix_len}
use Rattle.std.specs.Char.{digit_value}
use Rattle.std.specs.Str.Parse.{digits_value}
use Rattle.js_ops.specs.TextNumbers.{is_blank, is_minus, unsigned}
use Rattle.js_ops.specs.Whole.{is_in_range, to_int32}

abbrev pub in_range : ℤ → Option ℤ
in_range z = cond (is_in_range z) (Some z) None

abbrev pub is_odd : ℤ → Bool
is_odd (pos n) = n % 2 == 1
is_odd (negsuc n) = n % 2 == 0

abbrev pub power_of : ℤ → ℕ → ℤ
power_of x zero = pos 1
power_of x (suc n) = x *ℤ power_of x n

-- a power that is a whole number in range; of 0, 1 and -1 each is
abbrev pub whole_power : ℤ → ℤ → Option ℤ
whole_power x y =
    if int_le y (pos 0) && int_le (pos 0) y then Some (pos 1)
    else if int_le x (pos 1) && int_le (pos 1) x then Some (pos 1)
    else if int_le x (negsuc 0) && int_le (negsuc 0) x then Some (if is_odd y then negsuc 0 else pos 1)
    else if int_lt y (pos 0) then None
    else if int_le x (pos 0) && int_le (pos 0) x then Some (pos 0)
    else if int_lt (pos 53) y then None
    else in_range (power_of x (nat_abs y))

-- ---- parseInt (15.1.2.2)

abbrev pub after_blanks : List ℕ → List ℕ
after_blanks t = drop (prefix_len is_blank t) t

abbrev pub has_hex_prefix : List ℕ → Bool
has_hex_prefix (c ∷ x ∷ more) = c == code "0" && (x == code "x" || x == code "X")
has_hex_prefix _ = false

-- the radix that is asked for: 0 stands for 10, and 0 and 16 let `0x` through
abbrev pub takes_prefix : ℤ → List ℕ → Bool
takes_prefix r t =
    (int_le r (pos 0) && int_le (pos 0) r || int_le r (pos 16) && int_le (pos 16) r) && has_hex_prefix t

abbrev pub radix_number : ℤ → List ℕ → ℕ
radix_number r t = if takes_prefix r t then 16 else if int_le r (pos 0) then 10 else nat_abs r

abbrev pub radix_digits : ℕ → List ℕ → List ℕ
radix_digits r t = take (prefix_len (λ c. nat_lt (digit_value c) r) t) t

abbrev pub signed_number : Bool → ℕ → ℤ
signed_number true n = neg_ℤ (pos n)
signed_number false n = pos n

abbrev pub parsed_digits : Bool → ℕ → List ℕ → Option ℤ
parsed_digits minus r [] = None
parsed_digits minus r (c ∷ cs) = in_range (signed_number minus (digits_value r (c ∷ cs)))

abbrev pub parsed_from : Bool → ℤ → List ℕ → Option ℤ
parsed_from minus r t =
    if (int_le r (pos 0) && int_le (pos 0) r) || (int_le (pos 2) r && int_le r (pos 36))
    then parsed_digits minus (radix_number r t) (radix_digits (radix_number r t) (if takes_prefix r t then drop 2 t else t))
    else None

abbrev pub parsed : List ℕ → ℤ → Option ℤ
parsed t r = parsed_from (is_minus (after_blanks t)) (to_int32 r) (unsigned (after_blanks t))
