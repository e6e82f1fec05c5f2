-- The number of a text (ECMA-262 5.1, 9.3.1), with whole numbers alone (this project's own): digits with an optional
-- sign, or `0x` and hexadecimal digits, are a number; every other numeric literal is outside.
use Prim.Native.Char.{code}
use Rattle.std.specs.Prelude.{ℕ, ◌-◌, ◌==◌, Bool, true, false, ◌&&◌, ◌||◌, cond, List, [], ◌∷◌, length, take, drop, ℤ, pos, neg_ℤ, nat_lt, codes}
use Rattle.std.specs.List.{prefix_len, suffix_len, list_all}
use Rattle.std.specs.Char.{is_ascii_digit, digit_value}
use Rattle.std.specs.Str.{bytes_eq}
use Rattle.std.specs.Str.Parse.{digits_value}
use Rattle.page_units.specs.Blanks.{is_white_space, is_line_terminator}
use Rattle.js_ops.specs.declared.numbers.NumberOf.{NumberOf}
use Rattle.js_ops.specs.declared.numbers.NumberOf.TheVariants.{Num, NoNumber, Outside}
use Rattle.js_ops.specs.Whole.{is_in_range}

-- StrWhiteSpaceChar
abbrev pub is_blank : ℕ → Bool
is_blank c = is_white_space c || is_line_terminator c

-- a text without the blanks at its front and at its end
abbrev pub trimmed : List ℕ → List ℕ
trimmed units =
    let front = drop (prefix_len is_blank units) units in
    take (length front - suffix_len is_blank front) front

-- ---- digits

abbrev pub is_some_digits : (ℕ → Bool) → List ℕ → Bool
is_some_digits is_digit units = nat_lt 0 (length units) && list_all is_digit units

-- DecimalDigits
abbrev pub is_digits : List ℕ → Bool
is_digits units = is_some_digits is_ascii_digit units

abbrev pub is_hex_digit : ℕ → Bool
is_hex_digit c = nat_lt (digit_value c) 16

-- the digits at the front, and what stands behind them
abbrev pub digits_at : List ℕ → List ℕ
digits_at units = take (prefix_len is_ascii_digit units) units

abbrev pub behind_digits : List ℕ → List ℕ
behind_digits units = drop (prefix_len is_ascii_digit units) units

-- ---- signs

abbrev pub is_minus : List ℕ → Bool
is_minus [] = false
is_minus (c ∷ cs) = c == code "-"

-- what stands behind a sign, or the whole where there is none
abbrev pub unsigned : List ℕ → List ℕ
unsigned [] = []
unsigned (c ∷ cs) = cond (c == code "+" || c == code "-") cs (c ∷ cs)

-- ---- the literals

-- `0x` or `0X` and hexadecimal digits (HexIntegerLiteral), with this letter
abbrev pub is_hex_literal : (letter : ℕ) → List ℕ → Bool
is_hex_literal letter (c ∷ x ∷ digits) = c == code "0" && x == letter && is_some_digits is_hex_digit digits
is_hex_literal letter _ = false

-- ExponentPart, or nothing
abbrev pub is_exponent : List ℕ → Bool
is_exponent [] = true
is_exponent (c ∷ cs) = (c == code "e" || c == code "E") && is_digits (unsigned cs)

-- what follows the digits before a point: nothing, an exponent, or a point with digits and an exponent; on one side of
-- the point there are digits
abbrev pub goes_on : (whole : List ℕ) → List ℕ → Bool
goes_on whole [] = nat_lt 0 (length whole)
goes_on whole (c ∷ cs) = cond (c == code ".")
    ((nat_lt 0 (length whole) || nat_lt 0 (length (digits_at cs))) && is_exponent (behind_digits cs))
    (nat_lt 0 (length whole) && is_exponent (c ∷ cs))

-- StrUnsignedDecimalLiteral
abbrev pub is_unsigned_decimal : List ℕ → Bool
is_unsigned_decimal units = bytes_eq units (codes "Infinity") || goes_on (digits_at units) (behind_digits units)

-- StrDecimalLiteral
abbrev pub is_decimal : List ℕ → Bool
is_decimal units = is_unsigned_decimal (unsigned units)

-- ---- the number

abbrev pub if_in_range : ℤ → NumberOf
if_in_range z = cond (is_in_range z) (Num z) Outside

abbrev pub signed_value : List ℕ → ℤ
signed_value units = cond (is_minus units) (neg_ℤ (pos (digits_value 10 (unsigned units)))) (pos (digits_value 10 (unsigned units)))

-- the number of a text without blanks around it; an empty one is 0
abbrev pub number_of_literal : List ℕ → NumberOf
number_of_literal units =
    cond (length units == 0) (Num (pos 0))
    (cond (is_digits (unsigned units)) (if_in_range (signed_value units))
    (cond (is_hex_literal (code "x") units) (if_in_range (pos (digits_value 16 (drop 2 units))))
    (cond (is_hex_literal (code "X") units || is_decimal units) Outside NoNumber)))

abbrev pub number_of_text : List ℕ → NumberOf
number_of_text units = number_of_literal (trimmed units)
