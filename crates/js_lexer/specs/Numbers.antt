-- Numbers (ECMA-262 5.1, 7.8.3, without points and exponents): decimal digits with no leading zero, or `0x` and
-- hexadecimal digits, up to 2^53 - 1.
use Prim.Native.Char.{code}
use Rattle.std.specs.Prelude.{ℕ, ◌+◌, ◌*◌, Bool, true, false, ◌||◌, cond, ◌==◌, nat_le, nat_lt, Option, Some, None, pos}
use Rattle.std.specs.Char.{digit_value}
use Rattle.grammar.specs.Grammar.{done, again}
use Rattle.grammar.specs.Words.{◌>>=◌, ◌>>◌, one, need, refuse, choice, barred}
use Rattle.page_units.specs.Numbers.{greatest_number}
use Rattle.placed_chars.specs.declared.chars.Char.{Char}
use Rattle.js_lexer.specs.declared.fault.LexFault.{LexFault}
use Rattle.js_lexer.specs.declared.fault.LexFault.TheVariants.{BadNumber, BigNumber, LeftOut}
use Rattle.js_lexer.specs.declared.token.Kind.TheVariants as k
use Rattle.js_lexer.specs.declared.lexer.Lexeme.{Lexeme}
use Rattle.js_lexer.specs.declared.numbers.Numeral.{Numeral}
use Rattle.js_lexer.specs.Chars.{R, of, is, is_part, is_digit, is_hex}
use Rattle.js_lexer.specs.Elements.{lexeme}

-- a value, where all above the greatest number are one
abbrev pub capped : ℕ → ℕ
capped n = cond (nat_le n greatest_number) n (greatest_number + 1)

-- a number so far: its value, capped; whether a digit stands behind a leading zero; the byte behind it
abbrev pub numeral : ℕ → Bool → ℕ → Numeral
numeral value is_bad past = record { value = value; is_bad = is_bad; past = past }

-- `e` or `E`
abbrev pub is_exponent : ℕ → Bool
is_exponent c = c == code "e" || c == code "E"

-- `+` or `-`
abbrev pub is_sign : ℕ → Bool
is_sign c = c == code "+" || c == code "-"

-- ---- decimal

abbrev pub digits_go : Numeral → Char → Bool
digits_go s t = of is_digit t

abbrev pub more_digits : Bool → Numeral → R Numeral
more_digits leads_zero s = do
  t ← one (of is_digit)
  done (numeral (capped (s.value * 10 + digit_value t.code)) leads_zero t.past)

-- What follows the digits, or what they are, may be a fault at the number's start: a `.`, a name character or
-- a leading zero, a value that is too large.
abbrev pub digits_fault : ℕ → Numeral → Char → Option LexFault
digits_fault at s t =
    cond (of (is (code ".")) t) (Some (LeftOut at))
    (cond (of is_part t || s.is_bad) (Some (BadNumber at))
    (cond (nat_lt greatest_number s.value) (Some (BigNumber at)) None))

abbrev pub exponent_digit : ℕ → R Numeral
exponent_digit at = refuse (λ t. cond (of is_digit t) (LeftOut at) (BadNumber at))

-- An exponent is left out; without a digit its `e` is a name character straight behind the number.
abbrev pub exponent : ℕ → R Numeral
exponent at = choice (of is_sign) (exponent_digit at) (exponent_digit at)

-- behind the first digit
unfoldable pub decimal : ℕ → Bool → Numeral → R Numeral
decimal at leads_zero start = do
  s ← again digits_go (more_digits leads_zero) start
  choice (of is_exponent) (exponent at) (barred (digits_fault at s) >> done s)

-- ---- hexadecimal

abbrev pub hex_goes : Numeral → Char → Bool
hex_goes s t = of is_hex t

abbrev pub more_hex : Numeral → R Numeral
more_hex s = do
  t ← one (of is_hex)
  done (numeral (capped (s.value * 16 + digit_value t.code)) false t.past)

abbrev pub hex_fault : ℕ → Numeral → Char → Option LexFault
hex_fault at s t =
    cond (of is_part t) (Some (BadNumber at))
    (cond (nat_lt greatest_number s.value) (Some (BigNumber at)) None)

-- behind its `0x`
unfoldable pub hex : ℕ → R Numeral
hex at = do
  t ← need (of is_hex) (λ _. BadNumber at)
  s ← again hex_goes more_hex (numeral (digit_value t.code) false t.past)
  barred (hex_fault at s)
  done s

-- ---- both

-- behind its first digit; a `0` with an `x` behind it begins a hexadecimal one
abbrev pub numeral_of : Char → R Numeral
numeral_of t = cond (is (code "0") t.code)
    (choice (of (is (code "x"))) (hex t.at) (decimal t.at true (numeral 0 false t.past)))
    (decimal t.at false (numeral (digit_value t.code) false t.past))

abbrev pub number : Char → R Lexeme
number t = do
  s ← numeral_of t
  done (lexeme (k.Num (pos s.value)) t.at s.past)
