-- The classes of characters that the page form speaks of (this project's own page form).
use Prim.Native.Char.{code}
use Rattle.std.specs.Prelude.{ℕ, ◌+◌, ◌-◌, Bool, not, ◌||◌, ◌&&◌, cond, ◌==◌, nat_le, nat_lt}
use Rattle.std.specs.Char.{digit_value}
use Rattle.placed_chars.specs.Chars.{is_end}

-- this character
abbrev pub is : ℕ → ℕ → Bool
is c x = x == c

-- the end of the page
abbrev pub is_last : ℕ → Bool
is_last x = is 0x11_0000 x

-- space, tab, line feed, form feed, carriage return
abbrev pub is_white : ℕ → Bool
is_white x = x == code " " || x == code "\t" || x == code "\n" || x == code "\u{c}" || x == code "\r"

abbrev pub is_capital : ℕ → Bool
is_capital x = nat_le (code "A") x && nat_le x (code "Z")

-- an ASCII letter
abbrev pub is_letter : ℕ → Bool
is_letter x = is_capital x || (nat_le (code "a") x && nat_le x (code "z"))

-- what may stand in a name behind its first letter: an ASCII letter or digit, or `-`
abbrev pub is_part : ℕ → Bool
is_part x = is_letter x || (nat_le (code "0") x && nat_le x (code "9")) || x == code "-"

-- lowered, where it is an ASCII capital
abbrev pub lower : ℕ → ℕ
lower x = cond (is_capital x) (x + (code "a" - code "A")) x

-- this one, which is lowered, in any case
abbrev pub is_any_case : ℕ → ℕ → Bool
is_any_case c x = not (is_end x) && lower x == c

abbrev pub is_lt : ℕ → Bool
is_lt x = is (code "<") x

abbrev pub is_gt : ℕ → Bool
is_gt x = is (code ">") x

abbrev pub is_slash : ℕ → Bool
is_slash x = is (code "/") x

abbrev pub is_bang : ℕ → Bool
is_bang x = is (code "!") x

abbrev pub is_dash : ℕ → Bool
is_dash x = is (code "-") x

abbrev pub is_amp : ℕ → Bool
is_amp x = is (code "&") x

-- `"` or `'`
abbrev pub is_quote : ℕ → Bool
is_quote x = x == code "\"" || x == code "'"

-- a digit to this base
abbrev pub is_digit : ℕ → ℕ → Bool
is_digit base x = nat_lt (digit_value x) base

-- white space or `>`
abbrev pub ends_name : ℕ → Bool
ends_name x = is_white x || is_gt x

-- white space, `>` or `/`
abbrev pub ends_attribute : ℕ → Bool
ends_attribute x = is_white x || is_gt x || is_slash x
