-- Whole numbers of 53 bits and a sign, and their residues modulo 2^32 (ECMA-262 5.1, 9.5 and 9.6; that a number is
-- whole and has one zero is this project's own).
use Rattle.std.specs.Prelude.{ℕ, ◌-◌, ◌/◌, ◌%◌, ◌^◌, Bool, ◌&&◌, cond, nat_lt, ℤ, pos, negsuc, ◌-ℤ◌, int_le}
use Rattle.page_units.specs.Numbers.{greatest_number, least_number}

-- from -(2^53 - 1) to 2^53 - 1
abbrev pub is_in_range : ℤ → Bool
is_in_range z = int_le least_number z && int_le z (pos greatest_number)

-- a number as an unsigned number of 32 bits (9.6)
abbrev pub to_uint32 : ℤ → ℕ
to_uint32 (pos n) = n % 2 ^ 32
to_uint32 (negsuc n) = 2 ^ 32 - 1 - n % 2 ^ 32

-- 32 bits as a signed number
abbrev pub signed : ℕ → ℤ
signed n = cond (nat_lt n (2 ^ 31)) (pos n) (pos n -ℤ pos (2 ^ 32))

-- a number as a signed number of 32 bits (9.5)
abbrev pub to_int32 : ℤ → ℤ
to_int32 z = signed (to_uint32 z)

-- the shift count of a number: its last five bits (11.7)
abbrev pub shift_count : ℤ → ℕ
shift_count z = to_uint32 z % 32

-- a signed number shifted to the right by k bits, which copies its sign
abbrev pub shifted_right : ℤ → ℕ → ℤ
shifted_right (pos n) k = pos (n / 2 ^ k)
shifted_right (negsuc n) k = negsuc (n / 2 ^ k)
