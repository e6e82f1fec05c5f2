-- The numbers of a script: whole numbers of 53 bits and a sign, with one zero (this project's own).
use Rattle.std.specs.Prelude.{ℕ, ℤ, pos, negsuc, ◌≤ℤ◌}

-- 2^53 - 1, up to which a double tells every whole number from the next (ECMA-262 5.1, 8.5)
abbrev pub greatest_number : ℕ
greatest_number = 9007199254740991

-- its negative
abbrev pub least_number : ℤ
least_number = negsuc 9007199254740990

pub record IsNumber (n : ℤ) : Type 0 where
  pub least : least_number ≤ℤ n
  pub greatest : n ≤ℤ pos greatest_number
