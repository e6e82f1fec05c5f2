-- The decimal digits of whole numbers.
use Rattle.std.specs.Prelude.{ℕ, suc, List, ◌++◌, ℤ, pos, negsuc, codes, decimal}

-- the digits of a number, with its sign (ECMA-262 5.1, 9.8.1)
abbrev pub digits : ℤ → List ℕ
digits (pos n) = decimal n
digits (negsuc n) = codes "-" ++ decimal (suc n)
