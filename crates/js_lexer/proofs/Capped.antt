-- The values of numbers are capped digit by digit as they are at their end.
use Rattle.std.proofs.Common.{◌≡◌, ℕ, ◌+◌, ◌*◌, arith}
use Rattle.std.proofs.lemmas.Bool.Decides.{nat_tests}
use Rattle.js_lexer.specs.Numbers.{capped}

-- One more decimal digit.
pub capped_ten : (n d : ℕ) → capped (capped n * 10 + d) ≡ capped (n * 10 + d)
capped_ten n d = grind (arith, nat_tests)

-- One more hexadecimal digit.
pub capped_sixteen : (n d : ℕ) → capped (capped n * 16 + d) ≡ capped (n * 16 + d)
capped_sixteen n d = grind (arith, nat_tests)
