-- References to characters, in what began at the byte `owner`, where their `&` stands at the byte `at` (this project's own
-- page form, after HTML's character references).
use Prim.Native.Char.{code}
use Rattle.std.specs.Prelude.{ℕ, ◌+◌, ◌*◌, Bool, not, ◌||◌, ◌&&◌, nat_le, nat_lt, List, [], ◌∷◌, codes}
use Rattle.std.specs.Char.{digit_value}
use Rattle.grammar.specs.Grammar.{token, done, or, again}
use Rattle.grammar.specs.Words.{◌>>=◌, ◌>>◌}
use Rattle.placed_chars.specs.declared.chars.Char.{Char}
use Rattle.placed_chars.specs.Chars.{is_end}
use Rattle.page_reader.specs.declared.fault.Fault.{Fault}
use Rattle.page_reader.specs.declared.fault.PageRule.TheVariants.{BadReference}
use Rattle.page_reader.specs.Classes.{is, is_digit}
use Rattle.page_reader.specs.Rules.{R, fault, one, next, other, must, cut_off}

abbrev pub bad_reference : ℕ → ℕ → Char → Fault
bad_reference owner at t = cut_off owner (fault BadReference at) t

-- the greatest code of a character
abbrev pub most_scalar : ℕ
most_scalar = 0x10_FFFF

-- one more digit, as long as the number is no more than that
abbrev pub number_goes : ℕ → ℕ → Char → Bool
number_goes base n t = is_digit base t.code && nat_le (n * base + digit_value t.code) most_scalar

abbrev pub more_number : ℕ → ℕ → R ℕ
more_number base n = do
  t ← token (number_goes base n)
  done (n * base + digit_value t.code)

-- a Unicode scalar value above 0
abbrev pub is_scalar : ℕ → Bool
is_scalar n = nat_lt 0 n && (nat_lt n 0xD800 || (nat_lt 0xDFFF n && nat_le n most_scalar))

-- the `;` behind such a number
abbrev pub number_ends : ℕ → ℕ → Bool
number_ends n x = is (code ";") x && is_scalar n

-- {digit} ;
unfoldable pub number : ℕ → ℕ → ℕ → R ℕ
number owner at base = do
  n ← again (number_goes base) (more_number base) 0
  must (number_ends n) (bad_reference owner at)
  done n

-- # {digit} ; | #x {hexadecimal digit} ;   behind the `#`
abbrev pub numeric : ℕ → ℕ → R ℕ
numeric owner at = or
    (one (is (code "x")) >> number owner at 16)
    (next (λ x. not (is (code "x") x)) >> number owner at 10)

-- this character, and none behind the end
abbrev pub stands : ℕ → ℕ → Bool
stands c x = not (is_end x) && is c x

-- these characters, which are a reference to c
abbrev pub spelled : ℕ → ℕ → ℕ → List ℕ → R ℕ
spelled owner at c [] = done c
spelled owner at c (x ∷ xs) = must (stands x) (bad_reference owner at) >> spelled owner at c xs

-- amp; | apos;   behind the `a`
abbrev pub named_a : ℕ → ℕ → R ℕ
named_a owner at = or
    (one (is (code "m")) >> spelled owner at (code "&") (codes "p;"))
    (or
    (one (is (code "p")) >> spelled owner at (code "'") (codes "os;"))
    (other (λ x. is (code "m") x || is (code "p") x) (bad_reference owner at)))

abbrev pub begins_reference : ℕ → Bool
begins_reference x = is (code "#") x || is (code "a") x || is (code "l") x || is (code "g") x || is (code "q") x || is (code "n") x

-- Reference = & (numeric | amp; | apos; | lt; | gt; | quot; | nbsp;)   behind the `&`
unfoldable pub reference : ℕ → ℕ → R ℕ
reference owner at = or
    (one (is (code "#")) >> numeric owner at)
    (or
    (one (is (code "a")) >> named_a owner at)
    (or
    (one (is (code "l")) >> spelled owner at (code "<") (codes "t;"))
    (or
    (one (is (code "g")) >> spelled owner at (code ">") (codes "t;"))
    (or
    (one (is (code "q")) >> spelled owner at (code "\"") (codes "uot;"))
    (or
    (one (is (code "n")) >> spelled owner at (code "\u{a0}") (codes "bsp;"))
    (other begins_reference (bad_reference owner at)))))))
