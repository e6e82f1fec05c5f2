-- Where the path of a target ends.
use Rattle.std.proofs.Common.{◌≡◌, ℕ, ◌≤◌, Bool, true, false, cond, List, length, take, Some, None, refl, arith, nat_lt, tests}
use Rattle.std.specs.List.{position, position_or_len}
use Rattle.std.proofs.lemmas.List.{take_all}

some_cond : (c : Bool) (m n : ℕ) → Some n ≡ cond c (Some m) None → (n ≡ m) × (c ≡ true)
some_cond true m n h = (cc, refl)
some_cond false m n h = cc

none_cond : (c : Bool) (m : ℕ) → None ≡ cond c (Some m) None → c ≡ false
none_cond true m h = cc
none_cond false m h = refl

pub ends_at : (p : ℕ → Bool) (xs : List ℕ) (n : ℕ) → Some n ≡ position p xs → n ≡ position_or_len p xs
ends_at p xs n h = (some_cond _ _ n h).0

pub ends_within : (p : ℕ → Bool) (xs : List ℕ) (n : ℕ) → Some n ≡ position p xs → n ≤ length xs
ends_within p xs n h = let e = some_cond _ _ n h in let l : nat_lt (position_or_len p xs) (length xs) ≡ true = e.1 in grind (arith, tests, e.0, l)

pub all_before : (p : ℕ → Bool) (xs : List ℕ) → None ≡ position p xs → xs ≡ take (position_or_len p xs) xs
all_before p xs h = let l : nat_lt (position_or_len p xs) (length xs) ≡ false = none_cond _ _ h in let whole : length xs ≤ position_or_len p xs = grind (arith, tests, l) in grind (arith, take_all, whole)
