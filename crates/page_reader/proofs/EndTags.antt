-- The end tag that ends the content of a script is ASCII.
use Rattle.std.proofs.Common.{◌≡◌, ◌≢◌, ℕ, zero, suc, ◌+◌, ◌-◌, ◌<◌, ◌≤◌, ◌⊎◌, Bool, true, false, cond, inl, inr, List, [], ◌∷◌, length, drop, Some, None, refl, subst, sym, ◌∙◌, arith, get_or}
use Rattle.std.specs.Prelude.{◌==◌, ◌&&◌, nat_le, nat_lt, codes, slice_range, slice_index}
use Rattle.std.proofs.lemmas.Bool.{and_parts, ltb-true, cases_eq, cases_lt}
use Rattle.std.proofs.lemmas.Bool.Decides.{nat_tests}
use Rattle.std.proofs.lemmas.List.{get_or-take, get_or-drop, get_or_past}
use Rattle.std.proofs.lemmas.Slice.Eq.{bytes_eq-Decides}
use Rattle.page_reader.specs.Classes.{is_white, lower, is_lt, is_slash}
use Rattle.page_reader.specs.Names.{is_script}
use Rattle.page_reader.specs.Raw.{trimmed, is_called, is_slash_and_name, is_end_tag, ending_at, end_tag_at}
use Rattle.page_reader.proofs.Units.{IsAsciiFrom}

-- ---- characters

-- White space is ASCII.
white_ascii : (x : ℕ) → is_white x ≡ true → x < 128
white_ascii x e = grind (arith, nat_tests)

-- What is an ASCII character when lowered is one.
lower_ascii : (c x : ℕ) → c < 128 → (lower x == c) ≡ true → x < 128
lower_ascii c x h e = grind (arith, nat_tests)

-- A `<` is ASCII.
lt_ascii : (x : ℕ) → is_lt x ≡ true → x < 128
lt_ascii x e = grind (arith, nat_tests)

-- A `/` is ASCII.
slash_ascii : (x : ℕ) → is_slash x ≡ true → x < 128
slash_ascii x e = grind (arith, nat_tests)

-- ---- the name

-- No units are ASCII.
nil_ascii : IsAsciiFrom 0 []
nil_ascii k h = omega arith

-- ASCII units with one more before them are.
cons_ascii : (x : ℕ) (xs : List ℕ) → x < 128 → IsAsciiFrom 0 xs → IsAsciiFrom 0 (x ∷ xs)
cons_ascii x xs h a zero k = h
cons_ascii x xs h a (suc n) k = a n (omega arith)

-- What is called by an ASCII name is ASCII.
called_ascii : (tag xs : List ℕ) → IsAsciiFrom 0 tag → is_called tag xs ≡ true → IsAsciiFrom 0 xs
called_ascii [] [] a e = a
called_ascii [] (x ∷ xs) a e = absurd cc
called_ascii (c ∷ cs) [] a e = absurd cc
called_ascii (c ∷ cs) (x ∷ xs) a e =
    let (here, more) = and_parts (lower x == c) (is_called cs xs) e in
    cons_ascii x xs (lower_ascii c x (a 0 (omega arith)) here) (called_ascii cs xs (λ k h. a (suc k) (omega arith)) more)

-- So is `/` and such a name,
slash_and_name_ascii : (tag xs : List ℕ) → IsAsciiFrom 0 tag → is_slash_and_name tag xs ≡ true → IsAsciiFrom 0 xs
slash_and_name_ascii tag [] a e = absurd cc
slash_and_name_ascii tag (x ∷ xs) a e =
    let (here, more) = and_parts (is_slash x) (is_called tag xs) e in
    cons_ascii x xs (slash_ascii x here) (called_ascii tag xs a more)

-- and `</` and such a name.
end_tag_ascii : (tag xs : List ℕ) → IsAsciiFrom 0 tag → is_end_tag tag xs ≡ true → IsAsciiFrom 0 xs
end_tag_ascii tag [] a e = absurd cc
end_tag_ascii tag (x ∷ xs) a e =
    let (here, more) = and_parts (is_lt x) (is_slash_and_name tag xs) e in
    cons_ascii x xs (lt_ascii x here) (slash_and_name_ascii tag xs a more)

-- all of these units are ASCII
abbrev all_ascii : List ℕ → Bool
all_ascii [] = true
all_ascii (x ∷ xs) = nat_lt x 128 && all_ascii xs

-- Units that pass the test are ASCII.
tested_ascii : (xs : List ℕ) → all_ascii xs ≡ true → IsAsciiFrom 0 xs
tested_ascii [] e = nil_ascii
tested_ascii (x ∷ xs) e =
    let (here, more) = and_parts (nat_lt x 128) (all_ascii xs) e in
    cons_ascii x xs (ltb-true x 128 here) (tested_ascii xs more)

-- The name of a script is ASCII.
script_ascii : (tag : List ℕ) → is_script tag ≡ true → IsAsciiFrom 0 tag
script_ascii tag e = subst (λ l. IsAsciiFrom 0 l) (sym ((bytes_eq-Decides tag (codes "script")).0 e)) (tested_ascii (codes "script") refl)

-- ---- the white space

-- No more units are left than there were.
trimmed_le : (units : List ℕ) (n : ℕ) → trimmed units n ≤ n
trimmed_le units zero = omega arith
trimmed_le units (suc n) = go (is_white (slice_index units n)) (trimmed_le units n)
  where
    go : (b : Bool) → trimmed units n ≤ n → cond b (trimmed units n) (suc n) ≤ suc n
    go true h = omega arith
    go false h = omega arith

-- What is taken off is ASCII.
trimmed_ascii : (units : List ℕ) (n k : ℕ) → trimmed units n ≤ k → k < n → get_or units k 0 < 128
trimmed_ascii units zero k h l = absurd (omega arith)
trimmed_ascii units (suc n) k h l = go (is_white (slice_index units n)) refl (trimmed_ascii units n k) h
  where
    go : (b : Bool) → is_white (slice_index units n) ≡ b → (trimmed units n ≤ k → k < n → get_or units k 0 < 128) → cond b (trimmed units n) (suc n) ≤ k → get_or units k 0 < 128
    go true e more h = last (cases_eq k n)
      where
        last : (k ≡ n) ⊎ (k ≢ n) → get_or units k 0 < 128
        last (inl s) = subst (λ (j : ℕ). get_or units j 0 < 128) (sym s) (white_ascii (slice_index units n) e)
        last (inr s) = more h (omega arith)
    go false e more h = absurd (omega arith)

-- ---- the whole

-- The units of an end tag, from the n-th on, and those after it are ASCII.
pub record EndsInAscii (n : ℕ) (units : List ℕ) : Type 0 where
  pub within : n ≤ length units
  pub ascii : IsAsciiFrom n units

-- Units are ASCII from n on, where a piece from n on is and all after the piece.
piece_ascii : (units : List ℕ) (n m : ℕ) → n ≤ m → IsAsciiFrom 0 (slice_range units n m) → IsAsciiFrom m units → IsAsciiFrom n units
piece_ascii units n m le a b k h = go (cases_lt k m)
  where
    go : (k < m) ⊎ (m ≤ k) → get_or units k 0 < 128
    go (inl l) =
        let inside : k - n < m - n = omega arith in
        let place : n + (k - n) ≡ k = omega arith in
        subst (λ (j : ℕ). get_or units j 0 < 128) place
        (subst (λ (x : ℕ). x < 128) (get_or-take (m - n) (drop n units) (k - n) 0 inside ∙ get_or-drop n units (k - n) 0) (a (k - n) (omega arith)))
    go (inr g) = b k g

-- Where the first m units end in an end tag, the units are ASCII from its `<` on, if those after it are.
ending_ascii : (tag units : List ℕ) (m n : ℕ) → IsAsciiFrom 0 tag → m ≤ length units → IsAsciiFrom m units → ending_at tag units m ≡ Some n → EndsInAscii n units
ending_ascii tag units m n a le b e = go (nat_le (length tag + 2) m && is_end_tag tag (slice_range units (m - (length tag + 2)) m)) refl e
  where
    go : (c : Bool) → (nat_le (length tag + 2) m && is_end_tag tag (slice_range units (m - (length tag + 2)) m)) ≡ c → cond c (Some (m - (length tag + 2))) None ≡ Some n → EndsInAscii n units
    go true h s =
        let (fits, ends) = and_parts (nat_le (length tag + 2) m) (is_end_tag tag (slice_range units (m - (length tag + 2)) m)) h in
        let same : m - (length tag + 2) ≡ n = cc in
        subst (λ j. EndsInAscii j units) same (record {
          within = omega arith;
          ascii = piece_ascii units (m - (length tag + 2)) m (omega arith) (end_tag_ascii tag (slice_range units (m - (length tag + 2)) m) a ends) b;
        })
    go false h s = absurd cc

-- Where the units end in an end tag of a script, but for its `>`, they are ASCII from its `<` on.
pub ends_in_ascii : (tag units : List ℕ) (n : ℕ) → is_script tag ≡ true → end_tag_at tag units ≡ Some n → EndsInAscii n units
ends_in_ascii tag units n s e =
    ending_ascii tag units (trimmed units (length units)) n (script_ascii tag s) (trimmed_le units (length units)) after e
  where
    after : IsAsciiFrom (trimmed units (length units)) units
    after k h = go (cases_lt k (length units))
      where
        go : (k < length units) ⊎ (length units ≤ k) → get_or units k 0 < 128
        go (inl l) = trimmed_ascii units (length units) k h l
        go (inr g) = let none : get_or units k 0 ≡ 0 = get_or_past units k 0 g in omega arith
