-- Where the units of a text end in ASCII, so many of its characters are ASCII.
use Rattle.std.proofs.Common.{◌≡◌, ℕ, zero, suc, ◌+◌, ◌-◌, ◌/◌, ◌%◌, ◌<◌, ◌≤◌, ◌⊎◌, Bool, true, false, cond, inl, inr, List, [], ◌∷◌, ◌++◌, length, refl, subst, ap, ◌∙◌, arith, get_or}
use Rattle.std.specs.Prelude.{nat_lt}
use Rattle.std.specs.List.{flat_map}
use Rattle.std.specs.Char.{len_utf8}
use Rattle.std.specs.Char.Escape.{encode_utf16}
use Rattle.std.proofs.lemmas.Grind.{flat_map-append}
use Rattle.std.proofs.lemmas.List.{append-nil}
use Rattle.std.proofs.lemmas.Str.{len_utf8_ascii}
use Rattle.page_reader.proofs.Places.{bytes_of}

-- the units of characters
abbrev pub units_of : List ℕ → List ℕ
units_of cs = flat_map encode_utf16 cs

-- Each unit from the n-th on is ASCII.
abbrev pub IsAsciiFrom : ℕ → List ℕ → Type 0
IsAsciiFrom n units = (k : ℕ) → n ≤ k → get_or units k 0 < 128

-- A character is one unit, or a pair of units that aren't ASCII.
abbrev IsCoded : ℕ → List ℕ → Type 0
IsCoded c us = (us ≡ c ∷ []) ⊎ ((high low : ℕ) × (us ≡ high ∷ low ∷ []) × (128 ≤ high) × (128 ≤ low))

-- each character's units
coded : (c : ℕ) → IsCoded c (encode_utf16 c)
coded c = go (nat_lt c 0x1_0000)
  where
    go : (b : Bool) → IsCoded c (cond b (c ∷ []) ((0xD800 + (c - 0x1_0000) / 0x400) ∷ (0xDC00 + (c - 0x1_0000) % 0x400) ∷ []))
    go true = inl refl
    go false = inr (0xD800 + (c - 0x1_0000) / 0x400, 0xDC00 + (c - 0x1_0000) % 0x400, refl, omega arith, omega arith)

-- units after the one of a character
one_unit : (c : ℕ) (us rest : List ℕ) → us ≡ c ∷ [] → us ++ rest ≡ c ∷ rest
one_unit c us rest e = ap (λ (l : List ℕ). l ++ rest) e

-- units after the two of a character
two_units : (high low : ℕ) (us rest : List ℕ) → us ≡ high ∷ low ∷ [] → us ++ rest ≡ high ∷ low ∷ rest
two_units high low us rest e = ap (λ (l : List ℕ). l ++ rest) e

-- a unit from n on, in the same units written otherwise
ascii_at : (n : ℕ) (us vs : List ℕ) → us ≡ vs → IsAsciiFrom n us → (k : ℕ) → n ≤ k → get_or vs k 0 < 128
ascii_at n us vs e a k h = subst (λ (l : List ℕ). get_or l k 0 < 128) e (a k h)

-- Characters whose units are all ASCII have a byte for each unit.
ascii_bytes : (cs : List ℕ) → IsAsciiFrom 0 (units_of cs) → bytes_of cs ≡ length (units_of cs)
ascii_bytes [] h = refl
ascii_bytes (c ∷ cs) a = go (ascii_bytes cs) (encode_utf16 c) (coded c) a
  where
    go : (IsAsciiFrom 0 (units_of cs) → bytes_of cs ≡ length (units_of cs)) → (us : List ℕ) → IsCoded c us → IsAsciiFrom 0 (us ++ units_of cs) → len_utf8 c + bytes_of cs ≡ length (us ++ units_of cs)
    go rest us (inl e) a =
        let same : us ++ units_of cs ≡ c ∷ units_of cs = one_unit c us (units_of cs) e in
        let here : c < 128 = ascii_at 0 (us ++ units_of cs) (c ∷ units_of cs) same a 0 (omega arith) in
        let one : len_utf8 c ≡ 1 = len_utf8_ascii c here in
        let more : bytes_of cs ≡ length (units_of cs) = rest (λ k h. ascii_at 0 (us ++ units_of cs) (c ∷ units_of cs) same a (suc k) (omega arith)) in
        let long : length (us ++ units_of cs) ≡ suc (length (units_of cs)) = ap (λ (l : List ℕ). length l) same in
        omega arith
    go rest us (inr (high, low, e, h, l)) a =
        let below : high < 128 = ascii_at 0 (us ++ units_of cs) (high ∷ low ∷ units_of cs) (two_units high low us (units_of cs) e) a 0 (omega arith) in
        absurd (omega arith)

-- These characters are cut in two after the first n units: the suffix has a byte for each unit.
pub record IsCut (cs : List ℕ) (n : ℕ) : Type 0 where
  pub prefix : List ℕ
  pub suffix : List ℕ
  pub split : cs ≡ prefix ++ suffix
  pub long : n + bytes_of suffix ≡ length (units_of cs)

-- the same with one character more before them, which makes so many units
cut_more : (c : ℕ) (cs : List ℕ) (n more : ℕ) → more + length (units_of cs) ≡ length (units_of (c ∷ cs)) → IsCut cs n → IsCut (c ∷ cs) (more + n)
cut_more c cs n more e k =
    let long : n + bytes_of k.suffix ≡ length (units_of cs) = k.long in
    record { prefix = c ∷ k.prefix; suffix = k.suffix; split = ap (λ (l : List ℕ). c ∷ l) k.split; long = omega (arith, e, long) }

-- A cut after a character of one unit,
cut_single : (c : ℕ) (cs : List ℕ) (n : ℕ) → ((m : ℕ) → m ≤ length (units_of cs) → IsAsciiFrom m (units_of cs) → IsCut cs m) → suc n ≤ length (units_of (c ∷ cs)) → IsAsciiFrom (suc n) (units_of (c ∷ cs)) → units_of (c ∷ cs) ≡ c ∷ units_of cs → IsCut (c ∷ cs) (suc n)
cut_single c cs n rest le a same =
    let long : length (units_of (c ∷ cs)) ≡ suc (length (units_of cs)) = ap (λ (l : List ℕ). length l) same in
    subst (λ m. IsCut (c ∷ cs) m) (omega arith) (cut_more c cs n 1 (omega (arith, long)) (rest n (omega (arith, long)) (λ k h. ascii_at (suc n) (units_of (c ∷ cs)) (c ∷ units_of cs) same a (suc k) (omega arith))))

-- or after one of two units, whose second isn't ASCII,
cut_pair : (c high low : ℕ) (cs : List ℕ) (n : ℕ) → ((m : ℕ) → m ≤ length (units_of cs) → IsAsciiFrom m (units_of cs) → IsCut cs m) → suc n ≤ length (units_of (c ∷ cs)) → IsAsciiFrom (suc n) (units_of (c ∷ cs)) → units_of (c ∷ cs) ≡ high ∷ low ∷ units_of cs → 128 ≤ low → IsCut (c ∷ cs) (suc n)
cut_pair c high low cs zero rest le a same l =
    let below : low < 128 = ascii_at 1 (units_of (c ∷ cs)) (high ∷ low ∷ units_of cs) same a 1 (omega arith) in
    absurd (omega arith)
cut_pair c high low cs (suc n) rest le a same l =
    let long : length (units_of (c ∷ cs)) ≡ suc (suc (length (units_of cs))) = ap (λ (l : List ℕ). length l) same in
    subst (λ m. IsCut (c ∷ cs) m) (omega arith) (cut_more c cs n 2 (omega (arith, long)) (rest n (omega (arith, long)) (λ k h. ascii_at (suc (suc n)) (units_of (c ∷ cs)) (high ∷ low ∷ units_of cs) same a (suc (suc k)) (omega arith))))

-- or after any character.
cut_after : (c : ℕ) (cs : List ℕ) (n : ℕ) → ((m : ℕ) → m ≤ length (units_of cs) → IsAsciiFrom m (units_of cs) → IsCut cs m) → suc n ≤ length (units_of (c ∷ cs)) → IsAsciiFrom (suc n) (units_of (c ∷ cs)) → IsCoded c (encode_utf16 c) → IsCut (c ∷ cs) (suc n)
cut_after c cs n rest le a (inl e) = cut_single c cs n rest le a (one_unit c (encode_utf16 c) (units_of cs) e)
cut_after c cs n rest le a (inr (high, low, e, h, l)) = cut_pair c high low cs n rest le a (two_units high low (encode_utf16 c) (units_of cs) e) l

-- Characters whose units are ASCII from the n-th on can be cut there.
pub cut : (cs : List ℕ) (n : ℕ) → n ≤ length (units_of cs) → IsAsciiFrom n (units_of cs) → IsCut cs n
cut [] n le a = record { prefix = []; suffix = []; split = refl; long = omega arith }
cut (c ∷ cs) zero le a = record { prefix = []; suffix = c ∷ cs; split = refl; long = let all : bytes_of (c ∷ cs) ≡ length (units_of (c ∷ cs)) = ascii_bytes (c ∷ cs) a in omega (arith, all) }
cut (c ∷ cs) (suc n) le a = cut_after c cs n (λ m k b. cut cs m k b) le a (coded c)

-- the units of one character more
pub units_push : (cs : List ℕ) (c : ℕ) → units_of (cs ++ c ∷ []) ≡ units_of cs ++ encode_utf16 c
units_push cs c = flat_map-append encode_utf16 cs (c ∷ []) ∙ ap (λ (l : List ℕ). units_of cs ++ l) (append-nil (encode_utf16 c))
