-- A text in UTF-8 has no fewer bytes than the text has units.
use Rattle.std.proofs.Common.{◌≡◌, ℕ, ◌+◌, ◌++◌, ◌≤◌, length, List, [], ◌∷◌, Bool, true, false, cond, ◌&&◌, ◌==◌, Option, Some, map, refl, sym, subst, arith, length-append, codes, nat_lt, if◌then◌else◌}
use Rattle.std.specs.List.{flat_map}
use Rattle.std.specs.Option.{unwrap_or}
use Rattle.std.specs.Char.Utf16.{utf16_chars, lone_unit_char, surrogate_pair_char, is_high_surrogate, is_low_surrogate}
use Rattle.std.proofs.Math.Utf8.{encode, encodes}
use Rattle.std.proofs.lemmas.Bool.{ltb-true}
use Rattle.std.proofs.lemmas.Str.{length-encode, len_utf8_bounds}
use Rattle.page_units.specs.Coding.{utf8_of_units}
use Rattle.tree_shape.specs.Trees.{Attribute}
use Rattle.tree_writer.specs.TreeText.{escape_text, escape_value, attribute_text}

-- the bytes of characters, U+FFFD for each that is none
abbrev bytes_of : List (Option ℕ) → List ℕ
bytes_of cs = encodes (map (λ o. unwrap_or o 0xFFFD) cs)

two_by : (a b c : Bool) → (a ≡ true → ⊥) → 2 ≤ cond a 1 (cond b 2 (cond c 3 4))
two_by true b c h = absurd (h refl)
two_by false true c h = omega arith
two_by false false true h = omega arith
two_by false false false h = omega arith

not_below : (c : ℕ) → 128 ≤ c → nat_lt c 0x80 ≡ true → ⊥
not_below c h e = let below = ltb-true c 0x80 e in absurd (omega arith)

pair_long : (u v : ℕ) → 2 ≤ length (encode (surrogate_pair_char u v))
pair_long u v =
    let c = surrogate_pair_char u v in
    let high : 128 ≤ c = omega arith in
    let two = two_by (nat_lt c 0x80) (nat_lt c 0x800) (nat_lt c 0x1_0000) (not_below c high) in
    let P : ℕ → Type 0 = λ n. 2 ≤ n in
    subst P (sym (length-encode c)) two

one_long : (c : ℕ) → 1 ≤ length (encode c)
one_long c = let P : ℕ → Type 0 = λ n. 1 ≤ n in subst P (sym (length-encode c)) (len_utf8_bounds c).0

lone_step : (u : ℕ) (us : List ℕ) → length us ≤ length (bytes_of (utf16_chars us)) → length us + 1 ≤ length (bytes_of (lone_unit_char u ∷ utf16_chars us))
lone_step u us h =
    let c = unwrap_or (lone_unit_char u) 0xFFFD in
    omega (arith, h, one_long c, length-append (encode c) (bytes_of (utf16_chars us)))

pair_step : (u v : ℕ) (us : List ℕ) → length us ≤ length (bytes_of (utf16_chars us)) → length us + 2 ≤ length (bytes_of (Some (surrogate_pair_char u v) ∷ utf16_chars us))
pair_step u v us h =
    let c = surrogate_pair_char u v in
    omega (arith, h, pair_long u v, length-append (encode c) (bytes_of (utf16_chars us)))

step : (b : Bool) (u v : ℕ) (us : List ℕ) → length us ≤ length (bytes_of (utf16_chars us)) → length (v ∷ us) ≤ length (bytes_of (utf16_chars (v ∷ us)))
    → length us + 2 ≤ length (bytes_of (if b then Some (surrogate_pair_char u v) ∷ utf16_chars us else lone_unit_char u ∷ utf16_chars (v ∷ us)))
step true u v us h k = pair_step u v us h
step false u v us h k = let one = lone_step u (v ∷ us) k in omega (arith, one)

units_long : (us : List ℕ) → length us ≤ length (bytes_of (utf16_chars us))
unfolding utf16_chars
units_long [] = omega arith
units_long (u ∷ []) = let one = lone_step u [] (omega arith) in omega (arith, one)
units_long (u ∷ v ∷ us) = let two = step (is_high_surrogate u && is_low_surrogate v) u v us (units_long us) (units_long (v ∷ us)) in omega (arith, two)

one_by : (a b c : Bool) (u : ℕ) → 1 ≤ length (cond a (codes "&amp;") (cond b (codes "&lt;") (cond c (codes "&gt;") (u ∷ []))))
one_by true b c u = omega arith
one_by false true c u = omega arith
one_by false false true u = omega arith
one_by false false false u = omega arith

escaped_long : (us : List ℕ) → length us ≤ length (flat_map escape_text us)
escaped_long [] = omega arith
escaped_long (u ∷ us) = omega (arith, escaped_long us, one_by (u == 38) (u == 60) (u == 62) u, length-append (escape_text u) (flat_map escape_text us))

written_long : (raw : Bool) (us : List ℕ) → length us ≤ length (cond raw us (flat_map escape_text us))
written_long true us = omega arith
written_long false us = escaped_long us

pub text_long : (raw : Bool) (us : List ℕ) → length us ≤ length (utf8_of_units (cond raw us (flat_map escape_text us)))
text_long raw us = omega (arith, written_long raw us, units_long (cond raw us (flat_map escape_text us)))

-- ---- attributes

one_of : (b : Bool) (us : List ℕ) → 1 ≤ length us → 1 ≤ length (cond b (codes "&quot;") us)
one_of true us h = omega arith
one_of false us h = h

value_long : (us : List ℕ) → length us ≤ length (flat_map escape_value us)
value_long [] = omega arith
value_long (u ∷ us) =
    omega (
      arith,
      value_long us,
      one_of (u == 34) (escape_text u) (one_by (u == 38) (u == 60) (u == 62) u),
      length-append (escape_value u) (flat_map escape_value us),
    )

-- what an attribute's text is made of
attribute_length : (a : Attribute) → length (utf8_of_units a.0) + length (utf8_of_units (flat_map escape_value a.1)) ≤ length (attribute_text a)
attribute_length a =
    let name = utf8_of_units a.0 in
    let value = utf8_of_units (flat_map escape_value a.1) in
    omega (
      arith,
      length-append (codes " ") (name ++ (codes "=\"" ++ (value ++ codes "\""))),
      length-append name (codes "=\"" ++ (value ++ codes "\"")),
      length-append (codes "=\"") (value ++ codes "\""),
      length-append value (codes "\""),
    )

-- an attribute's text has no fewer bytes than its name has units
pub attribute_name_long : (a : Attribute) → length a.0 ≤ length (attribute_text a)
attribute_name_long a = omega (arith, attribute_length a, units_long a.0)

-- nor than its value has
pub attribute_value_long : (a : Attribute) → length a.1 ≤ length (attribute_text a)
attribute_value_long a = omega (arith, attribute_length a, value_long a.1, units_long (flat_map escape_value a.1))
