-- The parts of a list with commas, one byte after another.
use Prim.Native.Char.{code}
use Rattle.std.proofs.Common.{◌≡◌, ◌≢◌, ℕ, ◌+◌, ◌-◌, ◌<◌, ◌≤◌, Bool, false, List, [], ◌∷◌, ◌++◌, length, get_or, drop, slice_range, refl, sym, ap, ◌∙◌, arith, eq-eqb, ne_eqb, length-drop, get_or-drop}
use Rattle.std.proofs.lemmas.Bool.{cond-true, cond-false}
use Rattle.std.proofs.lemmas.List.{drop_more, take_more}
use Rattle.std.specs.List.{list_any}
use Rattle.http_wire.specs.Fields.{is_close, parts_from}

-- a range that is one byte longer
slice_more : (value : List ℕ) (start at : ℕ) → start ≤ at → at < length value → slice_range value start (at + 1) ≡ slice_range value start at ++ get_or value at 0 ∷ []
slice_more value start at ordered inside =
    let n = at - start in
    let long : (at + 1) - start ≡ n + 1 = omega arith in
    let place : start + n ≡ at = omega arith in
    let room : n < length (drop start value) = omega (arith, length-drop start value) in
    rw (long, take_more (drop start value) n 0 room, get_or-drop, place)

-- a range from a place to itself
slice_none : (value : List ℕ) (at : ℕ) → slice_range value at at ≡ []
slice_none value at = let none : at - at ≡ 0 = omega arith in rw none

-- the parts at a comma
comma : (part rest : List ℕ) (byte : ℕ) → byte ≡ code "," → parts_from part (byte ∷ rest) ≡ part ∷ parts_from [] rest
comma part rest byte e = cond-true _ _ _ (eq-eqb byte (code ",") e)

-- the parts at another byte
no_comma : (part rest : List ℕ) (byte : ℕ) → byte ≢ code "," → parts_from part (byte ∷ rest) ≡ parts_from (part ++ byte ∷ []) rest
no_comma part rest byte e = cond-false _ _ _ (ne_eqb byte (code ",") e)

-- a part that isn't the option is passed at its comma
pub comma_passed : (value : List ℕ) (start at : ℕ) (answer : Bool) → at < length value → get_or value at 0 ≡ code "," → false ≡ is_close (slice_range value start at)
    → list_any is_close (parts_from (slice_range value start at) (drop at value)) ≡ answer
    → list_any is_close (parts_from (slice_range value (at + 1) (at + 1)) (drop (at + 1) value)) ≡ answer
comma_passed value start at answer inside is other before =
    let part = slice_range value start at in
    let rest = drop (at + 1) value in
    let parts : parts_from part (drop at value) ≡ part ∷ parts_from [] rest = ap (parts_from part) (drop_more value at 0 inside) ∙ comma part rest _ is in
    let left : list_any is_close (part ∷ parts_from [] rest) ≡ list_any is_close (parts_from [] rest) = rw (← other) refl in
    rw (slice_none value (at + 1)) (sym left ∙ ap (list_any is_close) (sym parts) ∙ before)

-- another byte belongs to the part
pub byte_added : (value : List ℕ) (start at : ℕ) (answer : Bool) → start ≤ at → at < length value → get_or value at 0 ≢ code ","
    → list_any is_close (parts_from (slice_range value start at) (drop at value)) ≡ answer
    → list_any is_close (parts_from (slice_range value start (at + 1)) (drop (at + 1) value)) ≡ answer
byte_added value start at answer ordered inside other before =
    let part = slice_range value start at in
    let rest = drop (at + 1) value in
    let parts : parts_from part (drop at value) ≡ parts_from (part ++ get_or value at 0 ∷ []) rest = ap (parts_from part) (drop_more value at 0 inside) ∙ no_comma part rest _ other in
    rw (slice_more value start at ordered inside) (ap (list_any is_close) (sym parts) ∙ before)
