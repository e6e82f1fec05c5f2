-- Texts as lists of units: what the built-in functions of texts compute (ECMA-262 5.1, 15.5.4; that ASCII
-- letters alone change their case is this project's own).
use Prim.Native.Char.{code}
use Rattle.std.specs.Prelude.{ℕ, zero, suc, ◌+◌, ◌-◌, ◌%◌, ◌==◌, min, nat_le, nat_abs, ℤ, pos, negsuc, int_lt, Bool, true, false, ◌&&◌, cond, List, [], ◌∷◌, ◌++◌, map, length, take, drop, Option, Some, None, if◌then◌else◌}

-- the second text begins with the first
abbrev pub starts_with : List ℕ → List ℕ → Bool
starts_with [] hay = true
starts_with (c ∷ cs) [] = false
starts_with (c ∷ cs) (d ∷ ds) = c == d && starts_with cs ds

-- the first place from i on at which the text stands
abbrev pub first_from : ℕ → List ℕ → List ℕ → Option ℕ
first_from i needle [] = cond (starts_with needle []) (Some i) None
first_from i needle (d ∷ ds) =
    cond (starts_with needle (d ∷ ds)) (Some i) (first_from (i + 1) needle ds)

abbrev pub first_place : ℕ → List ℕ → List ℕ → Option ℕ
first_place start needle hay = first_from start needle (drop start hay)

abbrev pub or_else : Option ℕ → Option ℕ → Option ℕ
or_else None other = other
or_else (Some i) other = Some i

-- the last place up to `most` at which the text stands
abbrev pub last_from : ℕ → ℕ → List ℕ → List ℕ → Option ℕ
last_from i most needle [] = cond (nat_le i most && starts_with needle []) (Some i) None
last_from i most needle (d ∷ ds) =
    or_else (last_from (i + 1) most needle ds) (cond (nat_le i most && starts_with needle (d ∷ ds)) (Some i) None)

-- a place, or -1
abbrev pub place_number : Option ℕ → ℤ
place_number None = negsuc 0
place_number (Some i) = pos i

-- the pieces between the separators; the next `skip` units belong to a separator
abbrev pub pieces : List ℕ → (skip : ℕ) → (piece hay : List ℕ) → List (List ℕ)
pieces separator skip piece [] = piece ∷ []
pieces separator (suc skip) piece (d ∷ ds) = pieces separator skip piece ds
pieces separator zero piece (d ∷ ds) = cond (starts_with separator (d ∷ ds))
    (piece ∷ pieces separator (length separator - 1) [] ds)
    (pieces separator zero (piece ++ d ∷ []) ds)

-- by the empty text each unit is a piece
abbrev pub split_by : List ℕ → List ℕ → List (List ℕ)
split_by [] t = map (λ unit. unit ∷ []) t
split_by (c ∷ cs) t = pieces (c ∷ cs) 0 [] t

abbrev pub between : ℕ → ℕ → List ℕ → List ℕ
between from until t = take (until - from) (drop from t)

abbrev pub replaced_at : Option ℕ → List ℕ → List ℕ → List ℕ → List ℕ
replaced_at None old new t = t
replaced_at (Some i) old new t = take i t ++ new ++ drop (i + length old) t

-- the first place of a text by a text
abbrev pub replaced : List ℕ → List ℕ → List ℕ → List ℕ
replaced old new t = replaced_at (first_place 0 old t) old new t

abbrev pub lower_unit : ℕ → ℕ
lower_unit c = cond (nat_le (code "A") c && nat_le c (code "Z")) (c + 32) c

abbrev pub upper_unit : ℕ → ℕ
upper_unit c = cond (nat_le (code "a") c && nat_le c (code "z")) (c - 32) c

-- a number within 0 and n
abbrev pub clamped : ℤ → ℕ → ℕ
clamped z n = if int_lt z (pos 0) then 0 else min (nat_abs z) n

-- a number modulo 65,536
abbrev pub unit_of : ℤ → ℕ
unit_of (pos n) = n % 65536
unit_of (negsuc n) = 65535 - n % 65536
