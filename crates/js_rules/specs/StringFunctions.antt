-- The built-in functions of texts (ECMA-262 5.1, 15.5), with whole numbers alone and literal replacements (this
-- project's own).
use Rattle.std.specs.Prelude.{ℕ, min, max, ℤ, pos, int_lt, nat_abs, List, [], ◌∷◌, ◌++◌, map, length, Option, Some, None, slice_get, if◌then◌else◌}
use Rattle.page_units.specs.declared.value.Value.{Value}
use Rattle.page_units.specs.declared.value.Value.TheVariants as v
use Rattle.js_rules.specs.Arguments.{arg, text_in}
use Rattle.js_rules.specs.ListItems.{answers, new_list}
use Rattle.js_rules.specs.Tasks.{Outcomes, made, ToInteger, AllIntegers, PutPieces}
use Rattle.js_rules.specs.Prog.{Prog, Ret, ◌>>=◌, ◌>>◌, part, bad_argument}
use Rattle.js_rules.specs.Integers.{whole, whole_or}
use Rattle.js_rules.specs.Texts.{between, clamped, first_place, last_from, place_number, split_by, unit_of}
use Rattle.js_rules.specs.ListItems.{relative_index}
use Rattle.js_rules.specs.ListFunctions.{end_of}

-- ---- String (15.5)

-- what is done with the text that the function is called on
abbrev pub on_text : Value → (List ℕ → Prog Outcomes) → Prog Outcomes
on_text (v.Str t) m = m t
on_text _ m = bad_argument

-- String (15.5.1)
abbrev pub string_of : List Value → Prog Outcomes
string_of [] = answers (v.Str [])
string_of (x ∷ more) = answers x

-- fromCharCode (15.5.3.2)
abbrev pub from_char_code : List Value → Prog Outcomes
from_char_code args = do
  zs ← part (AllIntegers args)
  Ret (made (map unit_of zs))

-- the unit at a number, if it is one
abbrev pub unit_in : List ℕ → ℤ → Option ℕ
unit_in t z = if int_lt z (pos 0) then None else slice_get t (nat_abs z)

abbrev pub one_unit : Option ℕ → List ℕ
one_unit None = []
one_unit (Some unit) = unit ∷ []

abbrev pub unit_number : Option ℕ → Option ℤ
unit_number None = None
unit_number (Some unit) = Some (pos unit)

-- charAt (15.5.4.4)
abbrev pub char_at : List Value → List ℕ → Prog Outcomes
char_at args t = do
  z ← part (ToInteger (pos 0) (arg 0 args))
  Ret (made (one_unit (unit_in t z)))

-- charCodeAt (15.5.4.5)
abbrev pub char_code_at : List Value → List ℕ → Prog Outcomes
char_code_at args t = do
  z ← part (ToInteger (pos 0) (arg 0 args))
  whole_or (unit_number (unit_in t z))

-- indexOf (15.5.4.7)
abbrev pub text_index_of : List Value → List ℕ → Prog Outcomes
text_index_of args t = do
  z ← part (ToInteger (pos 0) (arg 1 args))
  whole (place_number (first_place (clamped z (length t)) (text_in (arg 0 args)) t))

-- lastIndexOf (15.5.4.8): what is no number is the end
abbrev pub text_last_index_of : List Value → List ℕ → Prog Outcomes
text_last_index_of args t = do
  z ← part (ToInteger (pos (length t)) (arg 1 args))
  whole (place_number (last_from 0 (clamped z (length t)) (text_in (arg 0 args)) t))

-- slice (15.5.4.13)
abbrev pub text_slice : List Value → List ℕ → Prog Outcomes
text_slice args t = do
  from ← part (ToInteger (pos 0) (arg 0 args))
  until ← part (ToInteger (pos 0) (arg 1 args))
  Ret (made (between (relative_index from (length t)) (end_of (arg 1 args) (length t) until) t))

abbrev pub clamped_end : Value → ℕ → ℤ → ℕ
clamped_end v.Undefined n z = n
clamped_end _ n z = clamped z n

-- substring (15.5.4.15)
abbrev pub substring : List Value → List ℕ → Prog Outcomes
substring args t = do
  from ← part (ToInteger (pos 0) (arg 0 args))
  until ← part (ToInteger (pos 0) (arg 1 args))
  Ret (made (between
      (min (clamped from (length t)) (clamped_end (arg 1 args) (length t) until))
      (max (clamped from (length t)) (clamped_end (arg 1 args) (length t) until)) t))

abbrev pub pieces_by : Value → List ℕ → List (List ℕ)
pieces_by (v.Str separator) t = split_by separator t
pieces_by _ t = t ∷ []

-- split (15.5.4.14)
abbrev pub split : List Value → List ℕ → Prog Outcomes
split args t = new_list λ list. do
  part (PutPieces list 0 (pieces_by (arg 0 args) t))
  answers (v.Cell list)

abbrev pub all_texts : List Value → List ℕ
all_texts [] = []
all_texts (x ∷ more) = text_in x ++ all_texts more

abbrev pub own_text : Value → Prog Outcomes
own_text (v.Str t) = answers (v.Str t)
own_text _ = bad_argument
