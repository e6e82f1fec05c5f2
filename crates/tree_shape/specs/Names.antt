-- Names of elements that have a rule of their own (this project's page form, after HTML's void and raw text elements).
use Rattle.std.specs.Prelude.{ℕ, List, [], ◌∷◌, Bool, codes}
use Rattle.std.specs.List.{list_any}
use Rattle.std.specs.Str.{bytes_eq}

-- the elements without children and end tag
abbrev pub void_names : List (List ℕ)
void_names =
    codes "area" ∷ codes "base" ∷ codes "br" ∷ codes "col" ∷ codes "embed" ∷ codes "hr" ∷ codes "img" ∷ codes "input"
    ∷ codes "link" ∷ codes "meta" ∷ codes "source" ∷ codes "track" ∷ codes "wbr" ∷ []

-- the elements whose text is raw
abbrev pub raw_names : List (List ℕ)
raw_names = codes "script" ∷ codes "style" ∷ []

abbrev pub is_void : List ℕ → Bool
is_void name = list_any (λ (void : List ℕ). bytes_eq name void) void_names

abbrev pub is_raw : List ℕ → Bool
is_raw name = list_any (λ (raw : List ℕ). bytes_eq name raw) raw_names
