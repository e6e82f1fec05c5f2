-- The characters of a text with their places in its UTF-8 (this project's own).
use Rattle.std.specs.Prelude.{ℕ, ◌+◌, ◌≤◌, Bool, nat_le, List, [], ◌∷◌}
use Rattle.std.specs.Char.{len_utf8}
use Rattle.placed_chars.specs.declared.chars.Char.{Char}

-- these characters from this byte on, and the end as a last one
abbrev pub placed : ℕ → List ℕ → List Char
placed at [] = record { code = 0x11_0000; at = at; past = at } ∷ []
placed at (c ∷ cs) = record { code = c; at = at; past = at + len_utf8 c } ∷ placed (at + len_utf8 c) cs

-- what stands behind the end
abbrev pub stop : Char
stop = record { code = 0x11_0001; at = 0; past = 0 }

-- the code of the end, or of what stands behind it, and of no character
abbrev pub is_end : ℕ → Bool
is_end c = nat_le 0x11_0000 c

-- None of them reaches behind this byte.
abbrev pub AreWithin : ℕ → List Char → Type 0
AreWithin n [] = Unit {0}
AreWithin n (t ∷ ts) = (t.past ≤ n) × AreWithin n ts
