-- The texts of a script.
use Rattle.std.specs.Prelude.{ℕ, List}
use Rattle.std.specs.declared.cmp.Ordering.{Ordering}
use Rattle.std.specs.Cmp.Lexicographic.{slice_cmp}
use Rattle.std.specs.Ordering.{nat_cmp}

-- how many units a text has at most (this project's own)
abbrev pub longest_text : ℕ
longest_text = 65535

-- texts stand in the order of their units (ECMA-262 5.1, 11.8.5)
abbrev pub text_cmp : List ℕ → List ℕ → Ordering
text_cmp = slice_cmp nat_cmp
