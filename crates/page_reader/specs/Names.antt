-- Names of elements and attributes, lowered, and the elements and attributes with rules of their own (this project's own
-- page form).
use Rattle.std.specs.Prelude.{ℕ, Bool, List, [], ◌∷◌, ◌++◌, codes}
use Rattle.std.specs.Str.{bytes_eq}
use Rattle.grammar.specs.Grammar.{done, again}
use Rattle.grammar.specs.Words.{◌>>=◌}
use Rattle.placed_chars.specs.declared.chars.Char.{Char}
use Rattle.page_reader.specs.Classes.{is_part, lower}
use Rattle.page_reader.specs.Rules.{R, one}

abbrev pub name_goes : List ℕ → Char → Bool
name_goes _ t = is_part t.code

abbrev pub more_name : List ℕ → R (List ℕ)
more_name name = do
  t ← one is_part
  done (name ++ lower t.code ∷ [])

-- Name = letter {letter | digit | -}   behind its first letter
unfoldable pub name : ℕ → R (List ℕ)
name letter = again name_goes more_name (lower letter ∷ [])

-- the element whose content is a script
abbrev pub is_script : List ℕ → Bool
is_script name = bytes_eq name (codes "script")

-- the attribute that no script may have
abbrev pub is_src : List ℕ → Bool
is_src name = bytes_eq name (codes "src")
