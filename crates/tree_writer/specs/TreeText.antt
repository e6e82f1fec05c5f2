-- The text of trees (this project's own, after HTML's serialization).
use Rattle.std.specs.Prelude.{ℕ, List, [], ◌∷◌, ◌++◌, Bool, true, false, cond, ◌==◌, ◌&&◌, codes}
use Rattle.std.specs.List.{flat_map}
use Rattle.page_units.specs.Coding.{utf8_of_units}
use Rattle.tree_shape.specs.Names.{is_void, is_raw}
use Rattle.tree_shape.specs.Trees.{Trees, Attribute, none, text, element}

-- the unit is this character
abbrev pub is_character : List ℕ → ℕ → Bool
is_character [] unit = false
is_character (c ∷ _) unit = unit == c

-- `&`, `<` and `>` in a text
abbrev pub escape_text : ℕ → List ℕ
escape_text unit =
    cond (is_character (codes "&") unit) (codes "&amp;")
    (cond (is_character (codes "<") unit) (codes "&lt;")
    (cond (is_character (codes ">") unit) (codes "&gt;") (unit ∷ [])))

-- and `"` besides in a value
abbrev pub escape_value : ℕ → List ℕ
escape_value unit = cond (is_character (codes "\"") unit) (codes "&quot;") (escape_text unit)

-- ` name="value"`
abbrev pub attribute_text : Attribute → List ℕ
attribute_text a = codes " " ++ (utf8_of_units a.0 ++ (codes "=\"" ++ (utf8_of_units (flat_map escape_value a.1) ++ codes "\"")))

-- `<name`, the attributes, `>`
abbrev pub start_tag : List ℕ → List Attribute → List ℕ
start_tag name attributes = codes "<" ++ (utf8_of_units name ++ (flat_map attribute_text attributes ++ codes ">"))

-- `</name>`
abbrev pub end_tag : List ℕ → List ℕ
end_tag name = codes "</" ++ (utf8_of_units name ++ codes ">")

abbrev pub is_none : Trees → Bool
is_none none = true
is_none (text units more) = false
is_none (element name attributes children more) = false

-- The text of siblings; `raw` where they are the children of a `script` or `style`. A void element without children ends
-- after its start tag.
abbrev pub trees_text : (raw : Bool) → Trees → List ℕ
trees_text raw none = []
trees_text raw (text units more) = cond raw (utf8_of_units units) (utf8_of_units (flat_map escape_text units)) ++ trees_text raw more
trees_text raw (element name attributes children more) =
    start_tag name attributes
    ++ (cond (is_void name && is_none children) [] (trees_text (is_raw name) children ++ end_tag name)
    ++ trees_text raw more)
