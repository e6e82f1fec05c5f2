-- Trees of elements and text nodes, as lists of siblings. Names, values and texts are lists of UTF-16 units.
use Rattle.std.specs.Prelude.{ℕ, List, map}
use Rattle.cell_places.specs.Lists.{Distinct}

-- a name and its value
abbrev pub Attribute : Type 0
Attribute = List ℕ × List ℕ

-- no more siblings; a text node and its later siblings; an element (its name, its attributes in order of insertion, its
-- children) and its later siblings
pub data Trees : Type 0 where
  none : Trees
  text : List ℕ → Trees → Trees
  element : List ℕ → List Attribute → Trees → Trees → Trees

-- no element has two attributes of one name
abbrev pub HaveNamesOnce : Trees → Type 0
HaveNamesOnce none = Unit {0}
HaveNamesOnce (text units more) = HaveNamesOnce more
HaveNamesOnce (element name attributes children more) =
    Distinct (map (λ (a : Attribute). a.0) attributes) × HaveNamesOnce children × HaveNamesOnce more
