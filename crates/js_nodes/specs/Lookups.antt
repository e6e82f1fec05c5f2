-- Ordered sets that find the names of what a list has.
use Rattle.std.specs.Prelude.{◌≡◌, ℕ, List, bytes_eq}
use Rattle.std.specs.BTreeSet.{BTreeSet, contains}
use Rattle.std.specs.List.{list_any}
use Rattle.page_units.specs.Texts.{text_cmp}

-- The set has exactly the names of these items.
abbrev pub Finds : {X : Type 0} → (X → List ℕ) → BTreeSet (List ℕ) → List X → Type 0
Finds name sorted items = (n : List ℕ) → contains text_cmp sorted n ≡ list_any (λ x. bytes_eq (name x) n) items
