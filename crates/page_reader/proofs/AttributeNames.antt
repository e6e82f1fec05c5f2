-- The names of attributes with one more.
use Rattle.std.proofs.Common.{◌≡◌, ℕ, Bool, true, false, cond, List, [], ◌∷◌, ◌++◌, refl, sym, ap, ◌∙◌}
use Rattle.std.specs.Prelude.{◌||◌}
use Rattle.std.specs.BTreeSet.{BTreeSet, contains, Updates}
use Rattle.std.specs.Cmp.Lexicographic.{slice_cmp}
use Rattle.std.specs.Ordering.{nat_cmp, is_eq}
use Rattle.std.specs.Str.{bytes_eq}
use Rattle.std.proofs.lemmas.Map.Text.{is_eq-slice_cmp}
use Rattle.page_reader.specs.declared.node.Attribute.{Attribute}
use Rattle.page_reader.specs.Attributes.{has_name}

abbrev equal : List ℕ → List ℕ → Bool
equal xs ys = is_eq (slice_cmp nat_cmp xs ys)

-- the new name, or one of the others
has_name_pushed : (given : List Attribute) (a : Attribute) (name : List ℕ) → has_name (given ++ a ∷ []) name ≡ cond (equal a.name name) true (has_name given name)
has_name_pushed [] a name = rw (is_eq-slice_cmp a.name name) (alone (bytes_eq a.name name))
  where
    alone : (here : Bool) → (here || false) ≡ cond here true false
    alone true = refl
    alone false = refl
has_name_pushed (b ∷ more) a name = rw (has_name_pushed more a name) (either (bytes_eq b.name name) (equal a.name name) (has_name more name))
  where
    either : (first here others : Bool) → (first || cond here true others) ≡ cond here true (first || others)
    either true true others = refl
    either true false others = refl
    either false here others = refl

-- A set of the names of a list is, with one name more, a set of those of the list with that attribute behind it.
pub names_with : (old new : BTreeSet (List ℕ)) (given : List Attribute) (a : Attribute) (key : List ℕ)
    → ((name : List ℕ) → contains (slice_cmp nat_cmp) old name ≡ has_name given name)
    → key ≡ a.name
    → Updates (slice_cmp nat_cmp) old new key true
    → (name : List ℕ) → contains (slice_cmp nat_cmp) new name ≡ has_name (given ++ a ∷ []) name
names_with old new given a key known same updates name =
    updates.0 name
    ∙ (ap (λ k. cond (equal k name) true (contains (slice_cmp nat_cmp) old name)) same
    ∙ (ap (λ b. cond (equal a.name name) true b) (known name)
    ∙ sym (has_name_pushed given a name)))
