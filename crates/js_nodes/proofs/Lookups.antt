-- A set that finds names, after one more.
use Rattle.std.proofs.Common.{◌≡◌, ℕ, List, [], ◌∷◌, ◌++◌, Bool, true, false, cond, ◌||◌, sym, ap, ◌∙◌, refl}
use Rattle.std.specs.Prelude.{bytes_eq}
use Rattle.std.specs.BTreeSet.{BTreeSet, contains, Updates}
use Rattle.std.specs.Cmp.Lexicographic.{texts_ties}
use Rattle.std.specs.List.{list_any}
use Rattle.page_units.specs.Texts.{text_cmp}
use Rattle.std.proofs.lemmas.List.Folds.{list_any-append}
use Rattle.js_nodes.specs.Lookups.{Finds}

either : (b c : Bool) → cond b true c ≡ (c || (b || false))
either true true = refl
either true false = refl
either false true = refl
either false false = refl

-- A set that finds the names of these items does so of one item more, once it has that item's name too.
pub finds_more : {X : Type 0} (name : X → List ℕ) (old new : BTreeSet (List ℕ)) (items : List X) (item : X)
    → Finds name old items
    → Updates text_cmp old new (name item) true
    → Finds name new (items ++ item ∷ [])
finds_more name old new items item known updates n =
    updates.0 n
    ∙ (ap (λ b. cond b true (contains text_cmp old n)) (sym (texts_ties (name item) n))
    ∙ (ap (λ c. cond (bytes_eq (name item) n) true c) (known n)
    ∙ (either (bytes_eq (name item) n) (list_any (λ x. bytes_eq (name x) n) items)
    ∙ sym (list_any-append (λ x. bytes_eq (name x) n) items (item ∷ [])))))
