-- The texts of attributes, one after another.
use Rattle.std.proofs.Common.{◌≡◌, ℕ, ◌+◌, ◌<◌, length, List, [], ◌∷◌, ◌++◌, map, take, drop, get_or, true, false, ap, sym, ◌∙◌, subst}
use Rattle.std.specs.List.{flat_map}
use Rattle.std.proofs.lemmas.List.{take_more, take-append-drop, map-append, append-nil}
use Rattle.std.proofs.lemmas.Grind.{flat_map-append}
use Rattle.page_units.specs.declared.value.CellName.{CellName}
use Rattle.cell_places.specs.Heap.{Heap}
use Rattle.tree_shape.specs.Trees.{Attribute}
use Rattle.tree_writer.specs.TreeText.{attribute_text}
use Rattle.tree_writer.specs.Appends.{Appended}
use Rattle.tree_shape.specs.Holds.{attribute_at}
use Rattle.tree_writer.proofs.Appending.{appended_then, appended_cut}

-- the texts of the attributes of these names
abbrev pub texts : Heap → CellName → List (List ℕ) → List ℕ
texts H n names = flat_map attribute_text (map (attribute_at H n) names)

texts-append : (H : Heap) (n : CellName) (one other : List (List ℕ)) → texts H n (one ++ other) ≡ texts H n one ++ texts H n other
texts-append H n one other =
    ap (λ (xs : List Attribute). flat_map attribute_text xs) (map-append (attribute_at H n) one other) ∙ flat_map-append attribute_text (map (attribute_at H n) one) (map (attribute_at H n) other)

-- with the next name's text
texts_more : (H : Heap) (n : CellName) (names : List (List ℕ)) (i : ℕ) (name : List ℕ) → i < length names → name ≡ get_or names i name
    → texts H n (take (i + 1) names) ≡ texts H n (take i names) ++ attribute_text (attribute_at H n name)
texts_more H n names i name below e =
    ap (texts H n) (take_more names i name below ∙ ap (λ (x : List ℕ). take i names ++ x ∷ []) (sym e))
    ∙ (texts-append H n (take i names) (name ∷ []) ∙ ap (λ (xs : List ℕ). texts H n (take i names) ++ xs) (append-nil (attribute_text (attribute_at H n name))))

-- the next attribute was appended too
pub next_attribute : (H : Heap) (n : CellName) (names : List (List ℕ)) (i most : ℕ) (old mid new name : List ℕ) → i < length names → name ≡ get_or names i name
    → Appended true most old mid (texts H n (take i names)) → Appended true most mid new (attribute_text (attribute_at H n name)) → Appended true most old new (texts H n (take (i + 1) names))
next_attribute H n names i most old mid new name below e h k =
    subst (Appended true most old new) (sym (texts_more H n names i name below e)) (appended_then true most old mid new (texts H n (take i names)) (attribute_text (attribute_at H n name)) h k)

-- more than `most` bytes already
pub attribute_too_long : (H : Heap) (n : CellName) (names : List (List ℕ)) (i most : ℕ) (old mid new name : List ℕ) → i < length names → name ≡ get_or names i name
    → Appended true most old mid (texts H n (take i names)) → Appended false most mid new (attribute_text (attribute_at H n name)) → Appended false most old new (texts H n names)
attribute_too_long H n names i most old mid new name below e h k =
    let front = appended_then false most old mid new (texts H n (take i names)) (attribute_text (attribute_at H n name)) h k in
    let whole = sym (ap (texts H n) (take-append-drop (i + 1) names)) ∙ (texts-append H n (take (i + 1) names) (drop (i + 1) names) ∙ ap (λ (xs : List ℕ). xs ++ texts H n (drop (i + 1) names)) (texts_more H n names i name below e)) in
    subst (Appended false most old new) (sym whole) (appended_cut most old new new (texts H n (take i names) ++ attribute_text (attribute_at H n name)) (texts H n (drop (i + 1) names)) front)
