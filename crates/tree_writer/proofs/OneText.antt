-- A node has one tree text at most.
use Rattle.std.proofs.Common.{◌≡◌, ℕ, ◌<◌, ◌≤◌, length, Bool, true, false, List, [], refl, ap, sym, ◌∙◌, subst}
use Rattle.page_units.specs.declared.value.CellName.{CellName}
use Rattle.cell_places.specs.declared.kind.CellKind.{CellKind}
use Rattle.cell_places.specs.declared.kind.CellKind.TheVariants as kind
use Rattle.cell_places.specs.declared.place.Slot.TheVariants as s
use Rattle.cell_places.specs.Heap.{Heap, place, text_in}
use Rattle.tree_shape.specs.Trees.{Trees}
use Rattle.tree_shape.specs.Trees as t
use Rattle.tree_writer.specs.TreeText.{trees_text}
use Rattle.tree_writer.specs.Appends.{Appended}
use Rattle.tree_shape.specs.Holds as holds
use Rattle.tree_shape.specs.Holds.{Holds, served, attributes_at}
use Rattle.tree_writer.specs.NodeText.{is_raw_text, IsTreeText}

-- the name of an element
name_of : CellKind → List ℕ
name_of (kind.Element name) = name
name_of _ = []

same_name : (k : CellKind) (one other : List ℕ) → k ≡ kind.Element one → k ≡ kind.Element other → one ≡ other
unfolding name_of
same_name k one other e f = sym (ap name_of e) ∙ ap name_of f

-- cells hold one list of trees at most
pub trees_alike : (H : Heap) (cells : List CellName) (one other : Trees) → Holds H cells one → Holds H cells other → one ≡ other
trees_alike H _ _ _ holds.none holds.none = refl
trees_alike H _ _ _ (holds.text n cells more k rest) (holds.text _ _ other l others) = ap (λ (z : Trees). t.text (text_in (H.at (place n s.Chars))) z) (trees_alike H cells more other rest others)
trees_alike H _ _ _ (holds.text n cells more k rest) (holds.element _ name _ children other l below others) = absurd (cc)
trees_alike H _ _ _ (holds.element n name cells children more k below rest) (holds.text _ _ other l others) = absurd (cc)
trees_alike H _ _ _ (holds.element n name cells children more k below rest) (holds.element _ also _ within other l under others) =
    let names = same_name _ name also k l in
    let inner = trees_alike H _ children within below under in
    let outer = trees_alike H cells more other rest others in
    λ i. t.element (names i) (attributes_at H n) (inner i) (outer i)

pub one_text : (H : Heap) (n : CellName) (one other : List ℕ) → IsTreeText H n one → IsTreeText H n other → one ≡ other
one_text H n one other is also = is.text ∙ ap (trees_text (is_raw_text H n)) (trees_alike H _ is.trees also.trees is.holds also.holds) ∙ sym also.text

-- ---- a node's text, found whole or too long

pub whole_found : (H : Heap) (n : CellName) (most : ℕ) (raw is : Bool) (old new : List ℕ) (held : (trees : Trees) × Holds H (served H n) trees)
    → raw ≡ is_raw_text H n → old ≡ [] → is ≡ true → Appended is most old new (trees_text raw held.0)
    → IsTreeText H n new × (length new ≤ most)
whole_found H n most raw is old new held r e f a =
    let text = trees_text raw held.0 in
    let all : Appended true most [] new text =
    subst (λ b. Appended b most [] new text) f (subst (λ (xs : List ℕ). Appended is most xs new text) e a) in
    (record { trees = held.0; holds = held.1; text = all.0 ∙ ap (λ b. trees_text b held.0) r }, all.1)

pub too_long_found : (H : Heap) (n : CellName) (most : ℕ) (raw is : Bool) (old new : List ℕ) (held : (trees : Trees) × Holds H (served H n) trees)
    → raw ≡ is_raw_text H n → old ≡ [] → is ≡ false → Appended is most old new (trees_text raw held.0)
    → (bytes : List ℕ) × IsTreeText H n bytes × (most < length bytes)
too_long_found H n most raw is old new held r e f a =
    let text = trees_text raw held.0 in
    let long : Appended false most [] new text =
    subst (λ b. Appended b most [] new text) f (subst (λ (xs : List ℕ). Appended is most xs new text) e a) in
    (text, record { trees = held.0; holds = held.1; text = ap (λ b. trees_text b held.0) r }, long)
