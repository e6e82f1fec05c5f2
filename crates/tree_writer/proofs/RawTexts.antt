-- Whether a node's text is raw.
use Rattle.std.proofs.Common.{◌≡◌, false, ◌&&◌, Some, slice_get, refl, ap, sym, ◌∙◌}
use Rattle.page_units.specs.declared.value.CellName.{CellName}
use Rattle.cell_places.specs.declared.place.Slot.TheVariants.{Parent}
use Rattle.cell_places.specs.declared.kind.CellKind.{CellKind}
use Rattle.cell_places.specs.declared.kind.CellKind.TheVariants as kind
use Rattle.cell_places.specs.Kinds.{is_chars}
use Rattle.cell_places.specs.Heap.{Heap, place, kind_at}
use Rattle.tree_shape.proofs.Nodes.{kind_found}
use Rattle.tree_writer.specs.NodeText.{is_raw_parent, is_raw_text}

not_chars : (k : CellKind) → (k ≡ kind.Chars → ⊥) → is_chars k ≡ false
not_chars (kind.Scope outer) h = refl
not_chars kind.Plain h = refl
not_chars kind.List h = refl
not_chars (kind.Fault name) h = refl
not_chars (kind.Fun code scope) h = refl
not_chars (kind.Native which) h = refl
not_chars kind.Page h = refl
not_chars kind.Document h = refl
not_chars (kind.Element name) h = refl
not_chars kind.Chars h = absurd (h refl)
not_chars kind.Event h = refl

-- the text of a cell that is no text node isn't
pub other_not_raw : (H : Heap) (n : CellName) (k : CellKind) → slice_get H.kinds n.0 ≡ Some k → (k ≡ kind.Chars → ⊥)
    → false ≡ is_raw_text H n
other_not_raw H n k e h =
    let is : is_chars (kind_at H n) ≡ false = ap is_chars (kind_found H n k e) ∙ not_chars k h in
    λ i. sym is i && is_raw_parent H (H.at (place n Parent))
