-- What can be asked and cleared where the kinds are those of a start.
use Rattle.std.proofs.Common.{◌≡◌, ℕ, ◌<◌, List, length, true, slice_get, refl, ap, ◌∙◌, arith}
use Rattle.std.proofs.lemmas.Bool.{lt-ltb}
use Rattle.page_units.specs.declared.value.Value.TheVariants.{Cell}
use Rattle.cell_places.specs.declared.place.Slot.{Slot}
use Rattle.cell_places.specs.declared.answer.Answer.TheVariants.{Absent, One}
use Rattle.cell_places.specs.declared.kind.CellKind.{CellKind}
use Rattle.cell_places.specs.declared.kind.CellKind.TheVariants.{Page, Document}
use Rattle.cell_places.specs.Slots.{has_slot, sort_of, suits}
use Rattle.cell_places.specs.Heap.{cell, place}
use Rattle.cell_places.specs.Valid.{CanAskIn, CanPutIn}
use Rattle.cell_places.specs.Known.{page_cell, document_cell}
use Rattle.cell_places.specs.Start.{start_kinds}
use Rattle.cell_places.proofs.StartKinds.{start_founds}

-- each slot of the page can be asked
pub page_asked : (kinds : List CellKind) (slot : Slot) → kinds ≡ start_kinds → has_slot Page slot ≡ true → CanAskIn kinds (place page_cell slot)
page_asked kinds slot e h = (Page, ap (λ (ks : List CellKind). slice_get ks 1) e ∙ start_founds.page, h)

-- each slot of the document can be asked
pub document_asked : (kinds : List CellKind) (slot : Slot) → kinds ≡ start_kinds → has_slot Document slot ≡ true → CanAskIn kinds (place document_cell slot)
document_asked kinds slot e h = (Document, ap (λ (ks : List CellKind). slice_get ks 2) e ∙ start_founds.document, h)

-- and what stands there can be taken away
pub document_cleared : (kinds : List CellKind) (slot : Slot) → kinds ≡ start_kinds → has_slot Document slot ≡ true → CanPutIn kinds (place document_cell slot) Absent
document_cleared kinds slot e h = record {
  there = document_asked kinds slot e h;
  suits = refl;
  names = tt;
  numbers = tt;
}

-- and a cell of the start can be put there
pub document_put : (kinds : List CellKind) (slot : Slot) (n : ℕ) → kinds ≡ start_kinds → has_slot Document slot ≡ true → suits (sort_of slot) (One (Cell (cell n))) ≡ true → n < 128 → CanPutIn kinds (place document_cell slot) (One (Cell (cell n)))
document_put kinds slot n e h fits few =
    let count = ap (λ (ks : List CellKind). length ks) e ∙ start_founds.count in
    record {
      there = document_asked kinds slot e h;
      suits = fits;
      names = lt-ltb n (length kinds) (omega (arith, few, count));
      numbers = tt;
    }
