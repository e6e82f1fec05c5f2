-- A list's length and the page's clock are put: the heap stays sound.
use Rattle.std.proofs.Common.{ℕ, ℤ, pos, ◌+◌, ◌≤ℤ◌, arith}
use Rattle.page_units.specs.declared.value.CellName.{CellName}
use Rattle.page_units.specs.declared.value.Value.TheVariants as v
use Rattle.cell_places.specs.declared.place.Place.{Place}
use Rattle.cell_places.specs.declared.place.Slot.TheVariants as s
use Rattle.cell_places.specs.declared.answer.Answer.{Answer}
use Rattle.cell_places.specs.declared.answer.Answer.TheVariants as a
use Rattle.cell_places.specs.Heap.{Heap, place, put_at, weight_left}
use Rattle.cell_places.specs.Valid.{CanPut}
use Rattle.cell_places.specs.Acts.{placed, moved}
use Rattle.cell_places.specs.Start.{page_cell}
use Rattle.cell_places.specs.Sound.{LengthFits}
use Rattle.cell_places.specs.Spare.{Spare}
use Rattle.cell_places.proofs.SamePlace.{put_at-same}
use Rattle.cell_places.proofs.KeepsSound.{IdsBelow-kept}
use Rattle.cell_places.proofs.Puts.{slot_each, KeepsBut, KeepsBut-put, KeepsPage-but, stands_put, answers_put, lengths_kept, attributes_kept, nodes_kept, page_kept, sums_kept}
use Rattle.cell_places.proofs.Spare.{parts_spare, spare_puts}

-- a length from 0 to 65536
pub spare_length : (codes credit : ℕ) (H : Heap) (n : CellName) (z : ℤ) → Spare codes credit H → CanPut H (place n s.Length) (a.One (v.Num z)) → pos 0 ≤ℤ z → z ≤ℤ pos 65536 → Spare codes credit (moved H (placed (place n s.Length) (a.One (v.Num z))))
spare_length codes credit H n z spare can low high =
    let weight = weight_left H + credit in
    let x = a.One (v.Num z) in
    let p = place n s.Length in
    let g : Place → Answer = put_at H.at p x in
    let parts = parts_spare codes credit H spare in
    let keeps : KeepsBut 3 H.at g = KeepsBut-put H.at p x in
    spare_puts codes credit credit H g spare (record {
      places = stands_put weight H p x parts can;
      answers = answers_put weight H p x parts tt;
      lengths = slot_each LengthFits H.at n s.Length x (low, high) parts.lengths;
      attributes = attributes_kept weight H g parts (keeps s.AttrNames (λ e. cc)) (λ name. keeps (s.Attr name) (λ e. cc));
      nodes = nodes_kept weight H g parts (keeps s.Parent (λ e. cc)) (keeps s.Children (λ e. cc));
      page = page_kept weight H g parts (KeepsPage-but 3 H.at g (omega arith) keeps);
      sums = sums_kept weight H g parts (keeps s.Heard (λ e. cc)) (keeps s.NextTimer (λ e. cc)) (keeps s.NextGuess (λ e. cc));
    })

-- a moment on the page's clock, from 0 to 2^53 - 1
pub spare_clock : (codes credit : ℕ) (H : Heap) (z : ℤ) → Spare codes credit H → CanPut H (place page_cell s.Clock) (a.One (v.Num z)) → pos 0 ≤ℤ z → z ≤ℤ pos 9007199254740991 → Spare codes credit (moved H (placed (place page_cell s.Clock) (a.One (v.Num z))))
spare_clock codes credit H z spare can low high =
    let weight = weight_left H + credit in
    let x = a.One (v.Num z) in
    let p = place page_cell s.Clock in
    let g : Place → Answer = put_at H.at p x in
    let parts = parts_spare codes credit H spare in
    let keeps : KeepsBut 12 H.at g = KeepsBut-put H.at p x in
    spare_puts codes credit credit H g spare (record {
      places = stands_put weight H p x parts can;
      answers = answers_put weight H p x parts tt;
      lengths = lengths_kept weight H g parts (keeps s.Length (λ e. cc));
      attributes = attributes_kept weight H g parts (keeps s.AttrNames (λ e. cc)) (λ name. keeps (s.Attr name) (λ e. cc));
      nodes = nodes_kept weight H g parts (keeps s.Parent (λ e. cc)) (keeps s.Children (λ e. cc));
      page = record {
        clock = (z, put_at-same H.at p x, low, high);
        timers = λ m. IdsBelow-kept _ _ _ _ (keeps s.NextTimer (λ e. cc) m) (keeps s.Timers (λ e. cc) m) (parts.page.timers m);
        guesses = λ m. IdsBelow-kept _ _ _ _ (keeps s.NextGuess (λ e. cc) m) (keeps s.Guesses (λ e. cc) m) (parts.page.guesses m);
      };
      sums = sums_kept weight H g parts (keeps s.Heard (λ e. cc)) (keeps s.NextTimer (λ e. cc)) (keeps s.NextGuess (λ e. cc));
    })
