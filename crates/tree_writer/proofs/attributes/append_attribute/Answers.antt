use Rattle.std.proofs.Common.{rules, ◌≡◌, ℕ, List, length, ap, ◌∙◌, arith}
use Rattle.cell_places.specs.declared.place.Slot.TheVariants.{Attr}
use Rattle.cell_places.specs.Heap.{place, text_in}
use Rattle.cell_places.specs.View.{heap}
use Rattle.cell_places.proofs.Runs.{Still-refl}
use Rattle.tree_writer.specs.TreeText.{attribute_text}
use Rattle.tree_shape.specs.Holds.{attribute_at}
use Rattle.tree_writer.proofs.Appending.{appended_long}
use Rattle.tree_writer.proofs.Long.{attribute_name_long, attribute_value_long}
use Rattle.tree_writer.proofs.attributes.append_attribute.Goals as goal
use Rattle.tree_writer.proofs.attributes.append_attribute.Goals.{then-len-room-via-then-len-room, then-len-room-via-else-len-room+then-value-room}

pub returns-in_err-clone-clause-still : goal.returns-in_err-clone-clause-still
returns-in_err-clone-clause-still g c = Still-refl _

-- the name or the value has more units than there is room for bytes
pub returns-then-len-room-clause-text : goal.returns-then-len-room-clause-text
returns-then-len-room-clause-text g c =
    let H = heap (g.C.Cells.seen c.args.cells.now) in
    let attribute = attribute_at H c.args.node c.args.name.now in
    let same : c.in_ok-clone.field-0 ≡ c.args.name.now = search rules in
    let value : length c.text_units-value.result.now ≡ length attribute.1 = ap (λ (xs : List ℕ). length xs) (c.text_units-value.ensures ∙ (ap text_in c.in_ok-answer.ensures.answer ∙ ap (λ (name : List ℕ). text_in (H.at (place c.args.node (Attr name)))) same)) in
    elim c.then-len-room.branch [
      | then-len-room-via-then-len-room w ↦ appended_long c.args.most c.args.out.now.items c.args.out.now.items (attribute_text attribute) (omega (arith, attribute_name_long attribute))
      | then-len-room-via-else-len-room+then-value-room w ↦ appended_long c.args.most c.args.out.now.items c.args.out.now.items (attribute_text attribute) (omega (arith, attribute_value_long attribute))
    ]
