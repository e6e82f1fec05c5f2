use Rattle.std.proofs.Common.{◌∙◌, ap, ◌+◌, ◌<◌, length, arith}
use Rattle.std.proofs.lemmas.Result.{IfOk-weaker}
use Rattle.cell_places.specs.Heap.{text_in}
use Rattle.cell_places.specs.declared.kind.CellKind.TheVariants.{Chars}
use Rattle.cell_places.specs.View.{heap}
use Rattle.tree_shape.proofs.Nodes.{kind_found}
use Rattle.tree_writer.proofs.NodeTexts.{chars_say, chars_long}
use Rattle.tree_writer.proofs.serialize.append_chars.Goals as goal

-- it has more units than there is room for bytes
pub returns-then-units-most-clause-text : goal.returns-then-units-most-clause-text
returns-then-units-most-clause-text g c =
    let long : c.args.most < length c.args.out.now.items + length c.text_units-units.result.now = omega arith in
    chars_long (heap (g.C.Cells.seen c.args.cells.now)) c.args.raw c.args.node c.args.most c.args.out.now.items c.args.out.now.items c.text_units-units.result.now
    (kind_found (heap (g.C.Cells.seen c.args.cells.now)) c.args.node Chars c.requires.kind)
    (c.text_units-units.ensures ∙ ap text_in c.in_ok-answer.ensures.answer) long

-- the text of the node is what stands there
pub returns-clause-text : goal.returns-clause-text
returns-clause-text g c =
    let H = heap (g.C.Cells.seen c.args.cells.now) in
    IfOk-weaker c.append.result _ _
    (λ whole appended. chars_say H c.args.raw whole c.args.node c.args.most c.args.out.now.items c.append.new.out.items c.text_units-units.result.now c.deref.result.now
    (kind_found H c.args.node Chars c.requires.kind)
    (c.text_units-units.ensures ∙ ap text_in c.in_ok-answer.ensures.answer)
    (c.deref.ensures.value ∙ c.in_ok-written.ensures)
    appended)
    c.append.ensures
