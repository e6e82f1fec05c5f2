use Rattle.std.proofs.Common.{◌∙◌}
use Rattle.page_units.specs.declared.value.Value.TheVariants as v
use Rattle.cell_places.specs.declared.place.Slot.TheVariants as s
use Rattle.cell_places.specs.declared.answer.Answer.TheVariants as a
use Rattle.cell_places.specs.Heap.{place}
use Rattle.cell_places.specs.Acts.{Act, made, placed}
use Rattle.cell_places.specs.View.{heap}
use Rattle.cell_places.specs.Start.{node_prototype}
use Rattle.cell_places.proofs.Runs.{Rooted-refl}
use Rattle.page_reader.proofs.PlantingSteps.{kinds_stepped, rooted_stepped, may_proto, may_parent}
use Rattle.page_reader.proofs.plant.make_node.Goals as goal

pub returns-in_err-node-clause-rooted : goal.returns-in_err-node-clause-rooted
returns-in_err-node-clause-rooted g c = rw c.in_err-node.ensures.err (Rooted-refl _)

pub put_cell-requires : goal.put_cell-requires
put_cell-requires g c =
    let old = g.C.Cells.seen c.args.cells.now in
    let one = g.C.Cells.seen c.make.new.self in
    let make : Act = made c.in_ok-node.node c.args.kind in
    may_proto (heap old) c.args.kind (heap one).kinds c.in_ok-node.node c.requires.prototype c.requires.child (kinds_stepped old one make c.in_ok-node.ensures.ok) c.in_ok-node.ensures.name

pub returns-in_err-put_cell-clause-rooted : goal.returns-in_err-put_cell-clause-rooted
returns-in_err-put_cell-clause-rooted g c =
    let old = g.C.Cells.seen c.args.cells.now in
    let one = g.C.Cells.seen c.make.new.self in
    let make : Act = made c.in_ok-node.node c.args.kind in
    rw c.in_err-put_cell.ensures.err (rooted_stepped old old one make (Rooted-refl old) c.in_ok-node.ensures.ok)

pub put_cell-requires-2 : goal.put_cell-requires-2
put_cell-requires-2 g c =
    let old = g.C.Cells.seen c.args.cells.now in
    let one = g.C.Cells.seen c.make.new.self in
    let two = g.C.Cells.seen c.put_cell.new.cells in
    let make : Act = made c.in_ok-node.node c.args.kind in
    let proto : Act = placed (place c.in_ok-node.node s.Proto) (a.One (v.Cell node_prototype)) in
    may_parent (heap old) c.args.kind c.args.parent (heap two).kinds c.in_ok-node.node c.requires.parent c.requires.child
    (kinds_stepped one two proto c.in_ok-put_cell.ensures.ok ∙ kinds_stepped old one make c.in_ok-node.ensures.ok) c.in_ok-node.ensures.name

pub returns-in_err-put_cell-2-clause-rooted : goal.returns-in_err-put_cell-2-clause-rooted
returns-in_err-put_cell-2-clause-rooted g c =
    let old = g.C.Cells.seen c.args.cells.now in
    let one = g.C.Cells.seen c.make.new.self in
    let two = g.C.Cells.seen c.put_cell.new.cells in
    let make : Act = made c.in_ok-node.node c.args.kind in
    let proto : Act = placed (place c.in_ok-node.node s.Proto) (a.One (v.Cell node_prototype)) in
    rw c.in_err-put_cell-2.ensures.err
    (rooted_stepped old one two proto (rooted_stepped old old one make (Rooted-refl old) c.in_ok-node.ensures.ok) c.in_ok-put_cell.ensures.ok)

pub returns-clause-rooted : goal.returns-clause-rooted
returns-clause-rooted g c =
    let old = g.C.Cells.seen c.args.cells.now in
    let one = g.C.Cells.seen c.make.new.self in
    let two = g.C.Cells.seen c.put_cell.new.cells in
    let three = g.C.Cells.seen c.put_cell-2.new.cells in
    let make : Act = made c.in_ok-node.node c.args.kind in
    let proto : Act = placed (place c.in_ok-node.node s.Proto) (a.One (v.Cell node_prototype)) in
    let parent : Act = placed (place c.in_ok-node.node s.Parent) (a.One (v.Cell c.args.parent)) in
    rooted_stepped old two three parent
    (rooted_stepped old one two proto (rooted_stepped old old one make (Rooted-refl old) c.in_ok-node.ensures.ok) c.in_ok-put_cell.ensures.ok) c.in_ok-put_cell-2.ensures.ok
