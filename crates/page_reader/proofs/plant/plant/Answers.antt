use Rattle.std.proofs.Common.{length}
use Rattle.cell_places.specs.declared.place.Slot.TheVariants as s
use Rattle.cell_places.specs.Heap.{place}
use Rattle.cell_places.specs.View.{heap}
use Rattle.cell_places.specs.Start.{document_cell}
use Rattle.tree_shape.specs.Trees.{none}
use Rattle.page_reader.specs.NodeTrees.{node_tree}
use Rattle.page_reader.specs.Planting.{trees_acts, children_acts}
use Rattle.page_reader.proofs.PlantingSteps.{ask_ran, names_below, rooted_ran, root_named, root_done}
use Rattle.page_reader.proofs.plant.plant.Goals as goal

pub put_children-requires-clause-node : goal.put_children-requires-clause-node
put_children-requires-clause-node g c =
    let old = g.C.Cells.seen c.args.cells.now in
    ask_ran old (g.C.Cells.seen c.plant_node.new.cells) (trees_acts document_cell (length (heap old).kinds) (node_tree c.args.root.now none)) (place document_cell s.Children) c.in_ok-node.ensures.acts c.requires.document

pub put_children-requires-clause-names : goal.put_children-requires-clause-names
put_children-requires-clause-names g c =
    let old = g.C.Cells.seen c.args.cells.now in
    names_below old (g.C.Cells.seen c.plant_node.new.cells) document_cell (node_tree c.args.root.now none) c.push.new.self.items c.requires.once c.in_ok-node.ensures.acts
    (root_named old c.args.root.now c.in_ok-node.node c.in_ok-names.names.items c.push.new.self.items c.in_ok-names.ensures.items c.in_ok-push.ensures.items c.in_ok-node.ensures.name)

pub returns-clause-acts : goal.returns-clause-acts
returns-clause-acts g c =
    let old = g.C.Cells.seen c.args.cells.now in
    root_done old (g.C.Cells.seen c.plant_node.new.cells) (g.C.Cells.seen c.put_children.new.cells) c.args.root.now c.push.new.self.items c.put_children.result c.in_ok-node.ensures.acts
    (root_named old c.args.root.now c.in_ok-node.node c.in_ok-names.names.items c.push.new.self.items c.in_ok-names.ensures.items c.in_ok-push.ensures.items c.in_ok-node.ensures.name) c.put_children.ensures.acts

pub returns-clause-rooted : goal.returns-clause-rooted
returns-clause-rooted g c =
    rooted_ran (g.C.Cells.seen c.args.cells.now) (g.C.Cells.seen c.plant_node.new.cells) (g.C.Cells.seen c.put_children.new.cells) (children_acts document_cell c.push.new.self.items) c.put_children.result
    c.in_ok-node.ensures.rooted c.put_children.ensures.acts c.put_children.ensures.err
