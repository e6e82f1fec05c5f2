use Rattle.std.proofs.Common.{rules, arith, ◌≡◌, ◌+◌, ◌<◌, ◌≤◌, length, List, ◌++◌, ◌∙◌, ap, sym, refl, drop}
use Rattle.page_units.specs.declared.value.CellName.{CellName}
use Rattle.cell_places.specs.declared.place.Slot.TheVariants as s
use Rattle.cell_places.specs.Heap.{place}
use Rattle.cell_places.specs.View.{heap}
use Rattle.cell_places.specs.Valid.{CanAsk}
use Rattle.cell_places.proofs.Runs.{Rooted-refl, Rooted-trans}
use Rattle.tree_shape.specs.Trees.{HaveNamesOnce, none}
use Rattle.page_reader.specs.NodeTrees.{node_tree, trees_of}
use Rattle.page_reader.specs.Planting.{node_count, root_names, children_acts, trees_acts}
use Rattle.page_reader.proofs.PlantingSteps.{ask_ran, names_below, element_is, element_more, is_made, attributes_named, can_fill, element_ran, taken_of, can_plant, turn_is, names_pushed, rooted_ran}
use Rattle.page_reader.proofs.plant.+planting.Goals as goal

pub plant_node-returns-in_err-clone-in-Element-clause-rooted : goal.plant_node-returns-in_err-clone-in-Element-clause-rooted
plant_node-returns-in_err-clone-in-Element-clause-rooted g t c = Rooted-refl _

-- it is an element that can have attributes
pub plant_node-put_attributes-requires : goal.plant_node-put_attributes-requires
plant_node-put_attributes-requires g t c =
    let old = g.C.Cells.seen c.args.cells.now in
    let one = g.C.Cells.seen c.make_node-in-Element.new.cells in
    let made = is_made old one c.args.parent c.in_ok-name-in-Element.name c.in_ok-clone-in-Element.field-0 c.in_ok-name-in-Element.ensures.acts c.in_ok-name-in-Element.ensures.name in
    record { element = made.element }

-- the children can be planted
pub plant_node-plant_siblings-requires : goal.plant_node-plant_siblings-requires
plant_node-plant_siblings-requires g t c =
    let old = g.C.Cells.seen c.args.cells.now in
    let one = g.C.Cells.seen c.make_node-in-Element.new.cells in
    let two = g.C.Cells.seen c.put_attributes.new.cells in
    let is = element_is c.args.node.now c.in-Element.tag c.in-Element.attributes c.in-Element.children c.in-Element.is c.requires.once in
    let made = is_made old one c.args.parent c.in_ok-name-in-Element.name c.in_ok-clone-in-Element.field-0 c.in_ok-name-in-Element.ensures.acts c.in_ok-name-in-Element.ensures.name in
    let named = attributes_named one two c.in_ok-name-in-Element.name c.in-Element.attributes c.as_slice.result.now c.as_slice.ensures c.in_ok-put_attributes-in-Element.ensures.acts in
    let can = can_fill old one two c.in_ok-name-in-Element.name c.args.node.now c.in-Element.tag c.in-Element.attributes c.in-Element.children is made named c.requires.prototype c.requires.room in
    let fewer : node_count (trees_of c.in-Element.children) < node_count (node_tree c.args.node.now none) = element_more c.args.node.now c.in-Element.tag c.in-Element.attributes c.in-Element.children is in
    let parent : CanAsk (heap two) (place c.in_ok-name-in-Element.name s.Children) = can.parent in
    let prototype : 14 < length (heap two).kinds = can.prototype in
    let room : length (heap two).kinds + node_count (trees_of c.in-Element.children) ≤ 4000000000 = can.room in
    let once : HaveNamesOnce (trees_of c.in-Element.children) = can.once in
    search rules

pub plant_node-put_children-requires-clause-node : goal.plant_node-put_children-requires-clause-node
plant_node-put_children-requires-clause-node g t c =
    let old = g.C.Cells.seen c.args.cells.now in
    let one = g.C.Cells.seen c.make_node-in-Element.new.cells in
    let two = g.C.Cells.seen c.put_attributes.new.cells in
    let is = element_is c.args.node.now c.in-Element.tag c.in-Element.attributes c.in-Element.children c.in-Element.is c.requires.once in
    let made = is_made old one c.args.parent c.in_ok-name-in-Element.name c.in_ok-clone-in-Element.field-0 c.in_ok-name-in-Element.ensures.acts c.in_ok-name-in-Element.ensures.name in
    let named = attributes_named one two c.in_ok-name-in-Element.name c.in-Element.attributes c.as_slice.result.now c.as_slice.ensures c.in_ok-put_attributes-in-Element.ensures.acts in
    let can = can_fill old one two c.in_ok-name-in-Element.name c.args.node.now c.in-Element.tag c.in-Element.attributes c.in-Element.children is made named c.requires.prototype c.requires.room in
    ask_ran two (g.C.Cells.seen c.plant_siblings.new.cells) (trees_acts c.in_ok-name-in-Element.name (length (heap two).kinds) (trees_of c.in-Element.children)) (place c.in_ok-name-in-Element.name s.Children) c.in_ok-names-in-Element.ensures.acts can.parent

pub plant_node-put_children-requires-clause-names : goal.plant_node-put_children-requires-clause-names
plant_node-put_children-requires-clause-names g t c =
    let two = g.C.Cells.seen c.put_attributes.new.cells in
    let is = element_is c.args.node.now c.in-Element.tag c.in-Element.attributes c.in-Element.children c.in-Element.is c.requires.once in
    names_below two (g.C.Cells.seen c.plant_siblings.new.cells) c.in_ok-name-in-Element.name (trees_of c.in-Element.children) c.in_ok-names-in-Element.names.items is.once c.in_ok-names-in-Element.ensures.acts
    c.in_ok-names-in-Element.ensures.names

pub plant_node-returns-in_ok-put_children-in-Element-clause-acts : goal.plant_node-returns-in_ok-put_children-in-Element-clause-acts
plant_node-returns-in_ok-put_children-in-Element-clause-acts g t c =
    let old = g.C.Cells.seen c.args.cells.now in
    let one = g.C.Cells.seen c.make_node-in-Element.new.cells in
    let two = g.C.Cells.seen c.put_attributes.new.cells in
    let three = g.C.Cells.seen c.plant_siblings.new.cells in
    let is = element_is c.args.node.now c.in-Element.tag c.in-Element.attributes c.in-Element.children c.in-Element.is c.requires.once in
    let named = attributes_named one two c.in_ok-name-in-Element.name c.in-Element.attributes c.as_slice.result.now c.as_slice.ensures c.in_ok-put_attributes-in-Element.ensures.acts in
    let same : c.in_ok-clone-in-Element.field-0 ≡ c.in-Element.tag = search rules in
    element_ran old one two three (g.C.Cells.seen c.put_children.new.cells) c.args.parent c.in_ok-name-in-Element.name c.args.node.now c.in-Element.tag c.in_ok-clone-in-Element.field-0 c.in-Element.attributes c.in-Element.children
    c.in_ok-names-in-Element.names.items is same c.in_ok-name-in-Element.ensures.name c.in_ok-name-in-Element.ensures.acts named c.in_ok-names-in-Element.ensures.acts c.in_ok-names-in-Element.ensures.names
    c.in_ok-put_children-in-Element.ensures.acts

pub plant_node-returns-in_err-names-in-Element-clause-rooted :
    goal.plant_node-returns-in_err-names-in-Element-clause-rooted
plant_node-returns-in_err-names-in-Element-clause-rooted g t c =
    let old = g.C.Cells.seen c.args.cells.now in
    let one = g.C.Cells.seen c.make_node-in-Element.new.cells in
    let two = g.C.Cells.seen c.put_attributes.new.cells in
    let three = g.C.Cells.seen c.plant_siblings.new.cells in
    Rooted-trans old one three c.make_node-in-Element.ensures.rooted (Rooted-trans one two three c.put_attributes.ensures.rooted c.plant_siblings.ensures.rooted)

pub plant_node-returns-in_err-put_children-in-Element-clause-rooted :
    goal.plant_node-returns-in_err-put_children-in-Element-clause-rooted
plant_node-returns-in_err-put_children-in-Element-clause-rooted g t c =
    let old = g.C.Cells.seen c.args.cells.now in
    let one = g.C.Cells.seen c.make_node-in-Element.new.cells in
    let two = g.C.Cells.seen c.put_attributes.new.cells in
    let three = g.C.Cells.seen c.plant_siblings.new.cells in
    rooted_ran old three (g.C.Cells.seen c.put_children.new.cells) (children_acts c.in_ok-name-in-Element.name c.in_ok-names-in-Element.names.items) c.put_children.result
    (Rooted-trans old one three c.make_node-in-Element.ensures.rooted (Rooted-trans one two three c.put_attributes.ensures.rooted c.plant_siblings.ensures.rooted))
    c.put_children.ensures.acts c.put_children.ensures.err

pub plant_node-returns-in_ok-put_children-in-Element-clause-rooted :
    goal.plant_node-returns-in_ok-put_children-in-Element-clause-rooted
plant_node-returns-in_ok-put_children-in-Element-clause-rooted g t c =
    let old = g.C.Cells.seen c.args.cells.now in
    let one = g.C.Cells.seen c.make_node-in-Element.new.cells in
    let two = g.C.Cells.seen c.put_attributes.new.cells in
    let three = g.C.Cells.seen c.plant_siblings.new.cells in
    rooted_ran old three (g.C.Cells.seen c.put_children.new.cells) (children_acts c.in_ok-name-in-Element.name c.in_ok-names-in-Element.names.items) c.put_children.result
    (Rooted-trans old one three c.make_node-in-Element.ensures.rooted (Rooted-trans one two three c.put_attributes.ensures.rooted c.plant_siblings.ensures.rooted))
    c.put_children.ensures.acts c.put_children.ensures.err

-- the next sibling can be planted
pub plant_siblings-plant_node-requires : goal.plant_siblings-plant_node-requires
plant_siblings-plant_node-requires g t c =
    let now = g.C.Cells.seen c.siblings.cells in
    let known = c.siblings.invariant in
    let nodes = c.args.nodes.now in
    let here = taken_of nodes c.as_slice-node-items.result.now c.siblings.node-index c.node-item.result c.as_slice-node-items.ensures (omega arith) c.node-item.is in
    let can = can_plant now (drop c.siblings.node-index nodes) (drop (c.siblings.node-index + 1) nodes) c.node-item.result here known.room known.once in
    let few : node_count (node_tree c.node-item.result none) ≤ node_count (trees_of nodes) = let one = can.few in let all = known.few in omega arith in
    let room : length (heap now).kinds + node_count (node_tree c.node-item.result none) ≤ 4000000000 = can.room in
    let once : HaveNamesOnce (node_tree c.node-item.result none) = can.once in
    search rules

pub plant_siblings-siblings-preserved : goal.plant_siblings-siblings-preserved
plant_siblings-siblings-preserved g t c =
    let now = g.C.Cells.seen c.siblings.cells in
    let then = g.C.Cells.seen c.plant_node.new.cells in
    let known = c.siblings.invariant in
    let nodes = c.args.nodes.now in
    let here = taken_of nodes c.as_slice-node-items.result.now c.siblings.node-index c.node-item.result c.as_slice-node-items.ensures (omega arith) c.node-item.is in
    let turn = turn_is now then c.args.parent (drop c.siblings.node-index nodes) (drop (c.siblings.node-index + 1) nodes) c.node-item.result c.in_ok-plant_node.field-0 here known.room known.once
    c.in_ok-plant_node.ensures.acts c.in_ok-plant_node.ensures.name in
    record {
      parent = ask_ran now then (trees_acts c.args.parent (length (heap now).kinds) (node_tree c.node-item.result none)) (place c.args.parent s.Children) c.in_ok-plant_node.ensures.acts known.parent;
      prototype = let before = known.prototype in let count = turn.count in omega arith;
      few = let one = turn.few in let all = known.few in omega arith;
      room = turn.room;
      once = turn.once;
      acts = known.acts ∙ turn.acts;
      names = names_pushed _ c.siblings.names.items c.push.new.self.items _ c.in_ok-plant_node.field-0 _ known.names turn.names c.in_ok-push.ensures.items;
      rooted = Rooted-trans (g.C.Cells.seen c.args.cells.now) now then known.rooted c.in_ok-plant_node.ensures.rooted;
    }

pub plant_siblings-returns-in_err-plant_node-clause-rooted : goal.plant_siblings-returns-in_err-plant_node-clause-rooted
plant_siblings-returns-in_err-plant_node-clause-rooted g t c = Rooted-trans (g.C.Cells.seen c.args.cells.now) (g.C.Cells.seen c.siblings.cells) (g.C.Cells.seen c.plant_node.new.cells) c.siblings.invariant.rooted c.in_err-plant_node.ensures.rooted

pub plant_siblings-returns-in_err-push-clause-rooted : goal.plant_siblings-returns-in_err-push-clause-rooted
plant_siblings-returns-in_err-push-clause-rooted g t c = Rooted-trans (g.C.Cells.seen c.args.cells.now) (g.C.Cells.seen c.siblings.cells) (g.C.Cells.seen c.plant_node.new.cells) c.siblings.invariant.rooted c.in_ok-plant_node.ensures.rooted

pub plant_siblings-siblings-init : goal.plant_siblings-siblings-init
plant_siblings-siblings-init g t c = record {
  parent = c.requires.parent;
  prototype = c.requires.prototype;
  few = omega arith;
  room = c.requires.room;
  once = c.requires.once;
  acts = refl;
  names = ap (λ (ns : List CellName). ns ++ root_names (length (heap (g.C.Cells.seen c.args.cells.now)).kinds) (trees_of c.args.nodes.now)) (sym c.new-names.ensures.items);
  rooted = Rooted-refl (g.C.Cells.seen c.args.cells.now);
}
