use Rattle.std.proofs.Common.{◌≡◌, ◌+◌, ◌*◌, ◌<◌, ◌≤◌, ◌++◌, length, drop}
use Rattle.cell_places.specs.declared.place.Slot.TheVariants.{Children}
use Rattle.cell_places.specs.Heap.{place}
use Rattle.cell_places.specs.View.{heap, run}
use Rattle.cell_places.specs.Valid.{CanAsk}
use Rattle.cell_places.specs.Rooted.{Rooted}
use Rattle.cell_places.specs.Start.{node_prototype}
use Rattle.tree_shape.specs.Trees.{HaveNamesOnce, none}
use Rattle.page_reader.specs.NodeTrees.{node_tree, trees_of}
use Rattle.page_reader.specs.Planting.{node_count, root_names, trees_acts}
use Rattle.page_reader.proofs.plant.+planting.Given as goal

abbrev pub decreases-plant_node : goal.decreases-plant_node
decreases-plant_node g l = 2 * node_count (node_tree l.node.now none)

abbrev pub decreases-plant_siblings : goal.decreases-plant_siblings
decreases-plant_siblings g l = 2 * node_count (trees_of l.nodes.now) + 1

abbrev pub invariant-plant_siblings-siblings : goal.invariant-plant_siblings-siblings
invariant-plant_siblings-siblings g l = record {
  parent : CanAsk (heap (g.C.Cells.seen l.cells)) (place l.parent Children);
  prototype : node_prototype.0 < length (heap (g.C.Cells.seen l.cells)).kinds;
  few : node_count (trees_of (drop l.node-index l.fn.nodes)) ≤ node_count (trees_of l.fn.nodes);
  room : length (heap (g.C.Cells.seen l.cells)).kinds + node_count (trees_of (drop l.node-index l.fn.nodes)) ≤ 4000000000;
  once : HaveNamesOnce (trees_of (drop l.node-index l.fn.nodes));
  acts : run (g.C.Cells.seen l.fn.cells) (trees_acts l.parent (length (heap (g.C.Cells.seen l.fn.cells)).kinds) (trees_of l.fn.nodes))
      ≡ run (g.C.Cells.seen l.cells) (trees_acts l.parent (length (heap (g.C.Cells.seen l.cells)).kinds) (trees_of (drop l.node-index l.fn.nodes)));
  names : root_names (length (heap (g.C.Cells.seen l.fn.cells)).kinds) (trees_of l.fn.nodes)
      ≡ l.names.items ++ root_names (length (heap (g.C.Cells.seen l.cells)).kinds) (trees_of (drop l.node-index l.fn.nodes));
  rooted : Rooted (g.C.Cells.seen l.fn.cells) (g.C.Cells.seen l.cells);
}
