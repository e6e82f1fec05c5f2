use Rattle.std.proofs.Common.{ℕ, ◌+◌, ◌-◌, ◌*◌, length}
use Rattle.cell_places.specs.View.{heap}
use Rattle.cell_places.specs.Rooted.{Still}
use Rattle.tree_writer.proofs.Steps.{Progress}
use Rattle.tree_writer.proofs.serialize.+append.Given as goal

-- how many bytes more would be too many
abbrev left : ℕ → ℕ → ℕ
left most written = 3 * (most + 1 - written)

abbrev pub decreases-append_element : goal.decreases-append_element
decreases-append_element g l = left l.most (length l.out.now.items)

abbrev pub decreases-append_node : goal.decreases-append_node
decreases-append_node g l = left l.most (length l.out.now.items) + 1

abbrev pub decreases-append_nodes : goal.decreases-append_nodes
decreases-append_nodes g l = left l.most (length l.out.now.items) + 2

-- the text of the nodes so far was appended, and nothing changed
abbrev pub invariant-append_nodes-loop-node : goal.invariant-append_nodes-loop-node
invariant-append_nodes-loop-node g l = record {
  still : Still (g.C.Cells.seen l.initial.cells) (g.C.Cells.seen l.cells);
  progress : Progress (heap (g.C.Cells.seen l.initial.cells)) l.nodes l.raw l.most l.node-index l.initial.out.items l.out.items;
}
