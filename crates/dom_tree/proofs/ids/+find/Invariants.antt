use Rattle.std.proofs.Common.{ℕ, ◌+◌, ◌-◌, ◌*◌}
use Rattle.cell_places.specs.View.{heap}
use Rattle.cell_places.specs.Rooted.{Still}
use Rattle.dom_tree.proofs.Searching.{Going}
use Rattle.dom_tree.proofs.ids.+find.Given as goal

-- how many nodes more can be counted
abbrev left : ℕ → ℕ
left count = 2 * (4000000000 - count)

abbrev pub decreases-find_at : goal.decreases-find_at
decreases-find_at g l = left l.visited.now

abbrev pub decreases-find_among : goal.decreases-find_among
decreases-find_among g l = left l.visited.now + 1

-- the nodes so far have no element with the id
abbrev pub invariant-find_among-loop-node : goal.invariant-find_among-loop-node
invariant-find_among-loop-node g l = record {
  still : Still (g.C.Cells.seen l.initial.cells) (g.C.Cells.seen l.cells);
  going : Going (heap (g.C.Cells.seen l.initial.cells)) l.id (g.C.Cells.seen l.initial.cells) (g.C.Cells.seen l.cells) l.nodes l.node-index l.initial.visited l.visited;
}
