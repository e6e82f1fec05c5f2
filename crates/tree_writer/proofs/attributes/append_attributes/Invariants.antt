use Rattle.std.proofs.Common.{true, take, map}
use Rattle.std.specs.List.{flat_map}
use Rattle.cell_places.specs.View.{heap}
use Rattle.cell_places.specs.Rooted.{Still}
use Rattle.tree_writer.specs.TreeText.{attribute_text}
use Rattle.tree_writer.specs.Appends.{Appended}
use Rattle.tree_shape.specs.Holds.{attribute_at}
use Rattle.tree_writer.proofs.attributes.append_attributes.Given as goal

-- the attributes of the first names were appended, and nothing changed
abbrev pub invariant-loop-name : goal.invariant-loop-name
invariant-loop-name g l = record {
  still : Still (g.C.Cells.seen l.initial.cells) (g.C.Cells.seen l.cells);
  text : Appended true l.most l.initial.out.items l.out.items (flat_map attribute_text (map (attribute_at (heap (g.C.Cells.seen l.initial.cells)) l.node) (take l.name-index l.names)));
}
