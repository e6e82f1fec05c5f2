use Rattle.page_reader.proofs.PlantingSteps.{ArePut}
use Rattle.page_reader.proofs.plant.put_attributes.Given as goal

-- the first attributes were put, and their names pushed
abbrev pub invariant-loop-attribute : goal.invariant-loop-attribute
invariant-loop-attribute g l = ArePut (g.C.Cells.seen l.initial.cells) (g.C.Cells.seen l.cells) l.node l.attributes l.attribute-index l.names.items
