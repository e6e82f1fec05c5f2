use Rattle.cell_places.specs.View.{heap}
use Rattle.cell_places.proofs.Runs.{Still-refl}
use Rattle.tree_writer.proofs.RawTexts.{other_not_raw}
use Rattle.tree_writer.proofs.serialize.is_raw_text.Goals as goal

-- another node
pub returns-in_default : goal.returns-in_default
returns-in_default g c = record {
  raw = other_not_raw (heap (g.C.Cells.seen c.args.cells.now)) c.args.node c.kind_of.result.now c.kind_of.ensures c.in_default.not-Chars;
  still = Still-refl _;
}
