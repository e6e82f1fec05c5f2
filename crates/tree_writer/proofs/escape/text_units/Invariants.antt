use Rattle.std.proofs.Common.{◌≡◌, take}
use Rattle.std.specs.List.{flat_map}
use Rattle.tree_writer.specs.TreeText.{escape_text}
use Rattle.tree_writer.proofs.escape.text_units.Given as goal

-- so far the first units were written
abbrev pub invariant-loop-unit : goal.invariant-loop-unit
invariant-loop-unit l = l.written.items ≡ flat_map escape_text (take l.unit-index l.units)
