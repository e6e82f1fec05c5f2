use Rattle.std.proofs.Common.{◌≡◌, ◌+◌, drop}
use Rattle.std.specs.List.{prefix_len}
use Rattle.js_ops.specs.TextNumbers.{is_blank}
use Rattle.js_ops.proofs.text_numbers.front_blanks.Given as goal

-- the blanks so far and those of the rest are those of all
abbrev pub invariant-loop-index : goal.invariant-loop-index
invariant-loop-index l = prefix_len is_blank l.units ≡ l.index + prefix_len is_blank (drop l.index l.units)
