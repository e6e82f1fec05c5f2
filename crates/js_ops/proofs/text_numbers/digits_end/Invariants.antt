use Rattle.std.proofs.Common.{◌≡◌, ◌+◌, drop}
use Rattle.std.specs.List.{prefix_len}
use Rattle.std.specs.Char.{is_ascii_digit}
use Rattle.js_ops.proofs.text_numbers.digits_end.Given as goal

-- the digits so far and those of the rest are those of all
abbrev pub invariant-loop-index : goal.invariant-loop-index
invariant-loop-index l = prefix_len is_ascii_digit l.units ≡ l.index + prefix_len is_ascii_digit (drop l.index l.units)
