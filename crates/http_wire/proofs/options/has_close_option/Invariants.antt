use Rattle.std.proofs.Common.{◌≡◌, ◌≤◌, drop, slice_range}
use Rattle.std.specs.List.{list_any}
use Rattle.http_wire.specs.Fields.{is_close, has_close, parts_from}
use Rattle.http_wire.proofs.options.has_close_option.Given as goal

-- no part so far was the option
abbrev pub invariant-loop-at : goal.invariant-loop-at
invariant-loop-at l = record {
  ordered : l.start ≤ l.at;
  left : list_any is_close (parts_from (slice_range l.value l.start l.at) (drop l.at l.value)) ≡ has_close l.value;
}
