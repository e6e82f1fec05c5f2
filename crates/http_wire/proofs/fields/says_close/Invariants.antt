use Rattle.std.proofs.Common.{◌≡◌, codes, drop, map}
use Rattle.std.specs.List.{list_any}
use Rattle.httparse.specs.Spans.{header_bytes}
use Rattle.http_wire.specs.Fields.{values_named, has_close}
use Rattle.http_wire.proofs.fields.says_close.Given as goal

-- no field so far has the option
abbrev pub invariant-loop-field : goal.invariant-loop-field
invariant-loop-field l = list_any has_close (values_named (codes "connection") (map (header_bytes l.bytes) (drop l.field-index l.fields))) ≡ list_any has_close (values_named (codes "connection") (map (header_bytes l.bytes) l.fields))
