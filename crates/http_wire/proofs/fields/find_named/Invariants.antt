use Rattle.std.proofs.Common.{◌≡◌, ◌++◌, length, drop, map}
use Rattle.std.specs.Prelude.{IfSome}
use Rattle.httparse.specs.Spans.{header_bytes, IsWithin}
use Rattle.http_wire.specs.Fields.{values_named}
use Rattle.http_wire.proofs.Named.{found_values}
use Rattle.http_wire.proofs.fields.find_named.Given as goal

-- the values are the one that was found, and those of the fields that are left
abbrev pub invariant-loop-field : goal.invariant-loop-field
invariant-loop-field l = record {
  values : values_named l.name (map (header_bytes l.bytes) l.fields) ≡ found_values l.bytes l.found ++ values_named l.name (map (header_bytes l.bytes) (drop l.field-index l.fields));
  within : IfSome l.found (IsWithin (length l.bytes));
}
