use Rattle.std.proofs.Common.{◌≡◌, ◌<◌, ◌^◌, drop}
use Rattle.std.specs.Char.{is_ascii_digit}
use Rattle.std.specs.List.{list_all}
use Rattle.std.specs.Str.Parse.{digits_value, digits_value_after}
use Rattle.http_wire.proofs.lengths.number_of.Given as goal

-- the digits that are left go on from the number so far
abbrev pub invariant-loop-byte : goal.invariant-loop-byte
invariant-loop-byte l = record {
  digits : list_all is_ascii_digit (drop l.byte-index l.value) ≡ list_all is_ascii_digit l.value;
  number : digits_value_after 10 l.number (drop l.byte-index l.value) ≡ digits_value 10 l.value;
  small : l.number < 10 ^ l.byte-index;
}
