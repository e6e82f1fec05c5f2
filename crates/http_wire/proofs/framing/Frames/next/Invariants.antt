use Rattle.std.proofs.Common.{◌≡◌, ◌-◌, length}
use Rattle.byte_ports.specs.Streams.{before}
use Rattle.http_wire.specs.Bounds.{held_bytes}
use Rattle.http_wire.specs.Outcomes.{IsUnfinished}
use Rattle.http_wire.specs.Reading.{ReadsOn}
use Rattle.http_wire.proofs.framing.Frames.next.Given as goal

-- what is held and what is left are what they were, and only an unfinished request was read on
abbrev pub invariant-reading : goal.invariant-reading
invariant-reading g l =
    let left = g.S.Source.left in
    let faults = g.S.Source.faults in
    record {
      ahead : before l.self (left l.source) ≡ before l.fn.self (left l.fn.source);
      count : faults l.source ≡ faults l.fn.source;
      still : ¬ (IsUnfinished l.fn.self) → (l.source ≡ l.fn.source) × (l.self ≡ l.fn.self);
      on : ReadsOn g.S.Source.read_once l.fn.self l.fn.source l.self l.source;
    }

abbrev pub decreases-reading : goal.decreases-reading
decreases-reading g l = held_bytes - length l.self
