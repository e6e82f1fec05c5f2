use Rattle.std.proofs.Common.{length, ◌-◌, ◌≡◌, ◌≤◌, take}
use Rattle.byte_ports.specs.Streams.{after}
use Rattle.byte_ports.proofs.sink.write_all.Given as goal

abbrev pub invariant-loop-at : goal.invariant-loop-at
invariant-loop-at g l =
    let told = g.W.Sink.told in
    let faults = g.W.Sink.faults in
    record {
      went : told l.sink ≡ after (told l.fn.sink) (take l.at l.bytes);
      count : faults l.sink ≡ faults l.fn.sink;
      within : l.at ≤ length l.bytes;
    }

abbrev pub decreases-loop-at : goal.decreases-loop-at
decreases-loop-at g l = length l.bytes - l.at
