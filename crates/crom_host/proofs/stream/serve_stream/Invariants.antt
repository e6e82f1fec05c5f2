use Rattle.std.proofs.Common.{◌≡◌, ◌≤◌, ◌-◌}
use Rattle.byte_ports.specs.Streams.{before}
use Rattle.page_units.specs.declared.limits.Limit.TheVariants.{Served}
use Rattle.page_units.specs.LimitsOf.{number_of}
use Rattle.cell_places.specs.Sound.{IsSound}
use Rattle.cell_heap.specs.Base.{heap_of}
use Rattle.crom_host.specs.Plain.{settings_of, hosted}
use Rattle.crom_host.proofs.Fronts.{Progress, Wholes}
use Rattle.crom_host.proofs.stream.serve_stream.Given as goal

-- a front of the requests is answered
abbrev pub invariant-loop-wire : goal.invariant-loop-wire
invariant-loop-wire g l =
    let left = g.S.Source.left in
    let told = g.W.Sink.told in
    record {
      progress : Progress (settings_of l.fn.limits) (hosted (heap_of l.fn.base)) (hosted (heap_of l.base)) l.fn.served l.served (left l.fn.source) (before l.wire (left l.source)) (told l.fn.sink) (told l.sink);
      whole : Wholes (number_of l.fn.limits Served) l.fn.served l.served (left l.fn.source) (before l.wire (left l.source));
      sound : IsSound 0 (heap_of l.base);
      source : g.S.Source.faults l.source ≡ g.S.Source.faults l.fn.source;
      sink : g.W.Sink.faults l.sink ≡ g.W.Sink.faults l.fn.sink;
      bound : l.served ≤ number_of l.fn.limits Served;
    }

abbrev pub decreases-loop-wire : goal.decreases-loop-wire
decreases-loop-wire g l = number_of l.fn.limits Served - l.served
