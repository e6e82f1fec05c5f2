use Rattle.std.proofs.Common.{◌≡◌, take, drop, arith}
use Rattle.std.proofs.lemmas.Grind.{common_steps}
use Rattle.byte_ports.specs.Streams.{after}
use Rattle.byte_ports.proofs.Pieces.{written_more}
use Rattle.byte_ports.proofs.sink.write_all.Goals as goal

pub loop-at-preserved : goal.loop-at-preserved
loop-at-preserved g c =
    let told = g.W.Sink.told in
    let went : told c.write.new.self ≡ after (told c.loop-at.sink) (take c.in-Took.count (drop c.loop-at.at c.args.bytes.now)) = grind (arith, common_steps) in
    record {
      went = written_more _ _ _ _ _ _ c.loop-at.invariant.went went;
      count = grind (arith, common_steps);
      within = grind (arith, common_steps);
    }
