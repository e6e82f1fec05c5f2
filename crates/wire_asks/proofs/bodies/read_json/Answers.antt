use Rattle.wire_asks.proofs.Json.{reads, reads_nothing}
use Rattle.wire_asks.proofs.bodies.read_json.Goals as goal

pub returns-in-Ok : goal.returns-in-Ok
returns-in-Ok c = let ok = c.in-Ok.ensures.ok in reads c.args.bytes.now _ ok.0 ok.1

pub returns-in_default : goal.returns-in_default
returns-in_default c = let k = c.classify.ensures in let e = c.in-Err.ensures.err in
    reads_nothing _ (λ u. e (λ m. c.in_default.not-Memory (k.memory.1 m)) u)
