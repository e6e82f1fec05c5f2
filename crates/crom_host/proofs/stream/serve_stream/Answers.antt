use Rattle.std.proofs.Common.{◌≡◌, ◌<◌, ◌≤◌, ◌+◌, ℕ, true, false, List, take, refl, sym, subst, ap, ◌∙◌, arith}
use Rattle.std.proofs.lemmas.Result.{err_from_is_err_and}
use Rattle.byte_ports.specs.Streams.{before, after}
use Rattle.page_units.specs.declared.limits.Limit.TheVariants.{Served}
use Rattle.page_units.specs.LimitsOf.{number_of}
use Rattle.cell_places.specs.Sound.{IsSound}
use Rattle.cell_heap.specs.Base.{heap_of}
use Rattle.crom_host.specs.Replying.{bytes_of}
use Rattle.crom_host.specs.Plain.{settings_of, hosted, is_halt, ending_of, closed}
use Rattle.crom_host.proofs.Fronts.{Progress, Wholes, started, whole_started, went_on, whole_on, ended_so, truncated_so, bound_so, read_fault_so, gives_up, never_began, stops_writing, gives_up_writing, closes_so, halts_so, reply_bytes_of}
use Rattle.crom_host.proofs.stream.serve_stream.Given as given
use Rattle.crom_host.proofs.stream.serve_stream.Goals as goal
use Rattle.crom_host.proofs.stream.serve_stream.Goals.{Else-close}

pub returns-in_err-wire-clause-stream : goal.returns-in_err-wire-clause-stream
returns-in_err-wire-clause-stream g c =
    let p = err_from_is_err_and c.from_residual.result c.from_residual.ensures.1 in
    rw p.1 (never_began _ _ _ _ _)

pub loop-wire-init : goal.loop-wire-init
loop-wire-init g c = record {
  progress = started _ _ _ _ _ _ c.in_ok-wire.ensures;
  whole = whole_started _ _ _ _ c.in_ok-wire.ensures;
  sound = c.requires.sound;
  source = refl;
  sink = refl;
  bound = c.requires.bound;
}

pub returns-in_err-incoming-clause-stream : goal.returns-in_err-incoming-clause-stream
returns-in_err-incoming-clause-stream g c =
    let p = err_from_is_err_and c.from_residual-in_err-incoming.result c.from_residual-in_err-incoming.ensures.1 in
    rw p.1 (gives_up _ _ _ _ _ _ _ _ _ c.loop-wire.invariant.progress)

pub returns-then-served-most-clause-stream : goal.returns-then-served-most-clause-stream
returns-then-served-most-clause-stream g c =
    let comes = rw c.in-Request.is at c.in_ok-incoming.ensures.stream in
    bound_so _ _ _ _ _ _ _ _ _ _ _ c.loop-wire.invariant.progress comes (omega (arith, c.number-most.ensures, c.if-served-most.true, c.loop-wire.invariant.bound))

pub returns-in_err-reply-in-Request-clause-causes : goal.returns-in_err-reply-in-Request-clause-causes
returns-in_err-reply-in-Request-clause-causes g c =
    let p = err_from_is_err_and c.from_residual-in_err-reply-in-Request.result c.from_residual-in_err-reply-in-Request.ensures.1 in
    let cause = rw c.in-Request.is at c.in_ok-incoming.ensures.cause in
    rw p.1 (cause ∙ c.loop-wire.invariant.source, c.loop-wire.invariant.sink)

pub returns-in_err-reply-in-Request-clause-stream : goal.returns-in_err-reply-in-Request-clause-stream
returns-in_err-reply-in-Request-clause-stream g c =
    let p = err_from_is_err_and c.from_residual-in_err-reply-in-Request.result c.from_residual-in_err-reply-in-Request.ensures.1 in
    rw p.1 (gives_up _ _ _ _ _ _ _ _ _ c.loop-wire.invariant.progress)

pub returns-in_err-write_reply-in-Request-clause-causes : goal.returns-in_err-write_reply-in-Request-clause-causes
returns-in_err-write_reply-in-Request-clause-causes g c =
    let p = err_from_is_err_and c.from_residual-in_err-write_reply-in-Request.result c.from_residual-in_err-write_reply-in-Request.ensures.1 in
    let cause = rw c.in-Request.is at c.in_ok-incoming.ensures.cause in
    rw p.1 (cause ∙ c.loop-wire.invariant.source, c.in_err-write_reply-in-Request.ensures.count ∙ c.loop-wire.invariant.sink)

pub returns-in_err-write_reply-in-Request-clause-stream : goal.returns-in_err-write_reply-in-Request-clause-stream
returns-in_err-write_reply-in-Request-clause-stream g c =
    let p = err_from_is_err_and c.from_residual-in_err-write_reply-in-Request.result c.from_residual-in_err-write_reply-in-Request.ensures.1 in
    let comes = rw c.in-Request.is at c.in_ok-incoming.ensures.stream in
    let answered = c.in_ok-reply-in-Request.ensures.answered in
    let front = c.write_reply.ensures.front in
    let went : g.W.Sink.told c.write_reply.new.sink ≡ after (g.W.Sink.told c.loop-wire.sink) (take front.0 (bytes_of answered.0 c.in-Request.incoming.close)) =
    front.1 ∙ ap (λ (z : List ℕ). after (g.W.Sink.told c.loop-wire.sink) (take front.0 z)) (reply_bytes_of _ _ _ _ answered.2 refl) in
    rw p.1 (gives_up_writing _ _ _ _ _ _ front.0 _ _ _ _ _ _ _ answered.0 c.loop-wire.invariant.progress (subst (λ (k : ℕ). c.loop-wire.served < k) c.number-most.ensures c.if-served-most.false) comes answered.1 went)

pub returns-in-Failed-2-clause-stream : goal.returns-in-Failed-2-clause-stream
returns-in-Failed-2-clause-stream g c =
    let comes = rw c.in-Request.is at c.in_ok-incoming.ensures.stream in
    let answered = c.in_ok-reply-in-Request.ensures.answered in
    let front = c.write_reply.ensures.front in
    let went : g.W.Sink.told c.write_reply.new.sink ≡ after (g.W.Sink.told c.loop-wire.sink) (take front.0 (bytes_of answered.0 c.in-Request.incoming.close)) =
    front.1 ∙ ap (λ (z : List ℕ). after (g.W.Sink.told c.loop-wire.sink) (take front.0 z)) (reply_bytes_of _ _ _ _ answered.2 refl) in
    stops_writing _ _ _ _ _ _ front.0 _ _ _ _ _ _ _ answered.0 c.loop-wire.invariant.progress (subst (λ (k : ℕ). c.loop-wire.served < k) c.number-most.ensures c.if-served-most.false) comes answered.1 went

pub returns-then-halts-clause-stream : goal.returns-then-halts-clause-stream
returns-then-halts-clause-stream g c =
    let halt : is_halt c.in-Request.incoming.asked ≡ true = sym c.is_halt-halts.ensures ∙ c.if-halts.true in
    let comes = rw c.in-Request.is at c.in_ok-incoming.ensures.stream in
    let answered = c.in_ok-reply-in-Request.ensures.answered in
    let all = rw c.in-All.is at c.in_ok-write_reply-in-Request.ensures.all in
    let went : g.W.Sink.told c.write_reply.new.sink ≡ after (g.W.Sink.told c.loop-wire.sink) (bytes_of answered.0 c.in-Request.incoming.close) =
    all ∙ ap (after (g.W.Sink.told c.loop-wire.sink)) (reply_bytes_of _ _ _ _ answered.2 refl) in
    halts_so _ _ _ _ _ _ _ _ _ _ _ _ _ answered.0 c.loop-wire.invariant.progress (subst (λ (k : ℕ). c.loop-wire.served < k) c.number-most.ensures c.if-served-most.false) comes answered.1 halt went

pub returns-then-close-clause-stream : goal.returns-then-close-clause-stream
returns-then-close-clause-stream g c =
    let halt : is_halt c.in-Request.incoming.asked ≡ false = sym c.is_halt-halts.ensures ∙ c.if-halts.false in
    let comes = rw c.in-Request.is at c.in_ok-incoming.ensures.stream in
    let answered = c.in_ok-reply-in-Request.ensures.answered in
    let all = rw c.in-All.is at c.in_ok-write_reply-in-Request.ensures.all in
    let ends : c.in-Request.incoming.close ≡ true = c.if-close.true in
    let went : g.W.Sink.told c.write_reply.new.sink ≡ after (g.W.Sink.told c.loop-wire.sink) (bytes_of answered.0 true) =
    all ∙ ap (after (g.W.Sink.told c.loop-wire.sink)) (reply_bytes_of _ _ _ _ answered.2 ends) in
    closes_so _ _ _ _ _ _ _ _ _ _ _ _ _ answered.0 closed c.loop-wire.invariant.progress (subst (λ (k : ℕ). c.loop-wire.served < k) c.number-most.ensures c.if-served-most.false) comes answered.1 ends (ap ending_of halt) went

-- the requests so far are answered, the one that came with them
went_round : (g : given.Over) (c : Else-close g) → record {
  progress : Progress (settings_of c.args.limits.now) (hosted (heap_of c.args.base.now)) (hosted (heap_of c.answer.new.base)) c.args.served.now (c.loop-wire.served + 1) (g.S.Source.left c.args.source.now)
      (before c.next.new.self (g.S.Source.left c.next.new.source)) (g.W.Sink.told c.args.sink.now) (g.W.Sink.told c.write_reply.new.sink);
  whole : Wholes (number_of c.args.limits.now Served) c.args.served.now (c.loop-wire.served + 1) (g.S.Source.left c.args.source.now) (before c.next.new.self (g.S.Source.left c.next.new.source));
  sound : IsSound 0 (heap_of c.answer.new.base);
  source : g.S.Source.faults c.next.new.source ≡ g.S.Source.faults c.args.source.now;
  sink : g.W.Sink.faults c.write_reply.new.sink ≡ g.W.Sink.faults c.args.sink.now;
  bound : c.loop-wire.served + 1 ≤ number_of c.args.limits.now Served;
}
went_round g c =
    let comes = rw c.in-Request.is at c.in_ok-incoming.ensures.stream in
    let answered = c.in_ok-reply-in-Request.ensures.answered in
    let all = rw c.in-All.is at c.in_ok-write_reply-in-Request.ensures.all in
    let ends : c.in-Request.incoming.close ≡ false = c.if-close.false in
    let went : g.W.Sink.told c.write_reply.new.sink ≡ after (g.W.Sink.told c.loop-wire.sink) (bytes_of answered.0 false) =
    all ∙ ap (after (g.W.Sink.told c.loop-wire.sink)) (reply_bytes_of _ _ _ _ answered.2 ends) in
    let wholes = rw c.in-Request.is at c.in_ok-incoming.ensures.whole in
    let cause = rw c.in-Request.is at c.in_ok-incoming.ensures.cause in
    let count = rw c.in-All.is at c.in_ok-write_reply-in-Request.ensures.count in
    record {
      progress = went_on _ _ _ _ _ _ _ _ _ _ _ _ _ answered.0 c.loop-wire.invariant.progress (subst (λ (k : ℕ). c.loop-wire.served < k) c.number-most.ensures c.if-served-most.false) comes answered.1 ends went;
      whole = whole_on _ _ _ _ _ _ _ c.loop-wire.invariant.whole wholes;
      sound = c.answer.ensures.sound;
      source = cause ∙ c.loop-wire.invariant.source;
      sink = count ∙ c.loop-wire.invariant.sink;
      bound = omega (arith, c.number-most.ensures, c.if-served-most.false);
    }

pub loop-wire-preserved-else-close : goal.loop-wire-preserved-else-close
loop-wire-preserved-else-close g c = went_round g (goal.at.loop-wire-preserved-else-close g c).Else-close

pub loop-wire-preserved-else-close-2 : goal.loop-wire-preserved-else-close-2
loop-wire-preserved-else-close-2 g c = went_round g (goal.at.loop-wire-preserved-else-close-2 g c).Else-close

pub loop-wire-preserved-else-close-3 : goal.loop-wire-preserved-else-close-3
loop-wire-preserved-else-close-3 g c = went_round g (goal.at.loop-wire-preserved-else-close-3 g c).Else-close

pub loop-wire-preserved-else-close-4 : goal.loop-wire-preserved-else-close-4
loop-wire-preserved-else-close-4 g c = went_round g (goal.at.loop-wire-preserved-else-close-4 g c).Else-close

pub loop-wire-preserved : goal.loop-wire-preserved
loop-wire-preserved g c = went_round g (goal.at.loop-wire-preserved g c).Else-close

pub returns-in-End-clause-stream : goal.returns-in-End-clause-stream
returns-in-End-clause-stream g c =
    let says = rw c.in-End.is at c.in_ok-incoming.ensures.stream in
    ended_so _ _ _ _ _ _ _ _ _ c.loop-wire.invariant.progress says

pub returns-in-Truncated-clause-stream : goal.returns-in-Truncated-clause-stream
returns-in-Truncated-clause-stream g c =
    let says = rw c.in-Truncated.is at c.in_ok-incoming.ensures.stream in
    truncated_so _ _ _ _ _ _ _ _ _ c.loop-wire.invariant.progress says

pub returns-in-Failed-clause-stream : goal.returns-in-Failed-clause-stream
returns-in-Failed-clause-stream g c =
    let says = rw c.in-Failed.is at c.in_ok-incoming.ensures.says in
    read_fault_so _ _ _ _ _ _ _ _ _ _ c.next.new.self c.loop-wire.invariant.progress says.0 says.1
