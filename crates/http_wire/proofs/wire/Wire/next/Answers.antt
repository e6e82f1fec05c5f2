use Rattle.std.proofs.Common.{inl, inr, refl, Ok}
use Rattle.byte_ports.specs.Streams.{before}
use Rattle.http_wire.proofs.Wholes.{whole_of}
use Rattle.http_wire.proofs.Wired.{request_comes, refusal_comes}
use Rattle.http_wire.proofs.wire.Wire.next.Goals.{in-Request+in_ok-incoming-in-Request, in-Refused, in-End, in-Truncated, in-Failed}
use Rattle.http_wire.proofs.wire.Wire.next.Goals as goal

pub returns-clause-says : goal.returns-clause-says
returns-clause-says g c = elim c.match-branch-2.branch [
  | in-Request+in_ok-incoming-in-Request w ↦
      let says = rw (w.in-Request.is, c.self.view_is) at c.in_ok-request.ensures.says in
      rw (w.result-is, w.self-is) (inl (says.0, _, says.1, w.in_ok-incoming-in-Request.ensures, says.2))
  | in-Refused w ↦
      let says = rw (w.in-Refused.is, c.self.view_is) at c.in_ok-request.ensures.says in
      rw (w.result-is, w.self-is, w.closes.ensures) (inr (_, says.1, refl, says.0))
  | in-End w ↦ let says = rw (w.in-End.is, c.self.view_is) at c.in_ok-request.ensures.says in rw (w.result-is, w.self-is) says
  | in-Truncated w ↦ let says = rw (w.in-Truncated.is, c.self.view_is) at c.in_ok-request.ensures.says in rw (w.result-is, w.self-is) says
  | in-Failed w ↦ let says = rw (w.in-Failed.is, c.self.view_is) at c.in_ok-request.ensures.says in rw (w.result-is, w.self-is) says
]

pub returns-clause-stream : goal.returns-clause-stream
returns-clause-stream g c = elim c.match-branch-2.branch [
  | in-Request+in_ok-incoming-in-Request w ↦
      let says = rw (w.in-Request.is, c.self.view_is) at c.in_ok-request.ensures.says in
      rw (w.result-is, w.self-is) (request_comes w.in-Request.request _ _ _ c.next.new.self says w.in_ok-incoming-in-Request.ensures)
  | in-Refused w ↦
      let says = rw (w.in-Refused.is, c.self.view_is) at c.in_ok-request.ensures.says in
      rw (w.result-is, w.self-is, w.closes.ensures) (refusal_comes _ _ _ _ says.0 says.1)
  | in-End w ↦ let stream = rw (w.in-End.is, c.self.view_is) at c.in_ok-request.ensures.stream in rw w.result-is stream
  | in-Truncated w ↦ let stream = rw (w.in-Truncated.is, c.self.view_is) at c.in_ok-request.ensures.stream in rw w.result-is stream
  | in-Failed w ↦ let stream = rw (w.in-Failed.is, c.self.view_is) at c.in_ok-request.ensures.stream in rw (w.result-is, w.self-is) stream
]

pub returns-clause-reads : goal.returns-clause-reads
returns-clause-reads g c = elim c.match-branch-2.branch [
  | in-Request+in_ok-incoming-in-Request w ↦
      let reads = rw (w.in-Request.is, c.self.view_is) at c.in_ok-request.ensures.reads in
      rw (w.result-is, w.self-is) (inl (reads.0, _, reads.1, w.in_ok-incoming-in-Request.ensures, reads.2))
  | in-Refused w ↦
      let reads = rw (w.in-Refused.is, c.self.view_is) at c.in_ok-request.ensures.reads in
      rw (w.result-is, w.self-is, w.closes.ensures) (inr (_, refl, reads))
  | in-End w ↦ let reads = rw (w.in-End.is, c.self.view_is) at c.in_ok-request.ensures.reads in rw (w.result-is, w.self-is) reads
  | in-Truncated w ↦ let reads = rw (w.in-Truncated.is, c.self.view_is) at c.in_ok-request.ensures.reads in rw (w.result-is, w.self-is) reads
  | in-Failed w ↦ let reads = rw (w.in-Failed.is, c.self.view_is) at c.in_ok-request.ensures.reads in rw (w.result-is, w.self-is) reads
]

pub returns-clause-whole : goal.returns-clause-whole
returns-clause-whole g c =
    let ahead = before c.args.self.now (g.S.Source.left c.args.source.now) in
    let ahead' = before c.match-branch-2.self (g.S.Source.left c.next.new.source) in
    whole_of (Ok c.match-branch-2.result) ahead ahead' (returns-clause-stream g c)
