use Rattle.std.proofs.Common.{◌≡◌, ◌≢◌, ℕ, List, [], ◌++◌, arith, refl, ap, sym, subst, ◌∙◌, rules}
use Rattle.byte_ports.specs.Streams.{before}
use Rattle.std.proofs.lemmas.Grind.{common_steps}
use Rattle.http_wire.specs.Outcomes.{Refuses, IsUnfinished}
use Rattle.http_wire.specs.Requests.{EndsAs, ended, truncated}
use Rattle.http_wire.specs.Reading.{ReadsOn, none}
use Rattle.http_wire.specs.Messages.{message_of}
use Rattle.http_wire.proofs.Ahead.{taken_ahead, request_first, refused_ahead, ended_ahead}
use Rattle.http_wire.proofs.Limits.{unfinished_short}
use Rattle.http_wire.proofs.Reading.{read_on, no_reads}
use Rattle.http_wire.proofs.framing.Frames.next.Goals.{then-is_empty, else-is_empty}
use Rattle.http_wire.proofs.framing.Frames.next.Goals as goal

pub read_more-requires : goal.read_more-requires
read_more-requires g c = unfinished_short c.self.inside.held.items (subst IsUnfinished c.as_slice.ensures.value c.in-Unfinished.ensures)

pub reading-init : goal.reading-init
reading-init g c = record { ahead = refl; count = refl; still = λ shown. (refl, refl); on = none }

pub reading-preserved : goal.reading-preserved
reading-preserved g c =
    let once = g.S.Source.read_once in
    let came = rw c.in-Got.is at c.in_ok-read_more.ensures.holds in
    let read = rw c.in-Got.is at c.in_ok-read_more.ensures.once in
    let unfinished : IsUnfinished c.reading.self = subst IsUnfinished (c.as_slice.ensures.value ∙ c.self.view_is) c.in-Unfinished.ensures in
    let on : ReadsOn once c.args.self.now c.args.source.now c.read_more.new.self c.read_more.new.source =
    read_on once c.args.self.now c.args.source.now c.reading.self came.0 c.read_more.new.self c.in-Got.field-0 c.reading.source c.read_more.new.source
    c.reading.invariant.on unfinished read came.2 came.3 came.4 (came.1 ∙ ap (λ (z : List ℕ). z ++ came.0) c.self.view_is) in
    record {
      ahead = search rules;
      count = search rules;
      still = no_reads once c.args.self.now c.args.source.now c.read_more.new.self c.read_more.new.source on;
      on = on;
    }

pub returns-in-Whole-clause-says : goal.returns-in-Whole-clause-says
returns-in-Whole-clause-says g c =
    let taken = c.in_ok-take-in-Whole.ensures in
    (taken.0, taken.1, taken_ahead c.reading.self _ taken.0 (g.S.Source.left c.reading.source) _ c.reading.invariant.ahead (sym c.self.view_is ∙ taken.2))

pub returns-in-Whole-clause-stream : goal.returns-in-Whole-clause-stream
returns-in-Whole-clause-stream g c =
    λ bytes rest. let taken = c.in_ok-take-in-Whole.ensures in
    let split = taken_ahead c.reading.self _ taken.0 (g.S.Source.left c.reading.source) _ c.reading.invariant.ahead (sym c.self.view_is ∙ taken.2) in
    request_first _ _ taken.0 bytes rest (message_of c.in_ok-take-in-Whole.field-0) taken.1 split

pub returns-in-Refused-clause-stream : goal.returns-in-Refused-clause-stream
returns-in-Refused-clause-stream g c =
    let shown = subst (λ (z : List ℕ). Refuses z c.in-Refused.refusal) (c.as_slice.ensures.value ∙ c.self.view_is) c.in-Refused.ensures in
    refused_ahead c.reading.self (g.S.Source.left c.reading.source) _ c.in-Refused.refusal c.reading.invariant.ahead shown

pub returns-in-End-clause-stream : goal.returns-in-End-clause-stream
returns-in-End-clause-stream g c =
    let held = c.read_more.new.self in
    let left = g.S.Source.left c.read_more.new.source in
    let over = rw c.in-End.is at c.in_ok-read_more.ensures.ends in
    let kept = rw c.in-End.is at c.in_ok-read_more.ensures.holds in
    let unfinished : IsUnfinished held = subst IsUnfinished (sym kept) (subst IsUnfinished c.as_slice.ensures.value c.in-Unfinished.ensures) in
    let same : before held left ≡ before c.args.self.now (g.S.Source.left c.args.source.now) = c.in_ok-read_more.ensures.ahead ∙ ap (λ (z : List ℕ). before z (g.S.Source.left c.reading.source)) c.self.view_is ∙ c.reading.invariant.ahead in
    elim c.if-is_empty.branch [
      | then-is_empty w ↦
          let none_held : EndsAs held ended = grind (arith, common_steps, c.is_empty.ensures, w.if-is_empty.true) in
          rw w.result-is (ended_ahead held left _ ended same none_held over)
      | else-is_empty w ↦
          let some : held ≢ [] = grind (arith, common_steps, c.is_empty.ensures, w.if-is_empty.false) in
          rw w.result-is (ended_ahead held left _ truncated same (some, unfinished) over)
    ]
