-- A stream goes on by one request, and ends.
use Rattle.std.proofs.Common.{◌≡◌, ◌<◌, ◌≤◌, ◌+◌, ℕ, Bool, true, false, List, [], ◌∷◌, ◌++◌, length, take, Option, Some, None, Ok, Err, inl, inr, refl, sym, ap, subst, ◌∙◌, append_assoc, arith}
use Rattle.std.specs.Prelude.{◌||◌, Result}
use Rattle.std.proofs.lemmas.List.{append-nil}
use Rattle.std.proofs.lemmas.Grind.{flat_map-append}
use Rattle.byte_ports.specs.Streams.{before, after}
use Rattle.page_units.specs.declared.limits.Limit.TheVariants as Limit
use Rattle.http_wire.specs.declared.wire.Incoming.{Incoming}
use Rattle.http_wire.specs.declared.wire.Next.TheVariants as next
use Rattle.http_wire.specs.Messages.{Message}
use Rattle.http_wire.specs.Outcomes.{IsUnfinished}
use Rattle.http_wire.specs.Asked.TheVariants as a
use Rattle.http_wire.specs.Asked.{Asked}
use Rattle.http_wire.specs.Refusal.{Refusal}
use Rattle.http_wire.specs.Refusals.{ends_connection}
use Rattle.http_wire.specs.Incoming as came
use Rattle.http_wire.specs.Incoming.{Comes}
use Rattle.http_wire.specs.Requests.{EndsAs, RequestsOf, ended, truncated}
use Rattle.http_wire.specs.Requests as w
use Rattle.http_wire.specs.Wired.{NextStream, NextWhole}
use Rattle.http_wire.specs.ReplyBytes.{reply_bytes}
use Rattle.http_wire.specs.Reply as written
use Rattle.crom_host.specs.Replying.{Reply, bytes_of, IsOf}
use Rattle.crom_host.specs.Plain as p
use Rattle.crom_host.specs.Plain.{Settings, PlainHost, Answers, Answered, ending_of, ending_behind, is_halt, Sent, bytes_sent, PlainRun, Ending, at_end, closed, halted_so, cut_off, at_bound, paused}
use Rattle.crom_host.specs.Stream.{RunsTo, GivesUp, StopsWriting, StopsReading}

-- ---- a run after what was answered

never_paused : (halts : Bool) (rest : List ℕ) → ending_of halts ≡ paused rest → ⊥
never_paused true rest e = absurd (cc)
never_paused false rest e = absurd (cc)

same_rest : (bytes rest : List ℕ) → paused bytes ≡ paused rest → bytes ≡ rest
same_rest bytes rest e = cc

-- a run that pauses, with a run after it, is a run
pub run_append : (s : Settings) (h m h' : PlainHost) (n k l : ℕ) (bytes rest : List ℕ) (gs ps gs' ps' : Answers) (sent tail : List Sent) (mid e : Ending)
    → PlainRun s h n bytes gs ps sent m k mid → mid ≡ paused rest → PlainRun s m k rest gs' ps' tail h' l e → PlainRun s h n bytes (gs ++ gs') (ps ++ ps') (sent ++ tail) h' l e
run_append s _ _ h' _ _ l _ rest _ _ gs' ps' _ tail _ e (p.end h n bytes stops) is run = absurd (cc)
run_append s _ _ h' _ _ l _ rest _ _ gs' ps' _ tail _ e (p.cut h n bytes stops) is run = absurd (cc)
run_append s _ _ h' _ _ l _ rest _ _ gs' ps' _ tail _ e (p.bound h n bytes more i full comes) is run = absurd (cc)
run_append s _ _ h' _ _ l _ rest _ _ gs' ps' _ tail _ e (p.pause h n bytes) is run =
    subst (λ (z : List ℕ). PlainRun s h n z gs' ps' tail h' l e) (sym (same_rest bytes rest is)) run
run_append s _ _ h' _ _ l _ rest _ _ gs' ps' _ tail _ e (p.last h m n bytes more i gets posts r few comes answered closes) is run =
    absurd (never_paused (is_halt i.asked) rest is)
run_append s _ _ h' _ _ l _ rest _ _ gs' ps' _ tail _ e (p.more h next m n k bytes more i g q gs qs r sent mid few comes answered goes others) is run =
    subst (λ (z : Answers). PlainRun s h n bytes z ((q ++ qs) ++ ps') (record { reply = r; closes = false } ∷ (sent ++ tail)) h' l e) (sym (append_assoc g gs gs'))
    (subst (λ (z : Answers). PlainRun s h n bytes (g ++ (gs ++ gs')) z (record { reply = r; closes = false } ∷ (sent ++ tail)) h' l e) (sym (append_assoc q qs ps'))
    (p.more h next h' n l bytes more i g q (gs ++ gs') (qs ++ ps') r (sent ++ tail) e few comes answered goes
    (run_append s next m h' (n + 1) k l more rest gs qs gs' ps' sent tail mid e others is run)))

-- what was written of the one and then of the other
pub written_append : (s : Settings) (h m h' : PlainHost) (n k l : ℕ) (bytes rest written : List ℕ) (tail : List Sent) (e : Ending)
    → RunsTo (paused rest) s h m n k bytes [] [] written → PlainRun s m k rest [] [] tail h' l e → RunsTo e s h h' n l bytes [] [] (written ++ bytes_sent tail)
written_append s h m h' n k l bytes rest written tail e first run = (
  first.0 ++ tail,
  run_append s h m h' n k l bytes rest [] [] [] [] first.0 tail (paused rest) e first.1 refl run,
  ap (λ (z : List ℕ). z ++ bytes_sent tail) first.2 ∙ sym (flat_map-append (λ (r : Sent). bytes_of r.reply r.closes) first.0 tail),
)

-- the same, where nothing is written after it
pub run_of : (s : Settings) (h m h' : PlainHost) (n k l : ℕ) (bytes rest written : List ℕ) (e : Ending)
    → RunsTo (paused rest) s h m n k bytes [] [] written → PlainRun s m k rest [] [] [] h' l e → RunsTo e s h h' n l bytes [] [] written
run_of s h m h' n k l bytes rest written e first run =
    subst (RunsTo e s h h' n l bytes [] []) (append-nil written) (written_append s h m h' n k l bytes rest written [] e first run)

-- and where one reply is
pub sent_one : (s : Settings) (h m h' : PlainHost) (n k l : ℕ) (bytes rest written : List ℕ) (r : Reply) (closes : Bool) (e : Ending)
    → RunsTo (paused rest) s h m n k bytes [] [] written → PlainRun s m k rest [] [] (record { reply = r; closes = closes } ∷ []) h' l e
    → RunsTo e s h h' n l bytes [] [] (written ++ bytes_of r closes)
sent_one s h m h' n k l bytes rest written r closes e first run =
    subst (λ (z : List ℕ). RunsTo e s h h' n l bytes [] [] (written ++ z)) (append-nil (bytes_of r closes))
    (written_append s h m h' n k l bytes rest written (record { reply = r; closes = closes } ∷ []) e first run)

-- what the bytes that begin no request are
stops_so : (bytes : List ℕ) (e : w.Ending) → RequestsOf bytes [] e → EndsAs bytes e
stops_so bytes e (w.stop _ _ h) = h

-- ---- what was done so far, between two requests

-- For bytes and an output that are told: the first requests are answered, and what is ahead comes after them.
pub record Reached (s : Settings) (h h' : PlainHost) (served served' : ℕ) (bytes old : List ℕ) (ahead told' : Option (List ℕ)) : Type 0 where
  pub written : List ℕ
  pub rest : List ℕ
  pub prefix : RunsTo (paused rest) s h h' served served' bytes [] [] written
  pub goes_on : ahead ≡ Some rest
  pub wrote : told' ≡ Some (old ++ written)

-- the same, where they are told
pub record Progress (s : Settings) (h h' : PlainHost) (served served' : ℕ) (left ahead told told' : Option (List ℕ)) : Type 0 where
  pub reached : (bytes old : List ℕ) → left ≡ Some bytes → told ≡ Some old → Reached s h h' served served' bytes old ahead told'

-- Where the bytes are whole requests within the bound, so are those ahead.
pub record Wholes (most served served' : ℕ) (left ahead : Option (List ℕ)) : Type 0 where
  pub behind : (bytes : List ℕ) (all : List Message) → left ≡ Some bytes → RequestsOf bytes all ended → served + length all ≤ most
      → (rest : List ℕ) × (others : List Message) × (ahead ≡ Some rest) × RequestsOf rest others ended × (served' + length others ≤ most)

before_nothing : (left : Option (List ℕ)) → before [] left ≡ left
before_nothing None = refl
before_nothing (Some rest) = refl

-- what is ahead, where nothing is held
starts_ahead : (held : List ℕ) (left : Option (List ℕ)) → held ≡ [] → before held left ≡ left
starts_ahead held left e = ap (λ (z : List ℕ). before z left) e ∙ before_nothing left

-- nothing was asked yet
pub started : (s : Settings) (h : PlainHost) (served : ℕ) (left told : Option (List ℕ)) (held : List ℕ) → held ≡ [] → Progress s h h served served left (before held left) told told
started s h served left told held e = record {
  reached = λ bytes old is_left is_told. record {
    written = [];
    rest = bytes;
    prefix = ([], p.pause h served bytes, refl);
    goes_on = starts_ahead held left e ∙ is_left;
    wrote = is_told ∙ ap Some (sym (append-nil old));
  };
}

pub whole_started : (most served : ℕ) (left : Option (List ℕ)) (held : List ℕ) → held ≡ [] → Wholes most served served left (before held left)
whole_started most served left held e = record {
  behind = λ bytes all is_left whole few. (bytes, all, starts_ahead held left e ∙ is_left, whole, few);
}

-- the bytes of the program's reply
pub reply_bytes_of : (value : written.Reply) (r : Reply) (close said : Bool) → IsOf value r → close ≡ said → reply_bytes value close ≡ bytes_of r said
reply_bytes_of value r close said is same = cc (is.code, is.html, is.allowed, is.text, same)

or_true : (a b : Bool) → b ≡ true → a || b ≡ true
or_true true b e = refl
or_true false b e = e

halt_ends : (asked : Result Asked Refusal) → is_halt asked ≡ true → ends_connection asked ≡ true
halt_ends (Ok a.Halt) e = refl
halt_ends (Ok a.Dom) e = absurd (cc)
halt_ends (Ok a.Load) e = absurd (cc)
halt_ends (Ok (a.Node id)) e = absurd (cc)
halt_ends (Ok a.Stats) e = absurd (cc)
halt_ends (Ok (a.Event event)) e = absurd (cc)
halt_ends (Ok (a.Tick ms)) e = absurd (cc)
halt_ends (Err r) e = absurd (cc)

-- after a `/halt` the connection ends
halt_closes : (bytes rest : List ℕ) (i : Incoming) → Comes bytes i rest → is_halt i.asked ≡ true → i.close ≡ true
halt_closes _ _ _ (came.request bytes rest m x) e = or_true m.close _ (halt_ends _ e)
halt_closes _ _ _ (came.refusal bytes r x) e = absurd (cc)

-- what goes behind what went
after_told : (t t' : Option (List ℕ)) (old replies more : List ℕ) → t ≡ Some (old ++ replies) → t' ≡ after t more → t' ≡ Some (old ++ (replies ++ more))
after_told t t' old replies more was went =
    went ∙ ap (λ (z : Option (List ℕ)). after z more) was ∙ ap Some (append_assoc old replies more)

-- one more request is answered, and ends nothing
pub went_on : (s : Settings) (h m h' : PlainHost) (served n : ℕ) (left ahead ahead' told t t' : Option (List ℕ)) (i : Incoming) (r : Reply)
    → Progress s h m served n left ahead told t → n < s.limits Limit.Served → NextStream (Ok (next.Request i)) ahead ahead' → Answered s m i.asked [] [] r h' → i.close ≡ false → t' ≡ after t (bytes_of r false)
    → Progress s h h' served (n + 1) left ahead' told t'
went_on s h m h' served n left ahead ahead' told t t' i r progress few stream answered open_yet went = record {
  reached = λ bytes old is_left is_told.
      let q = progress.reached bytes old is_left is_told in
      let c = stream q.rest q.goes_on in
      record {
        written = q.written ++ bytes_of r false;
        rest = c.0;
        prefix = sent_one s h m h' served n (n + 1) bytes q.rest q.written r false (paused c.0) q.prefix
            (p.more m h' h' n (n + 1) q.rest c.0 i [] [] [] [] r [] (paused c.0) few c.2 answered open_yet (p.pause h' (n + 1) c.0));
        goes_on = c.1;
        wrote = after_told t t' old q.written (bytes_of r false) q.wrote went;
      };
}

pub whole_on : (most served n : ℕ) (left ahead ahead' : Option (List ℕ)) (i : Incoming) → Wholes most served n left ahead → NextWhole (Ok (next.Request i)) ahead ahead' → Wholes most served (n + 1) left ahead'
whole_on most served n left ahead ahead' i wholes says = record {
  behind = λ bytes all is_left whole few.
      let q = wholes.behind bytes all is_left whole few in
      let c = says q.0 q.1 q.2 q.3 in
      let long : length q.1 ≡ length (c.0 ∷ c.1) = ap length c.3 in
      (c.2, c.1, c.5, c.6, omega (arith, long, q.4));
}

-- ---- the ends of a stream

-- the stream ends after what was answered
pub ended_so : (s : Settings) (h m : PlainHost) (served n : ℕ) (left ahead told t : Option (List ℕ)) → Progress s h m served n left ahead told t → ((all : List ℕ) → ahead ≡ Some all → RequestsOf all [] ended)
    → (bytes old : List ℕ) → left ≡ Some bytes → told ≡ Some old → (gained : List ℕ) × (t ≡ Some (old ++ gained)) × RunsTo at_end s h m served n bytes [] [] gained
ended_so s h m served n left ahead told t progress stream bytes old is_left is_told =
    let q = progress.reached bytes old is_left is_told in
    let so : EndsAs q.rest ended = stops_so q.rest ended (stream q.rest q.goes_on) in
    (q.written, q.wrote, run_of s h m m served n n bytes q.rest q.written at_end q.prefix (p.end m n q.rest so))

pub truncated_so : (s : Settings) (h m : PlainHost) (served n : ℕ) (left ahead told t : Option (List ℕ)) → Progress s h m served n left ahead told t → ((all : List ℕ) → ahead ≡ Some all → RequestsOf all [] truncated)
    → (bytes old : List ℕ) → left ≡ Some bytes → told ≡ Some old → (gained : List ℕ) × (t ≡ Some (old ++ gained)) × RunsTo cut_off s h m served n bytes [] [] gained
truncated_so s h m served n left ahead told t progress stream bytes old is_left is_told =
    let q = progress.reached bytes old is_left is_told in
    let so : EndsAs q.rest truncated = stops_so q.rest truncated (stream q.rest q.goes_on) in
    (q.written, q.wrote, run_of s h m m served n n bytes q.rest q.written cut_off q.prefix (p.cut m n q.rest so))

pub bound_so : (s : Settings) (h m : PlainHost) (served n : ℕ) (left ahead ahead' told t : Option (List ℕ)) (i : Incoming) → Progress s h m served n left ahead told t → NextStream (Ok (next.Request i)) ahead ahead'
    → n ≡ s.limits Limit.Served → (bytes old : List ℕ) → left ≡ Some bytes → told ≡ Some old → (gained : List ℕ) × (t ≡ Some (old ++ gained)) × RunsTo at_bound s h m served n bytes [] [] gained
bound_so s h m served n left ahead ahead' told t i progress stream full bytes old is_left is_told =
    let q = progress.reached bytes old is_left is_told in
    let c = stream q.rest q.goes_on in
    (q.written, q.wrote, run_of s h m m served n n bytes q.rest q.written at_bound q.prefix (p.bound m n q.rest c.0 i full c.2))

pub read_fault_so : (s : Settings) (h m : PlainHost) (served n : ℕ) (left ahead told t left' : Option (List ℕ)) (kept : List ℕ) → Progress s h m served n left ahead told t → before kept left' ≡ ahead → IsUnfinished kept
    → (bytes old : List ℕ) → left ≡ Some bytes → told ≡ Some old → (gained : List ℕ) × (t ≡ Some (old ++ gained)) × StopsReading s h m served n bytes [] [] gained left'
read_fault_so s h m served n left ahead told t left' kept progress same unfinished bytes old is_left is_told =
    let q = progress.reached bytes old is_left is_told in
    (q.written, q.wrote, record { rest = q.rest; prefix = q.prefix; kept = kept; unfinished = unfinished; split = sym q.goes_on ∙ sym same })

-- memory was refused between two replies
pub gives_up : (s : Settings) (h m : PlainHost) (served n : ℕ) (left ahead told t : Option (List ℕ)) → Progress s h m served n left ahead told t
    → (bytes old : List ℕ) → left ≡ Some bytes → told ≡ Some old → (gained : List ℕ) × (t ≡ Some (old ++ gained)) × GivesUp s h served bytes [] [] gained
gives_up s h m served n left ahead told t progress bytes old is_left is_told =
    let q = progress.reached bytes old is_left is_told in
    (q.written, q.wrote, inl (m, n, q.rest, q.prefix))

-- memory is refused before all
pub never_began : (s : Settings) (h : PlainHost) (served : ℕ) (left told : Option (List ℕ))
    → (bytes old : List ℕ) → left ≡ Some bytes → told ≡ Some old → (gained : List ℕ) × (told ≡ Some (old ++ gained)) × GivesUp s h served bytes [] [] gained
never_began s h served left told bytes old is_left is_told =
    ([], is_told ∙ ap Some (sym (append-nil old)), inl (h, served, bytes, ([], p.pause h served bytes, refl)))

-- a reply was written in part
pub stops_writing : (s : Settings) (h m h' : PlainHost) (served n part : ℕ) (left ahead ahead' told t t' : Option (List ℕ)) (i : Incoming) (r : Reply)
    → Progress s h m served n left ahead told t → n < s.limits Limit.Served → NextStream (Ok (next.Request i)) ahead ahead' → Answered s m i.asked [] [] r h' → t' ≡ after t (take part (bytes_of r i.close))
    → (bytes old : List ℕ) → left ≡ Some bytes → told ≡ Some old → (gained : List ℕ) × (t' ≡ Some (old ++ gained)) × StopsWriting s h h' served (n + 1) bytes [] [] gained
stops_writing s h m h' served n part left ahead ahead' told t t' i r progress few stream answered went bytes old is_left is_told =
    let q = progress.reached bytes old is_left is_told in
    let c = stream q.rest q.goes_on in
    let some = take part (bytes_of r i.close) in (
      q.written ++ some,
      after_told t t' old q.written some q.wrote went,
      record {
        mid = m;
        count = n;
        whole = q.written;
        rest = q.rest;
        behind = c.0;
        g = [];
        p = [];
        gs = [];
        ps = [];
        prefix = q.prefix;
        incoming = i;
        comes = c.2;
        reply = r;
        answered = answered;
        fits = few;
        counted = refl;
        used_gets = refl;
        used_posts = refl;
        part = part;
        gained = refl;
      },
    )

-- memory is refused inside a reply
pub gives_up_writing : (s : Settings) (h m h' : PlainHost) (served n part : ℕ) (left ahead ahead' told t t' : Option (List ℕ)) (i : Incoming) (r : Reply)
    → Progress s h m served n left ahead told t → n < s.limits Limit.Served → NextStream (Ok (next.Request i)) ahead ahead' → Answered s m i.asked [] [] r h' → t' ≡ after t (take part (bytes_of r i.close))
    → (bytes old : List ℕ) → left ≡ Some bytes → told ≡ Some old → (gained : List ℕ) × (t' ≡ Some (old ++ gained)) × GivesUp s h served bytes [] [] gained
gives_up_writing s h m h' served n part left ahead ahead' told t t' i r progress few stream answered went bytes old is_left is_told =
    let w = stops_writing s h m h' served n part left ahead ahead' told t t' i r progress few stream answered went bytes old is_left is_told in
    (w.0, w.1, inr (h', n + 1, w.2))

-- a reply closes
pub closes_so : (s : Settings) (h m h' : PlainHost) (served n : ℕ) (left ahead ahead' told t t' : Option (List ℕ)) (i : Incoming) (r : Reply) (e : Ending)
    → Progress s h m served n left ahead told t → n < s.limits Limit.Served → NextStream (Ok (next.Request i)) ahead ahead' → Answered s m i.asked [] [] r h' → i.close ≡ true → ending_behind i ≡ e → t' ≡ after t (bytes_of r true)
    → (bytes old : List ℕ) → left ≡ Some bytes → told ≡ Some old → (gained : List ℕ) × (t' ≡ Some (old ++ gained)) × RunsTo e s h h' served (n + 1) bytes [] [] gained
closes_so s h m h' served n left ahead ahead' told t t' i r e progress few stream answered closes is went bytes old is_left is_told =
    let q = progress.reached bytes old is_left is_told in
    let c = stream q.rest q.goes_on in
    let sent : List Sent = record { reply = r; closes = true } ∷ [] in
    let last : PlainRun s m n q.rest [] [] sent h' (n + 1) e = subst (PlainRun s m n q.rest [] [] sent h' (n + 1)) is (p.last m h' n q.rest c.0 i [] [] r few c.2 answered closes) in (
      q.written ++ bytes_of r true,
      after_told t t' old q.written (bytes_of r true) q.wrote went,
      sent_one s h m h' served n (n + 1) bytes q.rest q.written r true e q.prefix last,
    )

-- the reply to a `/halt` is the last
pub halts_so : (s : Settings) (h m h' : PlainHost) (served n : ℕ) (left ahead ahead' told t t' : Option (List ℕ)) (i : Incoming) (r : Reply)
    → Progress s h m served n left ahead told t → n < s.limits Limit.Served → NextStream (Ok (next.Request i)) ahead ahead' → Answered s m i.asked [] [] r h' → is_halt i.asked ≡ true → t' ≡ after t (bytes_of r i.close)
    → (bytes old : List ℕ) → left ≡ Some bytes → told ≡ Some old → (gained : List ℕ) × (t' ≡ Some (old ++ gained)) × RunsTo halted_so s h h' served (n + 1) bytes [] [] gained
halts_so s h m h' served n left ahead ahead' told t t' i r progress few stream answered halts went bytes old is_left is_told =
    let q = progress.reached bytes old is_left is_told in
    let c = stream q.rest q.goes_on in
    let closes = halt_closes q.rest c.0 i c.2 halts in
    closes_so s h m h' served n left ahead ahead' told t t' i r halted_so progress few stream answered closes (ap ending_of halts) (went ∙ ap (λ (b : Bool). after t (bytes_of r b)) closes) bytes old is_left is_told
