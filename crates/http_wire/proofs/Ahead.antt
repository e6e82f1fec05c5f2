-- The bytes ahead: those that are held, and then what is left of the source.
use Rattle.std.proofs.Common.{◌≡◌, ◌+◌, ◌-◌, ℕ, List, [], ◌∷◌, ◌++◌, length, take, drop, slice_range, Option, Some, None, refl, ap, sym, subst, ◌∙◌, arith, inl, inr, length-append, length-drop, length-take, append_assoc}
use Rattle.std.proofs.lemmas.Bool.{cases_lt}
use Rattle.std.proofs.lemmas.List.{append-nil, take-append-drop, take-append-le, take_all, drop-drop}
use Rattle.std.proofs.Math.Seq.{take-append-add}
use Rattle.std.specs.Prelude.{Ok}
use Rattle.byte_ports.specs.Streams.{before}
use Rattle.httparse.specs.Grammar.{RequestHead, print_request, HasNoRequest, NeverHasRequest, MayBecomeRequest}
use Rattle.httparse.specs.Spans.{span_bytes}
use Rattle.httparse.proofs.GrammarLemmas.{ReadsRequest-append}
use Rattle.http_wire.specs.Bounds.{head_bytes}
use Rattle.http_wire.specs.declared.held.Whole.{Whole}
use Rattle.wire_asks.specs.declared.asked.Refusal.{Refusal}
use Rattle.http_wire.specs.Messages.{Message, BeginsHead, BeginsMessage, IsMessage}
use Rattle.http_wire.specs.Outcomes.{look, Refuses, bad_head, long_head, no_body}
use Rattle.http_wire.specs.Requests.{Ending, refused, EndsAs, RequestsOf, more, stop}
use Rattle.http_wire.specs.Held.{WholeIs}

-- what is told goes on behind what was read
pub before_some : (held : List ℕ) (left : Option (List ℕ)) (bytes : List ℕ) → before held left ≡ Some bytes → (rest : List ℕ) × (left ≡ Some rest) × (bytes ≡ held ++ rest)
before_some held None bytes e = absurd (cc)
before_some held (Some rest) bytes e = (rest, refl, cc)

-- two fronts are one
pub before_before : (left : Option (List ℕ)) (xs ys : List ℕ) → before xs (before ys left) ≡ before (xs ++ ys) left
before_before None xs ys = refl
before_before (Some rest) xs ys = ap Some (sym (append_assoc xs ys rest))

-- more bytes only go on with what is looked at
look_more : (held rest : List ℕ) → (further : List ℕ) × (look (held ++ rest) ≡ look held ++ further)
look_more held rest =
    elim (cases_lt (length held) head_bytes) [
      | inl few ↦
          let n = head_bytes - length held in
          let whole : head_bytes ≡ length held + n = omega (arith, few) in
          (take n rest, ap (λ (k : ℕ). take k (held ++ rest)) whole ∙ take-append-add held rest n ∙ ap (λ (z : List ℕ). z ++ take n rest) (sym (take_all head_bytes held (omega (arith, few)))))
      | inr many ↦ ([], take-append-le head_bytes held rest many ∙ sym (append-nil (take head_bytes held)))
    ]

-- what never becomes a head does not by the bytes that came
never_more : (bytes came : List ℕ) → NeverHasRequest bytes → NeverHasRequest (bytes ++ came)
never_more bytes came never = λ further. subst HasNoRequest (sym (append_assoc bytes came further)) (never (came ++ further))

-- a head stays where it is
head_more : (bytes came : List ℕ) (h : RequestHead) (behind : List ℕ) → BeginsHead bytes h behind → BeginsHead (bytes ++ came) h (behind ++ came)
head_more bytes came h behind head = record { reads = ReadsRequest-append bytes h behind came head.reads; fits = head.fits }

-- a request stays where it is
pub message_more : (bytes came rest : List ℕ) (m : Message) → BeginsMessage bytes m rest → BeginsMessage (bytes ++ came) m (rest ++ came)
message_more bytes came rest m begins =
    let head = head_more bytes came begins.h (m.body ++ rest) begins.head in
    record {
      h = begins.h;
      head = subst (BeginsHead (bytes ++ came) begins.h) (append_assoc m.body rest came) head;
      length_is = begins.length_is;
      method = begins.method;
      target = begins.target;
      minor = begins.minor;
      close = begins.close;
    }

-- a request that was taken is the first of the bytes that it was taken from
pub request_first : (ahead ahead' : Option (List ℕ)) (front bytes rest : List ℕ) (m : Message) → IsMessage front m → ahead ≡ before front ahead' → ahead ≡ Some bytes → ahead' ≡ Some rest → (others : List Message) (ending : Ending) → RequestsOf rest others ending → RequestsOf bytes (m ∷ others) ending
request_first ahead ahead' front bytes rest m whole split told told' others ending behind =
    let some : Some bytes ≡ Some (front ++ rest) = sym told ∙ split ∙ ap (before front) told' in
    let same : front ++ rest ≡ bytes = cc in
    more bytes rest m others ending (subst (λ (z : List ℕ). BeginsMessage z m rest) same (message_more front rest [] m whole)) behind

-- what the held bytes refuse, all bytes refuse
pub refuses_more : (held rest : List ℕ) (refusal : Refusal) → Refuses held refusal → Refuses (held ++ rest) refusal
refuses_more held rest refusal (bad_head _ never) =
    let on = look_more held rest in
    bad_head (held ++ rest) (subst NeverHasRequest (sym on.1) (never_more (look held) on.0 never))
refuses_more held rest refusal (long_head _ many none open_yet) =
    let same : look (held ++ rest) ≡ look held = take-append-le head_bytes held rest many in
    long_head (held ++ rest) (omega (arith, many, length-append held rest)) (subst HasNoRequest (sym same) none) (subst MayBecomeRequest (sym same) open_yet)
refuses_more held rest refusal (no_body _ h behind _ head told) = no_body (held ++ rest) h (behind ++ rest) refusal (head_more held rest h behind head) told

-- a refusal of what is held is one of all bytes ahead
pub refused_ahead : (held : List ℕ) (left ahead : Option (List ℕ)) (refusal : Refusal) → before held left ≡ ahead → Refuses held refusal → (bytes : List ℕ) → ahead ≡ Some bytes → RequestsOf bytes [] (refused refusal)
refused_ahead held left ahead refusal same shown bytes told =
    let q = before_some held left bytes (same ∙ told) in
    stop bytes (refused refusal) (subst (λ (z : List ℕ). Refuses z refusal) (sym q.2) (refuses_more held q.0 refusal shown))

-- where nothing is left of the source, the bytes ahead are those that are held
pub ended_ahead : (held : List ℕ) (left ahead : Option (List ℕ)) (ending : Ending) → before held left ≡ ahead → EndsAs held ending → ((bytes : List ℕ) → left ≡ Some bytes → bytes ≡ []) → (bytes : List ℕ) → ahead ≡ Some bytes → RequestsOf bytes [] ending
ended_ahead held left ahead ending same shown over bytes told =
    let q = before_some held left bytes (same ∙ told) in
    let all : held ≡ bytes = sym (q.2 ∙ ap (λ (z : List ℕ). held ++ z) (over q.0 q.1) ∙ append-nil held) in
    stop bytes ending (subst (λ (z : List ℕ). EndsAs z ending) all shown)

-- a request is taken from the front of what is held
pub message_taken : (held rest : List ℕ) (w : Whole) (m : Message) → WholeIs held w → m.method ≡ span_bytes held w.spans.method → m.target ≡ span_bytes held w.spans.path → m.minor ≡ w.spans.version → m.close ≡ w.close
    → m.body ≡ slice_range held w.spans.len (w.spans.len + w.body_length) → rest ≡ drop (w.spans.len + w.body_length) held → (front : List ℕ) × IsMessage front m × (held ≡ front ++ rest)
message_taken held rest w m is method target minor close body left =
    let h = is.h in
    let behind = drop w.spans.len held in
    let n = w.body_length in
    let width : (w.spans.len + n) - w.spans.len ≡ n = omega arith in
    let first : m.body ≡ take n behind = body ∙ ap (λ (k : ℕ). take k behind) width in
    let then_rest : rest ≡ drop n behind = left ∙ sym (drop-drop n w.spans.len held) in
    let split : behind ≡ m.body ++ rest = sym (take-append-drop n behind) ∙ ap (λ (z : List ℕ). z ++ drop n behind) (sym first) ∙ ap (λ (z : List ℕ). m.body ++ z) (sym then_rest) in
    let long : length m.body ≡ n = omega (arith, ap length first, length-take n behind, length-drop w.spans.len held, is.body_fits) in (
      print_request h ++ m.body,
      record {
        h = h;
        head = record { reads = (is.head.reads.0, ap (λ (z : List ℕ). print_request h ++ z) (sym (append-nil m.body))); fits = is.head.fits };
        length_is = is.length_is ∙ ap Ok (sym long);
        method = method ∙ is.method;
        target = target ∙ is.target;
        minor = minor ∙ is.minor;
        close = close ∙ is.close;
      },
      is.head.reads.1 ∙ ap (λ (z : List ℕ). print_request h ++ z) split ∙ sym (append_assoc (print_request h) m.body rest),
    )

-- a request that was taken from what is held is the front of the bytes ahead
pub taken_ahead : (held held' front : List ℕ) (left ahead : Option (List ℕ)) → before held left ≡ ahead → held ≡ front ++ held' → ahead ≡ before front (before held' left)
taken_ahead held held' front left ahead same split = sym same ∙ ap (λ (z : List ℕ). before z left) split ∙ sym (before_before left front held')
