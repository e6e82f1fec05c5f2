-- A head in the first bytes, and the bytes that go on behind them.
use Rattle.std.proofs.Common.{◌≡◌, ℕ, ◌+◌, ◌-◌, ◌<◌, ◌≤◌, min, List, ◌++◌, length, take, drop, map, slice_range, sym, ap, subst, ◌∙◌, arith, inl, inr, length-append, length-drop}
use Rattle.std.proofs.lemmas.Bool.{cases_lt}
use Rattle.std.proofs.lemmas.List.{take-append-le, drop-append-le, take_all}
use Rattle.std.specs.Prelude.{Result, Ok, Err}
use Rattle.httparse.specs.declared.spans.Span.{Span}
use Rattle.httparse.specs.declared.spans.HeaderSpan.{HeaderSpan}
use Rattle.httparse.specs.declared.spans.RequestSpans.{RequestSpans}
use Rattle.httparse.specs.Grammar.{RequestHead, print_request, ReadsRequest, HasNoRequest, NeverHasRequest, MayBecomeRequest}
use Rattle.httparse.specs.Spans.{span_bytes, header_bytes, IsRequestAt, IsRequestOf, IsRequestWithin}
use Rattle.httparse.proofs.GrammarLemmas.{ReadsRequest-append}
use Rattle.wire_asks.specs.declared.asked.Refusal.{Refusal}
use Rattle.http_wire.specs.Bounds.{head_bytes}
use Rattle.http_wire.specs.declared.held.Whole.{Whole}
use Rattle.http_wire.specs.Fields.{body_length, closes}
use Rattle.http_wire.specs.Messages.{BeginsHead, length_behind}
use Rattle.http_wire.specs.Outcomes.{look, Refuses, IsUnfinished, no_body, in_body, in_head}
use Rattle.http_wire.specs.Held.{WholeIs}

-- the first bytes are those in which a head is looked for
pub look_is : (bytes : List ℕ) (n : ℕ) → n ≡ min (length bytes) head_bytes → take n bytes ≡ look bytes
look_is bytes n e =
    elim (cases_lt (length bytes) head_bytes) [
      | inl few ↦
          let all : n ≡ length bytes = omega (arith, e, few) in
          ap (λ (k : ℕ). take k bytes) all ∙ take_all (length bytes) bytes (omega arith) ∙ sym (take_all head_bytes bytes (omega (arith, few)))
      | inr many ↦ let whole : n ≡ head_bytes = omega (arith, e, many) in ap (λ (k : ℕ). take k bytes) whole
    ]

-- a range within the first bytes is the same range of all
pub range_within : (seen more : List ℕ) (start end : ℕ) → end ≤ length seen → slice_range (seen ++ more) start end ≡ slice_range seen start end
range_within seen more start end fits =
    elim (cases_lt start (length seen)) [
      | inl inside ↦
          let room : end - start ≤ length (drop start seen) = omega (arith, length-drop start seen, fits) in
          ap (take (end - start)) (drop-append-le start seen more (omega (arith, inside))) ∙ take-append-le (end - start) (drop start seen) more room
      | inr past ↦
          let none : end - start ≡ 0 = omega (arith, fits, past) in
          ap (λ (k : ℕ). take k (drop start (seen ++ more))) none ∙ ap (λ (k : ℕ). take k (drop start seen)) (sym none)
    ]

-- a head of the first bytes stands at the front of all
pub head_stands : (seen more bytes : List ℕ) (room : List HeaderSpan) (spans : RequestSpans) (h : RequestHead) → IsRequestAt seen room spans h → spans.len ≤ length seen → length seen ≤ head_bytes → bytes ≡ seen ++ more → BeginsHead bytes h (drop spans.len bytes)
head_stands seen more bytes room spans h at fits few e =
    let back : drop spans.len bytes ≡ drop spans.len seen ++ more = ap (drop spans.len) e ∙ drop-append-le spans.len seen more fits in
    let reads : ReadsRequest (seen ++ more) h (drop spans.len seen ++ more) = ReadsRequest-append seen h _ more at.reads in
    record {
      reads = (reads.0, e ∙ reads.1 ∙ ap (λ (z : List ℕ). print_request h ++ z) (sym back));
      fits = omega (arith, at.len, fits, few);
    }

-- the length that the fields tell is the one behind the head
pub length_told : (seen : List ℕ) (room : List HeaderSpan) (spans : RequestSpans) (h : RequestHead) (method : List ℕ) (told : Result ℕ Refusal) → IsRequestAt seen room spans h → method ≡ span_bytes seen spans.method
    → told ≡ body_length method (map (header_bytes seen) (take spans.headers room)) → length_behind h ≡ told
length_told seen room spans h method told at is e =
    let same : method ≡ h.method = is ∙ at.method in
    sym (e ∙ ap (λ (z : List ℕ). body_length z (map (header_bytes seen) (take spans.headers room))) same ∙ ap (body_length h.method) at.fields)

-- a head without a length is refused
pub refused_behind : (bytes seen : List ℕ) (room : List HeaderSpan) (spans : RequestSpans) (method : List ℕ) (refusal : Refusal) → ((more : List ℕ) × (bytes ≡ seen ++ more)) → length seen ≤ head_bytes → IsRequestOf seen room spans → IsRequestWithin seen room spans
    → method ≡ span_bytes seen spans.method → Err refusal ≡ body_length method (map (header_bytes seen) (take spans.headers room)) → Refuses bytes refusal
refused_behind bytes seen room spans method refusal front few whole within is told =
    no_body bytes whole.0 _ refusal (head_stands seen front.0 bytes room spans whole.0 whole.1 within.section.len_fits few front.1)
    (length_told seen room spans whole.0 method (Err refusal) whole.1 is told)

-- a body that isn't whole is unfinished
pub unfinished_behind : (bytes seen : List ℕ) (room : List HeaderSpan) (spans : RequestSpans) (method : List ℕ) (count : ℕ) → ((more : List ℕ) × (bytes ≡ seen ++ more)) → length seen ≤ head_bytes → IsRequestOf seen room spans → IsRequestWithin seen room spans
    → method ≡ span_bytes seen spans.method → Ok count ≡ body_length method (map (header_bytes seen) (take spans.headers room)) → length bytes - spans.len < count → IsUnfinished bytes
unfinished_behind bytes seen room spans method count front few whole within is told short =
    in_body bytes whole.0 (drop spans.len bytes) count (head_stands seen front.0 bytes room spans whole.0 whole.1 within.section.len_fits few front.1)
    (length_told seen room spans whole.0 method (Ok count) whole.1 is told) (omega (arith, length-drop spans.len bytes, short))

-- a request whose body is whole
pub whole_behind : (bytes seen : List ℕ) (room : List HeaderSpan) (w : Whole) (method : List ℕ) → ((more : List ℕ) × (bytes ≡ seen ++ more)) → length seen ≤ head_bytes → IsRequestOf seen room w.spans → IsRequestWithin seen room w.spans
    → method ≡ span_bytes seen w.spans.method → Ok w.body_length ≡ body_length method (map (header_bytes seen) (take w.spans.headers room)) → w.body_length ≤ length bytes - w.spans.len
    → w.close ≡ closes w.spans.version (map (header_bytes seen) (take w.spans.headers room)) → WholeIs bytes w
whole_behind bytes seen room w method front few whole within is told fits close =
    let spans = w.spans in
    let h = whole.0 in
    let at = whole.1 in
    let len : spans.len ≤ length seen = within.section.len_fits in
    let long : length bytes ≡ length seen + length front.0 = ap length front.1 ∙ length-append seen front.0 in
    let range : (s : Span) → s.end ≤ spans.len → span_bytes bytes s ≡ span_bytes seen s = λ s e. let inside : s.end ≤ length seen = omega (arith, e, len) in ap (λ (z : List ℕ). slice_range z s.start s.end) front.1 ∙ range_within seen front.0 s.start s.end inside in
    record {
      h = h;
      head = head_stands seen front.0 bytes room spans h at len few front.1;
      len = at.len;
      method = range spans.method within.method.1 ∙ at.method;
      target = range spans.path within.path.1 ∙ at.path;
      minor = at.version;
      close = close ∙ ap (λ (z : ℕ). closes z (map (header_bytes seen) (take spans.headers room))) at.version ∙ ap (closes h.minor) at.fields;
      length_is = length_told seen room spans h method (Ok w.body_length) at is told;
      body_fits = omega (arith, fits, long, len);
      method_within = within.method;
      target_within = within.path;
    }

-- what is looked at never becomes a head
pub bad_look : (bytes : List ℕ) (n : ℕ) → n ≡ min (length bytes) head_bytes → NeverHasRequest (take n bytes) → NeverHasRequest (look bytes)
bad_look bytes n e never = subst NeverHasRequest (look_is bytes n e) never

-- what is looked at is no head yet
pub open_look : (bytes : List ℕ) (n : ℕ) → n ≡ min (length bytes) head_bytes → HasNoRequest (take n bytes) × MayBecomeRequest (take n bytes) → HasNoRequest (look bytes) × MayBecomeRequest (look bytes)
open_look bytes n e none = (subst HasNoRequest (look_is bytes n e) none.0, subst MayBecomeRequest (look_is bytes n e) none.1)

-- a look at fewer bytes sees them all
pub look_all : (bytes : List ℕ) → length bytes < head_bytes → look bytes ≡ bytes
look_all bytes few = take_all head_bytes bytes (omega (arith, few))

-- a head that isn't whole yet, in fewer bytes than a head may have
pub unfinished_head : (bytes : List ℕ) (n : ℕ) → n ≡ min (length bytes) head_bytes → length bytes < head_bytes → HasNoRequest (take n bytes) × MayBecomeRequest (take n bytes) → IsUnfinished bytes
unfinished_head bytes n e few none =
    let open_all = open_look bytes n e none in
    in_head bytes few (subst HasNoRequest (look_all bytes few) open_all.0) (subst MayBecomeRequest (look_all bytes few) open_all.1)
