-- The requests of a stream are one list, and it ends in one way, but for a head that ends inside its target and that no
-- bytes can complete.
use Prim.Native.Char.{code}
use Rattle.std.proofs.Common.{◌≡◌, ◌≢◌, ◌+◌, ◌-◌, ◌⊎◌, ℕ, ◌≤◌, List, [], ◌∷◌, ◌++◌, length, codes, take, drop, refl, ap, sym, subst, ◌∙◌, arith, inl, inr, length-append}
use Rattle.std.proofs.lemmas.List.{append-nil, take_at, drop_at, take_all}
use Rattle.std.proofs.Math.Seq.{take-append-add}
use Rattle.std.specs.Prelude.{Result, Ok, Err}
use Rattle.httparse.specs.Grammar.{lf, IsField, RequestHead, IsRequestHead, is_token_byte, is_uri_byte, print_request, ReadsRequest, HasNoRequest, NeverHasRequest, MayBecomeRequest, EndsInTarget}
use Rattle.httparse.proofs.GrammarLemmas.{request_unique}
use Rattle.httparse.proofs.OnLiterals.{httparse_on_literals}
use Rattle.std.proofs.lemmas.List.Elements.{All-nil, All-cons}
use Rattle.std.specs.Prelude.{IsTrue, ◌*◌}
use Rattle.http_wire.specs.Bounds.{head_bytes}
use Rattle.http_wire.proofs.Room.{head_length}
use Rattle.wire_asks.specs.declared.asked.Refusal.{Refusal}
use Rattle.http_wire.specs.Messages.{Message, BeginsHead, BeginsMessage, length_behind, fields_of}
use Rattle.http_wire.specs.Outcomes.{look, Refuses, IsUnfinished, bad_head, long_head, no_body, in_head, in_body}
use Rattle.http_wire.specs.Requests.{Ending, refused, ended, truncated, EndsAs, RequestsOf, more, stop}
use Rattle.http_wire.specs.Fields.{closes}

-- two heads at the front are one
same_head : (bytes : List ℕ) (h k : RequestHead) (behind other : List ℕ) → BeginsHead bytes h behind → BeginsHead bytes k other → (h ≡ k) × (behind ≡ other)
same_head bytes h k behind other x y = request_unique bytes h k behind other x.reads y.reads

-- a head at the front is seen whole
head_seen : (bytes : List ℕ) (h : RequestHead) (behind : List ℕ) → BeginsHead bytes h behind → (rest : List ℕ) × ReadsRequest (look bytes) h rest
head_seen bytes h behind head =
    let n = head_bytes - length (print_request h) in
    let whole : head_bytes ≡ length (print_request h) + n = omega (arith, head.fits) in (
      take n behind,
      (head.reads.0, ap (take head_bytes) head.reads.1 ∙ ap (λ (k : ℕ). take k (print_request h ++ behind)) whole ∙ take-append-add (print_request h) behind n),
    )

-- where a head stands at the front, what is looked at has one
none_seen : (bytes : List ℕ) (h : RequestHead) (behind : List ℕ) → BeginsHead bytes h behind → HasNoRequest (look bytes) → ⊥
none_seen bytes h behind head none = let seen = head_seen bytes h behind head in none h seen.0 seen.1

-- what never becomes a head is none
never_none : (bytes : List ℕ) → NeverHasRequest bytes → HasNoRequest bytes
never_none bytes never = subst HasNoRequest (append-nil bytes) (never [])

-- what never becomes a head, and may become one, ends in its target
never_may : (bytes : List ℕ) → NeverHasRequest bytes → MayBecomeRequest bytes → EndsInTarget bytes
never_may bytes never (inl may) = absurd (never may.0 may.1 [] may.2)
never_may bytes never (inr target) = target

-- the same lengths of a head
same_length : (h k : RequestHead) (a b : Result ℕ Refusal) → h ≡ k → length_behind h ≡ a → length_behind k ≡ b → a ≡ b
same_length h k a b same x y = sym x ∙ ap length_behind same ∙ y

-- equal lengths of two answers
ok_same : (a b : ℕ) → (let answer : Result ℕ Refusal = Ok a in answer) ≡ Ok b → a ≡ b
ok_same a b e = cc

-- two requests at the front are one
pub message_unique : (bytes rest other : List ℕ) (m k : Message) → BeginsMessage bytes m rest → BeginsMessage bytes k other → (m ≡ k) × (rest ≡ other)
message_unique bytes rest other m k x y =
    let heads = same_head bytes x.h y.h (m.body ++ rest) (k.body ++ other) x.head y.head in
    let lengths : length m.body ≡ length k.body = ok_same _ _ (same_length x.h y.h (Ok (length m.body)) (Ok (length k.body)) heads.0 x.length_is y.length_is) in
    let body : m.body ≡ k.body = sym (take_at m.body rest (length m.body) refl) ∙ ap (take (length m.body)) heads.1 ∙ take_at k.body other (length m.body) (sym lengths) in
    let left : rest ≡ other = sym (drop_at m.body rest (length m.body) refl) ∙ ap (drop (length m.body)) heads.1 ∙ drop_at k.body other (length m.body) (sym lengths) in
    let method : m.method ≡ k.method = x.method ∙ ap (λ (z : RequestHead). z.method) heads.0 ∙ sym y.method in
    let target : m.target ≡ k.target = x.target ∙ ap (λ (z : RequestHead). z.target) heads.0 ∙ sym y.target in
    let minor : m.minor ≡ k.minor = x.minor ∙ ap (λ (z : RequestHead). z.minor) heads.0 ∙ sym y.minor in
    let close : m.close ≡ k.close = x.close ∙ ap (λ (z : RequestHead). closes z.minor (fields_of z)) heads.0 ∙ sym y.close in
    ((λ i. record { method = method i; target = target i; minor = minor i; close = close i; body = body i }), left)

-- two refusals are one, but for the open choice
refusal_unique : (bytes : List ℕ) (a b : Refusal) → Refuses bytes a → Refuses bytes b → (a ≡ b) ⊎ EndsInTarget (look bytes)
refusal_unique bytes a b (bad_head _ never) (bad_head _ never2) = inl refl
refusal_unique bytes a b (bad_head _ never) (long_head _ many none may) = inr (never_may (look bytes) never may)
refusal_unique bytes a b (bad_head _ never) (no_body _ h behind _ head told) = absurd (none_seen bytes h behind head (never_none (look bytes) never))
refusal_unique bytes a b (long_head _ many none may) (bad_head _ never) = inr (never_may (look bytes) never may)
refusal_unique bytes a b (long_head _ many none may) (long_head _ many2 none2 may2) = inl refl
refusal_unique bytes a b (long_head _ many none may) (no_body _ h behind _ head told) = absurd (none_seen bytes h behind head none)
refusal_unique bytes a b (no_body _ h behind _ head told) (bad_head _ never) = absurd (none_seen bytes h behind head (never_none (look bytes) never))
refusal_unique bytes a b (no_body _ h behind _ head told) (long_head _ many none may) = absurd (none_seen bytes h behind head none)
refusal_unique bytes a b (no_body _ h behind _ head told) (no_body _ k other _ head2 told2) =
    let heads = same_head bytes h k behind other head head2 in
    let same = same_length h k (Err a) (Err b) heads.0 told told2 in
    inl (cc same)

-- an unfinished request isn't refused, but for the open choice
unfinished_or_refused : (bytes : List ℕ) (a : Refusal) → IsUnfinished bytes → Refuses bytes a → EndsInTarget (look bytes)
unfinished_or_refused bytes a (in_head _ few none may) (bad_head _ never) =
    let all : bytes ≡ look bytes = sym (take_all head_bytes bytes (omega (arith, few))) in
    never_may (look bytes) never (subst MayBecomeRequest all may)
unfinished_or_refused bytes a (in_head _ few none may) (long_head _ many none2 may2) = absurd (omega (arith, few, many))
unfinished_or_refused bytes a (in_head _ few none may) (no_body _ h behind _ head told) = absurd (none h behind head.reads)
unfinished_or_refused bytes a (in_body _ h behind count head told short) (bad_head _ never) = absurd (none_seen bytes h behind head (never_none (look bytes) never))
unfinished_or_refused bytes a (in_body _ h behind count head told short) (long_head _ many none may) = absurd (none_seen bytes h behind head none)
unfinished_or_refused bytes a (in_body _ h behind count head told short) (no_body _ k other _ head2 told2) =
    let heads = same_head bytes h k behind other head head2 in
    let same = same_length h k (Ok count) (Err a) heads.0 told told2 in
    absurd (cc same)

-- a whole request isn't refused
pub whole_or_refused : (bytes rest : List ℕ) (m : Message) (a : Refusal) → BeginsMessage bytes m rest → Refuses bytes a → ⊥
whole_or_refused bytes rest m a x (bad_head _ never) = none_seen bytes x.h _ x.head (never_none (look bytes) never)
whole_or_refused bytes rest m a x (long_head _ many none may) = none_seen bytes x.h _ x.head none
whole_or_refused bytes rest m a x (no_body _ k other _ head told) =
    let heads = same_head bytes x.h k (m.body ++ rest) other x.head head in
    let same = same_length x.h k (Ok (length m.body)) (Err a) heads.0 x.length_is told in
    absurd (cc same)

-- a whole request isn't unfinished
whole_or_unfinished : (bytes rest : List ℕ) (m : Message) → BeginsMessage bytes m rest → IsUnfinished bytes → ⊥
whole_or_unfinished bytes rest m x (in_head _ few none may) = none x.h _ x.head.reads
whole_or_unfinished bytes rest m x (in_body _ k other count head told short) =
    let heads = same_head bytes x.h k (m.body ++ rest) other x.head head in
    let same : length m.body ≡ count = ok_same _ _ (same_length x.h k (Ok (length m.body)) (Ok count) heads.0 x.length_is told) in
    omega (arith, same, short, ap length heads.1, length-append m.body rest)

-- the shortest kind of head
small_head : RequestHead
small_head = record { blank = []; method = codes "G"; target = codes "/"; minor = 1; line_end = lf; fields = []; last = lf }

-- it is a head
small_is_head : IsRequestHead small_head
unfolding small_head httparse_on_literals lib.Utf8.encode
small_is_head = record {
  method = (omega arith, All-cons (λ b. IsTrue (is_token_byte b)) (code "G") [] refl (All-nil (λ b. IsTrue (is_token_byte b))));
  target = (omega arith, All-cons (λ b. IsTrue (is_uri_byte b)) (code "/") [] refl (All-nil (λ b. IsTrue (is_uri_byte b))));
  target_text = (codes "/", (refl, refl));
  minor = omega arith;
  fields = All-nil IsField;
}

-- no bytes yet may become a head
nothing_may : NeverHasRequest [] → ⊥
nothing_may never = never (print_request small_head ++ []) small_head [] (small_is_head, refl)

-- a head has a byte
head_has_bytes : (bytes : List ℕ) (h : RequestHead) (behind : List ℕ) → BeginsHead bytes h behind → bytes ≢ []
head_has_bytes bytes h behind head none =
    let long : 3 * length h.fields + 1 ≤ length (print_request h) = head_length h head.reads.0.fields in
    omega (arith, long, ap length none, ap length head.reads.1, length-append (print_request h) behind)

-- what is refused has a byte
pub refused_has_bytes : (bytes : List ℕ) (a : Refusal) → Refuses bytes a → bytes ≢ []
refused_has_bytes bytes a (bad_head _ never) none = nothing_may (subst (λ (z : List ℕ). NeverHasRequest (look z)) none never)
refused_has_bytes bytes a (long_head _ many without may) none = omega (arith, many, ap length none)
refused_has_bytes bytes a (no_body _ h behind _ head told) none = head_has_bytes bytes h behind head none

-- bytes that begin a request end no stream
pub whole_or_ends : (bytes rest : List ℕ) (m : Message) (e : Ending) → BeginsMessage bytes m rest → EndsAs bytes e → ⊥
whole_or_ends bytes rest m (refused refusal) x y = whole_or_refused bytes rest m refusal x y
whole_or_ends bytes rest m ended x y = head_has_bytes bytes x.h (m.body ++ rest) x.head y
whole_or_ends bytes rest m truncated x y = whole_or_unfinished bytes rest m x y.1

-- the bytes end a stream in one way, but for the open choice
pub ending_unique : (bytes : List ℕ) (e f : Ending) → EndsAs bytes e → EndsAs bytes f → (e ≡ f) ⊎ EndsInTarget (look bytes)
ending_unique bytes (refused a) (refused b) x y = elim (refusal_unique bytes a b x y) [ inl same ↦ inl (ap refused same) | inr target ↦ inr target ]
ending_unique bytes (refused a) ended x y = absurd (refused_has_bytes bytes a x y)
ending_unique bytes (refused a) truncated x y = inr (unfinished_or_refused bytes a y.1 x)
ending_unique bytes ended (refused b) x y = absurd (refused_has_bytes bytes b y x)
ending_unique bytes ended ended x y = inl refl
ending_unique bytes ended truncated x y = absurd (y.0 x)
ending_unique bytes truncated (refused b) x y = inr (unfinished_or_refused bytes b x.1 y)
ending_unique bytes truncated ended x y = absurd (x.0 y)
ending_unique bytes truncated truncated x y = inl refl

-- what is left behind these requests ends inside a target
abbrev pub EndsInTargetBehind : List ℕ → List Message → Type 0
EndsInTargetBehind bytes [] = EndsInTarget (look bytes)
EndsInTargetBehind bytes (m ∷ others) = (rest : List ℕ) × BeginsMessage bytes m rest × EndsInTargetBehind rest others

-- The requests of a stream are one list, and it ends in one way, but for the open choice.
pub requests_unique : (bytes : List ℕ) (ms ks : List Message) (e f : Ending) → RequestsOf bytes ms e → RequestsOf bytes ks f → (ms ≡ ks) × ((e ≡ f) ⊎ EndsInTargetBehind bytes ms)
requests_unique bytes _ _ e f (more _ rest m others _ x behind) (more _ other k others2 _ y behind2) =
    let first = message_unique bytes rest other m k x y in
    let again = requests_unique rest others others2 e f behind (subst (λ (z : List ℕ). RequestsOf z others2 f) (sym first.1) behind2) in (
      (λ i. first.0 i ∷ again.0 i),
      elim again.1 [ inl same ↦ inl same | inr target ↦ inr (rest, x, target) ],
    )
requests_unique bytes _ _ e f (more _ rest m others _ x behind) (stop _ _ y) = absurd (whole_or_ends bytes rest m f x y)
requests_unique bytes _ _ e f (stop _ _ x) (more _ rest k others _ y behind) = absurd (whole_or_ends bytes rest k e y x)
requests_unique bytes _ _ e f (stop _ _ x) (stop _ _ y) = (refl, ending_unique bytes e f x y)
