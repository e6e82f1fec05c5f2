-- What comes of whole requests.
use Rattle.std.proofs.Common.{◌≡◌, ℕ, List, [], ◌∷◌, Option, Ok, Err, refl, sym, ap, subst}
use Rattle.std.specs.Prelude.{Result}
use Rattle.std.specs.declared.alloc.AllocError.{AllocError}
use Rattle.http_wire.specs.declared.wire.Incoming.{Incoming}
use Rattle.http_wire.specs.declared.wire.Next.{Next}
use Rattle.http_wire.specs.declared.wire.Next.TheVariants as next
use Rattle.http_wire.specs.Messages.{Message}
use Rattle.http_wire.specs.Requests.{ended, truncated, RequestsOf, more, stop}
use Rattle.http_wire.specs.Incoming.{incoming_of, refused_as, Comes}
use Rattle.http_wire.specs.Incoming as i
use Rattle.http_wire.specs.Wired.{NextStream, NextWhole}
use Rattle.http_wire.proofs.Unique.{message_unique, whole_or_refused, whole_or_ends, refused_has_bytes, requests_unique}

-- the first of whole requests, as what was read
abbrev First : List Message → Incoming → List ℕ → Type 0
First requests incoming rest = (m : Message) × (others : List Message) × (requests ≡ m ∷ others) × (incoming ≡ incoming_of m) × RequestsOf rest others ended

-- what comes first of whole requests is the first of them
first_whole : (bytes rest : List ℕ) (incoming : Incoming) (requests : List Message) → Comes bytes incoming rest → RequestsOf bytes requests ended → First requests incoming rest
first_whole bytes rest _ _ (i.request _ _ m x) (more _ other k others _ y behind) =
    let same = message_unique bytes rest other m k x y in
    (k, others, refl, ap incoming_of same.0, subst (λ (z : List ℕ). RequestsOf z others ended) (sym same.1) behind)
first_whole bytes rest _ _ (i.request _ _ m x) (stop _ _ y) = absurd (whole_or_ends bytes rest m ended x y)
first_whole bytes _ _ _ (i.refusal _ r x) (more _ other k others _ y behind) = absurd (whole_or_refused bytes other k r y x)
first_whole bytes _ _ _ (i.refusal _ r x) (stop _ _ y) = absurd (refused_has_bytes bytes r x y)

-- an end where whole requests begin is one where there is none
none_whole : (bytes : List ℕ) (requests : List Message) → RequestsOf bytes [] ended → RequestsOf bytes requests ended → requests ≡ []
none_whole bytes requests x y = sym (requests_unique bytes [] requests ended ended x y).0

-- whole requests aren't cut off
not_cut : (bytes : List ℕ) (requests : List Message) → RequestsOf bytes [] truncated → RequestsOf bytes requests ended → ⊥
not_cut bytes _ (stop _ _ x) (more _ rest m others _ y behind) = whole_or_ends bytes rest m truncated y x
not_cut bytes _ (stop _ _ x) (stop _ _ y) = x.0 y

-- what the answer says of the bytes ahead, where they are whole requests
pub whole_of : (result : Result Next AllocError) (ahead ahead' : Option (List ℕ)) → NextStream result ahead ahead' → NextWhole result ahead ahead'
whole_of (Ok (next.Request incoming)) ahead ahead' says = λ bytes requests told whole.
    let comes = says bytes told in
    let first = first_whole bytes comes.0 incoming requests comes.2 whole in
    (first.0, first.1, comes.0, first.2, first.3, comes.1, first.4)
whole_of (Ok next.End) ahead ahead' says = λ bytes requests told whole. none_whole bytes requests (says bytes told) whole
whole_of (Ok next.Truncated) ahead ahead' says = λ bytes requests told whole. not_cut bytes requests (says bytes told) whole
whole_of (Ok next.Failed) ahead ahead' says = tt
whole_of (Err e) ahead ahead' says = tt
