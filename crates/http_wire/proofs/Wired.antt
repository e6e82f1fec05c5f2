-- From what is framed to what is asked.
use Rattle.std.proofs.Common.{◌≡◌, ℕ, List, [], ◌++◌, Option, Some, Ok, sym, subst, ◌∙◌}
use Rattle.byte_ports.specs.Streams.{before}
use Rattle.wire_asks.specs.declared.asked.Refusal.{Refusal}
use Rattle.http_wire.specs.declared.request.Request.{Request}
use Rattle.http_wire.specs.declared.request.Framed.TheVariants as framed
use Rattle.http_wire.specs.declared.wire.Incoming.{Incoming}
use Rattle.http_wire.specs.declared.wire.Next.TheVariants as next
use Rattle.http_wire.specs.Messages.{message_of, BeginsMessage}
use Rattle.http_wire.specs.Outcomes.{Refuses}
use Rattle.http_wire.specs.Answers.{FrameSays}
use Rattle.http_wire.specs.Incoming.{incoming_of, refused_as, Comes}
use Rattle.http_wire.specs.Incoming as i
use Rattle.http_wire.specs.Wired.{NextStream}
use Rattle.http_wire.proofs.Ahead.{before_some, message_more, refuses_more}

-- what is told behind a front is told
behind_front : (front : List ℕ) (ahead ahead' : Option (List ℕ)) (bytes : List ℕ) → ahead ≡ before front ahead' → ahead ≡ Some bytes → (rest : List ℕ) × (ahead' ≡ Some rest) × (bytes ≡ front ++ rest)
behind_front front ahead ahead' bytes split told = before_some front ahead' bytes (sym split ∙ told)

-- a request that was framed comes first
pub request_comes : (r : Request) (incoming : Incoming) (ahead ahead' : Option (List ℕ)) (held' : List ℕ) → FrameSays (Ok (framed.Request r)) ahead ahead' held' → incoming ≡ incoming_of (message_of r)
    → NextStream (Ok (next.Request incoming)) ahead ahead'
request_comes r incoming ahead ahead' held' says is = λ bytes told.
    let q = behind_front says.0 ahead ahead' bytes says.2 told in
    let first : BeginsMessage (says.0 ++ q.0) (message_of r) q.0 = message_more says.0 q.0 [] (message_of r) says.1 in
    (q.0, q.1, subst (λ (x : Incoming). Comes bytes x q.0) (sym is) (subst (λ (z : List ℕ). Comes z (incoming_of (message_of r)) q.0) (sym q.2) (i.request (says.0 ++ q.0) q.0 (message_of r) first)))

-- a refusal of what is held is one of all that is ahead
pub refusal_comes : (r : Refusal) (held' : List ℕ) (left ahead : Option (List ℕ)) → before held' left ≡ ahead → Refuses held' r → NextStream (Ok (next.Request (refused_as r))) ahead (before held' left)
refusal_comes r held' left ahead same shown = λ bytes told.
    let q = before_some held' left bytes (same ∙ told) in
    let all : Refuses bytes r = subst (λ (z : List ℕ). Refuses z r) (sym q.2) (refuses_more held' q.0 r shown) in
    (bytes, same ∙ told, i.refusal bytes r all)
