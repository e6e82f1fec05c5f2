-- What the reader of requests answers of the bytes ahead: those that it holds, and then what is left of the source.
use Rattle.std.specs.Prelude.{◌≡◌, ◌⊎◌, ℕ, List, [], ◌∷◌, ◌++◌, Option, Some, Result, Ok, Err, ⊤}
use Rattle.std.specs.declared.alloc.AllocError.{AllocError}
use Rattle.byte_ports.specs.Streams.{before, Rose}
use Rattle.byte_ports.specs.declared.source.Took.{Took}
use Rattle.byte_ports.specs.declared.source.Took.TheVariants as took
use Rattle.wire_asks.specs.declared.asked.Refusal.{Refusal}
use Rattle.http_wire.specs.declared.wire.Incoming.{Incoming}
use Rattle.http_wire.specs.declared.wire.Next.{Next}
use Rattle.http_wire.specs.declared.wire.Next.TheVariants as next
use Rattle.http_wire.specs.Messages.{Message, IsMessage}
use Rattle.http_wire.specs.Outcomes.{Refuses, IsUnfinished}
use Rattle.http_wire.specs.Requests.{ended, truncated, EndsAs, RequestsOf}
use Rattle.http_wire.specs.Incoming.{incoming_of, refused_as, Comes}
use Rattle.http_wire.specs.Reading.{ReadsOn, ReadsTo}

-- a whole request was taken from the front of what is ahead, and this is what it asks
abbrev pub IsTaken : Incoming → (ahead ahead' : Option (List ℕ)) → Type 0
IsTaken incoming ahead ahead' = (front : List ℕ) × (m : Message) × IsMessage front m × (incoming ≡ incoming_of m) × (ahead ≡ before front ahead')

-- what is held is refused, and stays
abbrev pub IsRefused : Incoming → (ahead ahead' : Option (List ℕ)) → (held' : List ℕ) → Type 0
IsRefused incoming ahead ahead' held' = (r : Refusal) × Refuses held' r × (incoming ≡ refused_as r) × (ahead' ≡ ahead)

-- What the answer says of the bytes ahead before and then, and of those that are held then.
abbrev pub NextSays : Result Next AllocError → (ahead ahead' : Option (List ℕ)) → (held' : List ℕ) → Type 0
NextSays (Ok (next.Request incoming)) ahead ahead' held' = IsTaken incoming ahead ahead' ⊎ IsRefused incoming ahead ahead' held'
NextSays (Ok next.End) ahead ahead' held' = (ahead' ≡ ahead) × EndsAs held' ended
NextSays (Ok next.Truncated) ahead ahead' held' = (ahead' ≡ ahead) × EndsAs held' truncated
NextSays (Ok next.Failed) ahead ahead' held' = (ahead' ≡ ahead) × IsUnfinished held'
NextSays (Err e) ahead ahead' held' = ⊤

-- What the answer says of the bytes ahead, where they are told: what comes first of them, or how they end.
abbrev pub NextStream : Result Next AllocError → (ahead ahead' : Option (List ℕ)) → Type 0
NextStream (Ok (next.Request incoming)) ahead ahead' = (bytes : List ℕ) → ahead ≡ Some bytes → (rest : List ℕ) × (ahead' ≡ Some rest) × Comes bytes incoming rest
NextStream (Ok next.End) ahead ahead' = (bytes : List ℕ) → ahead ≡ Some bytes → RequestsOf bytes [] ended
NextStream (Ok next.Truncated) ahead ahead' = (bytes : List ℕ) → ahead ≡ Some bytes → RequestsOf bytes [] truncated
NextStream (Ok next.Failed) ahead ahead' = ahead' ≡ ahead
NextStream (Err e) ahead ahead' = ⊤

-- Where the bytes ahead are whole requests, the answer is the first of them, or an end where there is none.
abbrev pub NextWhole : Result Next AllocError → (ahead ahead' : Option (List ℕ)) → Type 0
NextWhole (Ok (next.Request incoming)) ahead ahead' = (bytes : List ℕ) (requests : List Message) → ahead ≡ Some bytes → RequestsOf bytes requests ended
    → (m : Message) × (others : List Message) × (rest : List ℕ) × (requests ≡ m ∷ others) × (incoming ≡ incoming_of m) × (ahead' ≡ Some rest) × RequestsOf rest others ended
NextWhole (Ok next.End) ahead ahead' = (bytes : List ℕ) (requests : List Message) → ahead ≡ Some bytes → RequestsOf bytes requests ended → requests ≡ []
NextWhole (Ok next.Truncated) ahead ahead' = (bytes : List ℕ) (requests : List Message) → ahead ≡ Some bytes → RequestsOf bytes requests ended → ⊥
NextWhole (Ok next.Failed) ahead ahead' = ⊤
NextWhole (Err e) ahead ahead' = ⊤

-- A read failed only where the source's count rose.
abbrev pub NextCause : Result Next AllocError → ℕ → ℕ → Type 0
NextCause (Ok next.Failed) old new = Rose old new
NextCause (Ok (next.Request incoming)) old new = new ≡ old
NextCause (Ok next.End) old new = new ≡ old
NextCause (Ok next.Truncated) old new = new ≡ old
NextCause (Err e) old new = new ≡ old

-- The reads before an answer: what is kept behind them are the request's own bytes, and those that are held behind it, or
-- what is refused.
abbrev pub NextReads : {S : Type 0} → (once : S → Took → S → Type 0) → Result Next AllocError → (held : List ℕ) (source : S) (held' : List ℕ) (source' : S) → Type 0
NextReads once (Ok (next.Request incoming)) held source held' source' =
    ((front : List ℕ) × (m : Message) × IsMessage front m × (incoming ≡ incoming_of m) × ReadsOn once held source (front ++ held') source')
    ⊎ ((r : Refusal) × (incoming ≡ refused_as r) × ReadsOn once held source held' source')
NextReads once (Ok next.End) held source held' source' = ReadsTo once took.End held source held' source'
NextReads once (Ok next.Truncated) held source held' source' = ReadsTo once took.End held source held' source'
NextReads once (Ok next.Failed) held source held' source' = ReadsTo once took.Failed held source held' source'
-- memory was refused, maybe for the bytes of a last read
NextReads {S} once (Err e) held source held' source' = (kept : List ℕ) × (mid : S) × ReadsOn once held source kept mid × ((source' ≡ mid) ⊎ (IsUnfinished kept × (took : Took) × once mid took source'))
