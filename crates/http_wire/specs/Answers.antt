-- What the reader answers of the bytes ahead: those that it holds, and then what is left of the source.
use Rattle.std.specs.Prelude.{◌≡◌, ℕ, ◌<◌, ◌≤◌, List, [], ◌∷◌, ◌++◌, length, Option, Some, Result, Ok, Err, ⊤}
use Rattle.std.specs.declared.alloc.AllocError.{AllocError}
use Rattle.byte_ports.specs.Streams.{before, Rose}
use Rattle.byte_ports.specs.declared.source.Took.{Took}
use Rattle.byte_ports.specs.declared.source.Took.TheVariants as took
use Rattle.http_wire.specs.Bounds.{read_bytes}
use Rattle.http_wire.specs.declared.request.Framed.{Framed}
use Rattle.http_wire.specs.declared.request.Framed.TheVariants as framed
use Rattle.http_wire.specs.declared.request.Request.{Request}
use Rattle.http_wire.specs.Messages.{Message, message_of, IsMessage}
use Rattle.http_wire.specs.Outcomes.{IsUnfinished}
use Rattle.http_wire.specs.Requests.{Ending, refused, ended, truncated, EndsAs, RequestsOf}

-- What the answer says of the bytes ahead before and then, and of those that are held then.
abbrev pub FrameSays : Result Framed AllocError → (ahead ahead' : Option (List ℕ)) → (held' : List ℕ) → Type 0
FrameSays (Ok (framed.Request r)) ahead ahead' held' = (front : List ℕ) × IsMessage front (message_of r) × (ahead ≡ before front ahead')
FrameSays (Ok (framed.Refused refusal)) ahead ahead' held' = (ahead' ≡ ahead) × EndsAs held' (refused refusal)
FrameSays (Ok framed.End) ahead ahead' held' = (ahead' ≡ ahead) × EndsAs held' ended
FrameSays (Ok framed.Truncated) ahead ahead' held' = (ahead' ≡ ahead) × EndsAs held' truncated
FrameSays (Ok framed.Failed) ahead ahead' held' = (ahead' ≡ ahead) × IsUnfinished held'
FrameSays (Err e) ahead ahead' held' = ⊤

-- What the answer says of the requests of the bytes ahead, where they are told: it is the first of them, or there is
-- none and they end so.
abbrev pub FrameStream : Result Framed AllocError → (ahead ahead' : Option (List ℕ)) → Type 0
FrameStream (Ok (framed.Request r)) ahead ahead' = (bytes rest : List ℕ) → ahead ≡ Some bytes → ahead' ≡ Some rest → (others : List Message) (ending : Ending) → RequestsOf rest others ending → RequestsOf bytes (message_of r ∷ others) ending
FrameStream (Ok (framed.Refused refusal)) ahead ahead' = (bytes : List ℕ) → ahead ≡ Some bytes → RequestsOf bytes [] (refused refusal)
FrameStream (Ok framed.End) ahead ahead' = (bytes : List ℕ) → ahead ≡ Some bytes → RequestsOf bytes [] ended
FrameStream (Ok framed.Truncated) ahead ahead' = (bytes : List ℕ) → ahead ≡ Some bytes → RequestsOf bytes [] truncated
FrameStream (Ok framed.Failed) ahead ahead' = ahead' ≡ ahead
FrameStream (Err e) ahead ahead' = ⊤

-- A read failed only where the source's count rose.
abbrev pub FrameCause : Result Framed AllocError → ℕ → ℕ → Type 0
FrameCause (Ok framed.Failed) old new = Rose old new
FrameCause (Ok (framed.Request r)) old new = new ≡ old
FrameCause (Ok (framed.Refused refusal)) old new = new ≡ old
FrameCause (Ok framed.End) old new = new ≡ old
FrameCause (Ok framed.Truncated) old new = new ≡ old
FrameCause (Err e) old new = new ≡ old

-- the request was taken from the front of what was held
abbrev pub TakenFrom : List ℕ → List ℕ → Request → Type 0
TakenFrom held held' r = (front : List ℕ) × IsMessage front (message_of r) × (held ≡ front ++ held')

-- what a read says of the bytes held before and then
abbrev pub ReadHolds : Result Took AllocError → List ℕ → List ℕ → Type 0
ReadHolds (Ok (took.Got count)) held held' = (came : List ℕ) × (held' ≡ held ++ came) × (count ≡ length came) × (0 < length came) × (length came ≤ read_bytes)
ReadHolds (Ok took.End) held held' = held' ≡ held
ReadHolds (Ok took.Failed) held held' = held' ≡ held
ReadHolds (Err e) held held' = ⊤

-- what the one read did
abbrev pub ReadOnce : {S : Type 0} → (once : S → Took → S → Type 0) → Result Took AllocError → (source source' : S) → Type 0
ReadOnce once (Ok took) source source' = once source took source'
ReadOnce once (Err e) source source' = (took : Took) × once source took source'

-- what a read says of what is left: nothing, at the end of the source
abbrev pub ReadEnds : Result Took AllocError → Option (List ℕ) → Type 0
ReadEnds (Ok (took.Got count)) left = ⊤
ReadEnds (Ok took.End) left = (bytes : List ℕ) → left ≡ Some bytes → bytes ≡ []
ReadEnds (Ok took.Failed) left = ⊤
ReadEnds (Err e) left = ⊤

-- a read failed only where the source's count rose
abbrev pub ReadCause : Result Took AllocError → ℕ → ℕ → Type 0
ReadCause (Ok (took.Got count)) old new = new ≡ old
ReadCause (Ok took.End) old new = new ≡ old
ReadCause (Ok took.Failed) old new = Rose old new
ReadCause (Err e) old new = new ≡ old

-- this, unless memory was refused
abbrev pub OnRead : Result Took AllocError → Type 0 → Type 0
OnRead (Ok took) P = P
OnRead (Err e) P = ⊤
