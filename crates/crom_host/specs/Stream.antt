-- One stream, from its bytes to what was written.
use Rattle.std.specs.Prelude.{◌≡◌, ◌<◌, ◌⊎◌, ℕ, ◌+◌, List, ◌++◌, take, Option, Some, Result, Ok, Err, ⊤}
use Rattle.std.specs.declared.alloc.AllocError.{AllocError}
use Rattle.byte_ports.specs.Streams.{before, Rose}
use Rattle.page_units.specs.declared.limits.Limit.TheVariants as Limit
use Rattle.http_wire.specs.declared.wire.Incoming.{Incoming}
use Rattle.http_wire.specs.Incoming.{Comes}
use Rattle.http_wire.specs.Outcomes.{IsUnfinished}
use Rattle.crom_host.specs.declared.stream.Ended.{Ended}
use Rattle.crom_host.specs.declared.stream.Ended.TheVariants.{End, Closed, Halted, Truncated, ReadFault, WriteFault, RequestBound}
use Rattle.crom_host.specs.Replying.{Reply, bytes_of}
use Rattle.crom_host.specs.Plain.{Settings, PlainHost, Answers, Answered, Sent, bytes_sent, PlainRun, Ending, at_end, closed, halted_so, cut_off, at_bound, paused}

-- the stream was served to an ending of the plain host, and all its replies were written
abbrev pub RunsTo : Ending → Settings → (h h' : PlainHost) → (served served' : ℕ) → (bytes : List ℕ) → (gets posts : Answers) → (written : List ℕ) → Type 0
RunsTo e s h h' served served' bytes gets posts written = (sent : List Sent) × PlainRun s h served bytes gets posts sent h' served' e × (written ≡ bytes_sent sent)

-- A read failed: the requests that were read whole are answered, and the bytes after them, those that were kept and
-- those that are left, begin with an unfinished one.
pub record StopsReading (s : Settings) (h h' : PlainHost) (served served' : ℕ) (bytes : List ℕ) (gets posts : Answers) (written : List ℕ) (left : Option (List ℕ)) : Type 0 where
  pub rest : List ℕ
  pub prefix : RunsTo (paused rest) s h h' served served' bytes gets posts written
  pub kept : List ℕ
  pub unfinished : IsUnfinished kept
  pub split : Some rest ≡ before kept left

-- A write failed: after those before it, the reply to one request more was written in part, or memory was refused before
-- it was.
pub record StopsWriting (s : Settings) (h h' : PlainHost) (served served' : ℕ) (bytes : List ℕ) (gets posts : Answers) (written : List ℕ) : Type 0 where
  pub mid : PlainHost
  pub count : ℕ
  pub whole : List ℕ
  pub rest : List ℕ
  pub behind : List ℕ
  pub g : Answers
  pub p : Answers
  pub gs : Answers
  pub ps : Answers
  pub prefix : RunsTo (paused rest) s h mid served count bytes g p whole
  pub incoming : Incoming
  pub comes : Comes rest incoming behind
  pub reply : Reply
  pub answered : Answered s mid incoming.asked gs ps reply h'
  pub fits : count < s.limits Limit.Served
  pub counted : served' ≡ count + 1
  pub used_gets : gets ≡ g ++ gs
  pub used_posts : posts ≡ p ++ ps
  pub part : ℕ
  pub gained : written ≡ whole ++ take part (bytes_of reply incoming.close)

-- Memory was refused: what was written are the replies to the first requests, or those and a part of one reply more.
abbrev pub GivesUp : Settings → PlainHost → (served : ℕ) → (bytes : List ℕ) → (gets posts : Answers) → (written : List ℕ) → Type 0
GivesUp s h served bytes gets posts written =
    ((mid : PlainHost) × (count : ℕ) × (rest : List ℕ) × RunsTo (paused rest) s h mid served count bytes gets posts written)
    ⊎ ((last : PlainHost) × (count : ℕ) × StopsWriting s h last served count bytes gets posts written)

-- A stream from its bytes to what was written, by its end.
abbrev pub Streamed : Result Ended AllocError → Settings → (h h' : PlainHost) → (served served' : ℕ) → (bytes : List ℕ) → (gets posts : Answers) → (written : List ℕ) → (left : Option (List ℕ)) → Type 0
Streamed (Ok End) s h h' served served' bytes gets posts written left = RunsTo at_end s h h' served served' bytes gets posts written
Streamed (Ok Closed) s h h' served served' bytes gets posts written left = RunsTo closed s h h' served served' bytes gets posts written
Streamed (Ok Halted) s h h' served served' bytes gets posts written left = RunsTo halted_so s h h' served served' bytes gets posts written
Streamed (Ok Truncated) s h h' served served' bytes gets posts written left = RunsTo cut_off s h h' served served' bytes gets posts written
Streamed (Ok RequestBound) s h h' served served' bytes gets posts written left = RunsTo at_bound s h h' served served' bytes gets posts written
Streamed (Ok ReadFault) s h h' served served' bytes gets posts written left = StopsReading s h h' served served' bytes gets posts written left
Streamed (Ok WriteFault) s h h' served served' bytes gets posts written left = StopsWriting s h h' served served' bytes gets posts written
Streamed (Err e) s h h' served served' bytes gets posts written left = GivesUp s h served bytes gets posts written

-- Each fault comes only where its count rose, and an end without a fault only where none did.
abbrev pub StreamCauses : Result Ended AllocError → (source source' sink sink' : ℕ) → Type 0
StreamCauses (Ok ReadFault) source source' sink sink' = Rose source source' × (sink' ≡ sink)
StreamCauses (Ok WriteFault) source source' sink sink' = (source' ≡ source) × Rose sink sink'
StreamCauses (Ok End) source source' sink sink' = (source' ≡ source) × (sink' ≡ sink)
StreamCauses (Ok Closed) source source' sink sink' = (source' ≡ source) × (sink' ≡ sink)
StreamCauses (Ok Halted) source source' sink sink' = (source' ≡ source) × (sink' ≡ sink)
StreamCauses (Ok Truncated) source source' sink sink' = (source' ≡ source) × (sink' ≡ sink)
StreamCauses (Ok RequestBound) source source' sink sink' = (source' ≡ source) × (sink' ≡ sink)
StreamCauses (Err e) source source' sink sink' = (source' ≡ source) × (sink' ≡ sink)

-- not cut off, and not at the bound
abbrev pub IsWholeEnd : Result Ended AllocError → Type 0
IsWholeEnd (Ok Truncated) = ⊥
IsWholeEnd (Ok RequestBound) = ⊥
IsWholeEnd _ = ⊤
