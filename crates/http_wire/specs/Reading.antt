-- How the reader reads: one read after another, and none where what is kept shows the answer (this project's own).
use Rattle.std.specs.Prelude.{◌≡◌, ℕ, ◌<◌, ◌≤◌, ◌⊎◌, List, ◌++◌, length, Result, Ok, Err}
use Rattle.std.specs.declared.alloc.AllocError.{AllocError}
use Rattle.byte_ports.specs.declared.source.Took.{Took}
use Rattle.byte_ports.specs.declared.source.Took.TheVariants as took
use Rattle.http_wire.specs.Bounds.{read_bytes}
use Rattle.http_wire.specs.declared.request.Framed.{Framed}
use Rattle.http_wire.specs.declared.request.Framed.TheVariants as framed
use Rattle.http_wire.specs.Messages.{message_of, IsMessage}
use Rattle.http_wire.specs.Outcomes.{IsUnfinished}

-- Reads of a source one after another, each made while what is kept is an unfinished request: from what was held and
-- the source before the first read to what is kept and the source after the last. A read gives 1 to 4,096 bytes.
pub data ReadsOn {S : Type 0} (once : S → Took → S → Type 0) (held : List ℕ) (source : S) : List ℕ → S → Type 0 where
  none : ReadsOn once held source held source
  more : (kept came : List ℕ) (mid new : S) → ReadsOn once held source kept mid → IsUnfinished kept → once mid (took.Got (length came)) new → 0 < length came → length came ≤ read_bytes → ReadsOn once held source (kept ++ came) new

-- reads, and then one that answers so and gives no bytes
abbrev pub ReadsTo : {S : Type 0} → (once : S → Took → S → Type 0) (took : Took) (held : List ℕ) (source : S) (held' : List ℕ) (source' : S) → Type 0
ReadsTo {S} once took held source held' source' = (mid : S) × ReadsOn once held source held' mid × IsUnfinished held' × once mid took source'

-- The reads before an answer: what is kept behind them are the request's own bytes, and those that are held behind it.
abbrev pub FrameReads : {S : Type 0} → (once : S → Took → S → Type 0) → Result Framed AllocError → (held : List ℕ) (source : S) (held' : List ℕ) (source' : S) → Type 0
FrameReads once (Ok (framed.Request r)) held source held' source' = (front : List ℕ) × IsMessage front (message_of r) × ReadsOn once held source (front ++ held') source'
FrameReads once (Ok (framed.Refused refusal)) held source held' source' = ReadsOn once held source held' source'
FrameReads once (Ok framed.End) held source held' source' = ReadsTo once took.End held source held' source'
FrameReads once (Ok framed.Truncated) held source held' source' = ReadsTo once took.End held source held' source'
FrameReads once (Ok framed.Failed) held source held' source' = ReadsTo once took.Failed held source held' source'
-- memory was refused, maybe for the bytes of a last read
FrameReads {S} once (Err e) held source held' source' = (kept : List ℕ) × (mid : S) × ReadsOn once held source kept mid × ((source' ≡ mid) ⊎ (IsUnfinished kept × (took : Took) × once mid took source'))
