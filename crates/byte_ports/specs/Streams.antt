-- What the outside tells, and its counts of faults (this project's own).
use Rattle.std.specs.Prelude.{ℕ, ◌<◌, ◌≤◌, List, ◌++◌, Option, Some, None, Result, Ok, Err, ⊤}
use Rattle.std.specs.declared.alloc.AllocError.{AllocError}
use Rattle.byte_ports.specs.declared.source.Took.{Took}
use Rattle.byte_ports.specs.declared.source.Took.TheVariants.{Got, End, Failed}
use Rattle.byte_ports.specs.declared.sink.Gave.{Gave}
use Rattle.byte_ports.specs.declared.sink.Gave.TheVariants as gave
use Rattle.byte_ports.specs.declared.sink.Wrote.{Wrote}
use Rattle.byte_ports.specs.declared.sink.Wrote.TheVariants as wrote

-- these bytes, and then what is told
abbrev pub before : List ℕ → Option (List ℕ) → Option (List ℕ)
before bytes None = None
before bytes (Some rest) = Some (bytes ++ rest)

-- what is told, and then these bytes
abbrev pub after : Option (List ℕ) → List ℕ → Option (List ℕ)
after None bytes = None
after (Some front) bytes = Some (front ++ bytes)

-- a count of faults, which never falls, rose, or stands at the last value of its counter
pub record Rose (old new : ℕ) : Type 0 where
  pub falls_not : old ≤ new
  pub rose : old < 18446744073709551615 → old < new

-- ---- what a read answered

abbrev pub IfGot : Took → (ℕ → Type 0) → Type 0
IfGot (Got count) P = P count
IfGot End P = ⊤
IfGot Failed P = ⊤

abbrev pub OnEnd : Took → Type 0 → Type 0
OnEnd (Got count) P = ⊤
OnEnd End P = P
OnEnd Failed P = ⊤

abbrev pub OnFailed : Took → Type 0 → Type 0
OnFailed (Got count) P = ⊤
OnFailed End P = ⊤
OnFailed Failed P = P

abbrev pub OnNotFailed : Took → Type 0 → Type 0
OnNotFailed (Got count) P = P
OnNotFailed End P = P
OnNotFailed Failed P = ⊤

-- ---- what a write answered

abbrev pub IfTook : Result Gave AllocError → (ℕ → Type 0) → Type 0
IfTook (Ok (gave.Took count)) P = P count
IfTook (Ok gave.Failed) P = ⊤
IfTook (Err e) P = ⊤

abbrev pub OnNotTook : Result Gave AllocError → Type 0 → Type 0
OnNotTook (Ok (gave.Took count)) P = ⊤
OnNotTook (Ok gave.Failed) P = P
OnNotTook (Err e) P = P

abbrev pub OnWriteFailed : Result Gave AllocError → Type 0 → Type 0
OnWriteFailed (Ok (gave.Took count)) P = ⊤
OnWriteFailed (Ok gave.Failed) P = P
OnWriteFailed (Err e) P = ⊤

abbrev pub OnWriteNotFailed : Result Gave AllocError → Type 0 → Type 0
OnWriteNotFailed (Ok (gave.Took count)) P = P
OnWriteNotFailed (Ok gave.Failed) P = ⊤
OnWriteNotFailed (Err e) P = P

-- ---- what a whole write answered

abbrev pub OnAll : Result Wrote AllocError → Type 0 → Type 0
OnAll (Ok wrote.All) P = P
OnAll (Ok wrote.Failed) P = ⊤
OnAll (Err e) P = ⊤

abbrev pub OnCutOff : Result Wrote AllocError → Type 0 → Type 0
OnCutOff (Ok wrote.All) P = ⊤
OnCutOff (Ok wrote.Failed) P = P
OnCutOff (Err e) P = ⊤

abbrev pub OnNotCutOff : Result Wrote AllocError → Type 0 → Type 0
OnNotCutOff (Ok wrote.All) P = P
OnNotCutOff (Ok wrote.Failed) P = ⊤
OnNotCutOff (Err e) P = P
