-- What a fetch answered.
use Rattle.std.specs.Prelude.{ℕ, List, Result, Ok, Err, ⊤}
use Rattle.std.specs.declared.alloc.AllocError.{AllocError}
use Rattle.byte_ports.specs.declared.shelf.Fetched.{Fetched}
use Rattle.byte_ports.specs.declared.shelf.Fetched.TheVariants.{Bytes, Failed}

abbrev pub IfBytes : Result Fetched AllocError → (List ℕ → Type 0) → Type 0
IfBytes (Ok (Bytes bytes)) P = P bytes.items
IfBytes (Ok Failed) P = ⊤
IfBytes (Err e) P = ⊤

abbrev pub OnFetchFailed : Result Fetched AllocError → Type 0 → Type 0
OnFetchFailed (Ok (Bytes bytes)) P = ⊤
OnFetchFailed (Ok Failed) P = P
OnFetchFailed (Err e) P = ⊤

abbrev pub OnFetchNotFailed : Result Fetched AllocError → Type 0 → Type 0
OnFetchNotFailed (Ok (Bytes bytes)) P = P
OnFetchNotFailed (Ok Failed) P = ⊤
OnFetchNotFailed (Err e) P = P
