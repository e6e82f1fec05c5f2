-- What `run` says of a page that is served, and of faults.
use Rattle.std.specs.Prelude.{◌≡◌, ◌⊎◌, ◌≤◌, ℕ, List, [], ◌++◌, length, take, Bool, true, false, Option, Some, None, Result, Ok, Err, ⊤}
use Rattle.std.specs.declared.alloc.AllocError.{AllocError}
use Rattle.byte_ports.specs.declared.shelf.TheConstants.{FETCHED_BYTES}
use Rattle.byte_ports.specs.Streams.{Rose}
use Rattle.page_units.specs.declared.limits.Limit.TheVariants.{Served as ServedLimit}
use Rattle.page_units.specs.Limits.{default_limit}
use Rattle.cell_places.specs.Heap.{Heap}
use Rattle.http_wire.specs.Messages.{Message}
use Rattle.http_wire.specs.Requests.{RequestsOf, ended}
use Rattle.page_reader.specs.declared.fault.PageFault.TheVariants as fault
use Rattle.page_reader.specs.Page.{IsPageFault}
use Rattle.page_loading.specs.declared.fault.LoadFault.{LoadFault}
use Rattle.page_loading.specs.Loading.{IsScriptFault, ShowsFault}
use Rattle.crom_host.specs.declared.stream.Ended as stream
use Rattle.crom_host.specs.declared.stream.Ended.TheVariants as end
use Rattle.crom_host.specs.Plain.{default_settings, PlainHost, hosted, Loads}
use Rattle.crom_host.specs.Loading.{IsScripted}
use Rattle.crom_host.specs.Stream.{Streamed}
use Rattle.crom_commands.specs.declared.status.Status.{Status}
use Rattle.crom_commands.specs.declared.status.Status.TheVariants.{Ended, Usage, Page, Script, NotBuilt, ReadFault, WriteFault, NoMemory, ShelfFault, Truncated, RequestBound}
use Rattle.crom_commands.specs.Faults as faults

-- the status of a run whose stream ended so
abbrev pub status_of : Result stream.Ended AllocError → Status
status_of (Ok end.End) = Ended
status_of (Ok end.Closed) = Ended
status_of (Ok end.Halted) = Ended
status_of (Ok end.Truncated) = Truncated
status_of (Ok end.RequestBound) = RequestBound
status_of (Ok end.ReadFault) = ReadFault
status_of (Ok end.WriteFault) = WriteFault
status_of (Err e) = NoMemory

-- the page was loaded, and its host served the stream
pub record Served (result : Result stream.Ended AllocError) (page bytes written : List ℕ) (left : Option (List ℕ)) : Type 0 where
  pub start : Heap
  pub last : PlainHost
  pub count : ℕ
  pub loads : Loads default_settings page start
  pub stream : Streamed result default_settings (hosted start) last 0 count bytes [] [] written left

-- What was written for the page and the bytes of the input, by the status; `left` is what is left of the input.
abbrev pub Headline : Status → (page bytes written : List ℕ) → (left : Option (List ℕ)) → Type 0
Headline Usage page bytes written left = ⊥
Headline ShelfFault page bytes written left = written ≡ []
Headline (Page (fault.Rule number at)) page bytes written left = IsPageFault page number at × (written ≡ [])
Headline (Page fault.NoMemory) page bytes written left = ⊥
Headline (Script index fault) page bytes written left = IsScriptFault page index fault × (written ≡ [])
Headline NotBuilt page bytes written left = IsScripted page × (written ≡ [])
Headline NoMemory page bytes written left = (written ≡ []) ⊎ ((e : AllocError) × Served (Err e) page bytes written left)
Headline Ended page bytes written left =
    Served (Ok end.End) page bytes written left ⊎ Served (Ok end.Closed) page bytes written left ⊎ Served (Ok end.Halted) page bytes written left
Headline Truncated page bytes written left = Served (Ok end.Truncated) page bytes written left
Headline RequestBound page bytes written left = Served (Ok end.RequestBound) page bytes written left
Headline ReadFault page bytes written left = Served (Ok end.ReadFault) page bytes written left
Headline WriteFault page bytes written left = Served (Ok end.WriteFault) page bytes written left

-- the statuses that serving a page ends with
abbrev pub EndsStdio : Status → Type 0
EndsStdio Usage = ⊥
EndsStdio (Page fault.NoMemory) = ⊥
EndsStdio _ = ⊤

-- the run ended with this fault of the page or of a script, or before the page was read
abbrev pub IsRefused : Status → LoadFault → Type 0
IsRefused status fault = (status ≡ faults.status_of fault) ⊎ (status ≡ ShelfFault) ⊎ (status ≡ NoMemory)

-- the devices of a run, each of which counts its faults
pub data Device : Type 0 where
  the_shelf the_input the_output : Device

pub record Counts : Type 0 where
  pub shelf : ℕ
  pub input : ℕ
  pub output : ℕ

abbrev pub counts : (shelf input output : ℕ) → Counts
counts shelf input output = record { shelf = shelf; input = input; output = output }

-- the device whose fault a status is
abbrev pub device_of : Status → Option Device
device_of ShelfFault = Some the_shelf
device_of ReadFault = Some the_input
device_of WriteFault = Some the_output
device_of _ = None

-- a device's count of faults rose where it is the one, and else stayed
abbrev pub CountIs : (is_the_one : Bool) → (old new : ℕ) → Type 0
CountIs true old new = Rose old new
CountIs false old new = new ≡ old

abbrev pub is_shelf : Option Device → Bool
is_shelf (Some the_shelf) = true
is_shelf _ = false

abbrev pub is_input : Option Device → Bool
is_input (Some the_input) = true
is_input _ = false

abbrev pub is_output : Option Device → Bool
is_output (Some the_output) = true
is_output _ = false

-- Each fault comes only where its device's count rose, and an end without a fault only where none did.
abbrev pub Causes : Status → (old new : Counts) → Type 0
Causes status old new =
    CountIs (is_shelf (device_of status)) old.shelf new.shelf
    × CountIs (is_input (device_of status)) old.input new.input
    × CountIs (is_output (device_of status)) old.output new.output

-- a page that is read and has no script, and an input of whole requests within the bound
pub record IsWhole (page bytes : List ℕ) : Type 0 where
  pub heap : Heap
  pub loads : Loads default_settings page heap
  pub requests : List Message
  pub whole : RequestsOf bytes requests ended
  pub few : length requests ≤ default_limit ServedLimit

-- A page was served. `page` is what the shelf has of it, `left` and `left'` are what is left of the input before and after
-- the run, and `told` and `told'` what the output took; None where that is not known.
pub record RunsStdio (status : Status) (page left left' told told' : Option (List ℕ)) (old new : Counts) : Type 0 where
  -- it never ends with usage
  pub ends : EndsStdio status
  -- what is written, by the status
  pub headline : (bytes input before : List ℕ) → page ≡ Some bytes → left ≡ Some input → told ≡ Some before
      → (written : List ℕ) × (told' ≡ Some (before ++ written)) × Headline status (take FETCHED_BYTES bytes) input written left'
  -- a page with a fault is refused with it
  pub refused : (bytes : List ℕ) → page ≡ Some bytes → (fault : LoadFault) → ShowsFault (take FETCHED_BYTES bytes) fault → IsRefused status fault
  -- a page that is read, and whole requests within the bound, are answered whole where no count rises
  pub complete : (bytes input before : List ℕ) → page ≡ Some bytes → left ≡ Some input → told ≡ Some before → IsWhole (take FETCHED_BYTES bytes) input
      → ¬ Rose old.shelf new.shelf → ¬ Rose old.input new.input → ¬ Rose old.output new.output → (status ≡ Ended) ⊎ (status ≡ NoMemory)
