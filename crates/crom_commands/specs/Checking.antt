-- What checking a page says.
use Rattle.std.specs.Prelude.{◌≡◌, ◌⊎◌, ℕ, List, [], ◌++◌, length, take, codes, decimal, Option, Some, Result, Ok, Err, ⊤}
use Rattle.byte_ports.specs.declared.shelf.TheConstants.{FETCHED_BYTES}
use Rattle.byte_ports.specs.Streams.{after, Rose}
use Rattle.grammar.specs.Exactly.{Report, Value, Fault, OutOfMemory}
use Rattle.page_reader.specs.declared.fault.PageFault.TheVariants as fault
use Rattle.page_reader.specs.Page.{IsPageFault}
use Rattle.js_tree.specs.declared.code.Program.{Program}
use Rattle.page_loading.specs.declared.fault.LoadFault.{LoadFault}
use Rattle.page_loading.specs.declared.fault.LoadFault.TheVariants as load
use Rattle.page_loading.specs.Loading.{HasPrograms, IsScriptFault, ShowsFault}
use Rattle.crom_commands.specs.declared.status.Status.{Status}
use Rattle.crom_commands.specs.declared.status.Status.TheVariants.{Ended, Usage, Page, Script, NotBuilt, ReadFault, WriteFault, NoMemory, ShelfFault, Truncated, RequestBound}
use Rattle.crom_commands.specs.Headline.{Counts, IsRefused}

-- The bytes are a page, and each of its scripts, which are so many, has a program.
pub record IsChecked (page : List ℕ) (count : ℕ) : Type 0 where
  pub programs : List Program
  pub read : HasPrograms page programs
  pub counted : count ≡ length read.scripts

-- what counting a page's scripts reports
abbrev pub report : Result ℕ LoadFault → Report ℕ LoadFault
report (Ok count) = Value count
report (Err load.NoMemory) = OutOfMemory
report (Err fault) = Fault fault

-- the line with how many scripts were read
abbrev pub count_line : ℕ → List ℕ
count_line count = codes "ok scripts " ++ (decimal count ++ codes "\n")

-- The page and its scripts were read, and a prefix of the line was written.
pub record IsCutOff (page written : List ℕ) : Type 0 where
  pub count : ℕ
  pub checked : IsChecked page count
  pub part : ℕ
  pub front : written ≡ take part (count_line count)

-- what the writing of a line gave the output and counted, by the status
abbrev pub Writes : Status → (line : List ℕ) → (told told' : Option (List ℕ)) → (faults faults' : ℕ) → Type 0
Writes Ended line told told' faults faults' = (told' ≡ after told line) × (faults' ≡ faults)
Writes WriteFault line told told' faults faults' = ((part : ℕ) × (told' ≡ after told (take part line))) × Rose faults faults'
Writes NoMemory line told told' faults faults' = ((part : ℕ) × (told' ≡ after told (take part line))) × (faults' ≡ faults)
Writes _ line told told' faults faults' = ⊥

-- What was written for the page that was to be checked, by the status.
abbrev pub Checked : Status → (page written : List ℕ) → Type 0
Checked Ended page written = (count : ℕ) × IsChecked page count × (written ≡ count_line count)
Checked (Page (fault.Rule number at)) page written = IsPageFault page number at × (written ≡ [])
Checked (Page fault.NoMemory) page written = ⊥
Checked (Script index fault) page written = IsScriptFault page index fault × (written ≡ [])
Checked ShelfFault page written = written ≡ []
Checked WriteFault page written = IsCutOff page written
Checked NoMemory page written = (written ≡ []) ⊎ IsCutOff page written
Checked Usage page written = ⊥
Checked NotBuilt page written = ⊥
Checked ReadFault page written = ⊥
Checked Truncated page written = ⊥
Checked RequestBound page written = ⊥

-- the statuses that checking a page ends with
abbrev pub EndsCheck : Status → Type 0
EndsCheck Ended = ⊤
EndsCheck (Page (fault.Rule number at)) = ⊤
EndsCheck (Page fault.NoMemory) = ⊥
EndsCheck (Script index fault) = ⊤
EndsCheck ShelfFault = ⊤
EndsCheck WriteFault = ⊤
EndsCheck NoMemory = ⊤
EndsCheck _ = ⊥

-- A page was checked. `page` is what the shelf has of it, and `told` and `told'` are what the output took before and after
-- the run; None where that is not known.
pub record RunsCheck (status : Status) (page told told' : Option (List ℕ)) (old new : Counts) : Type 0 where
  -- it ends with no status of serving
  pub ends : EndsCheck status
  -- what is written, exactly where the page and its scripts are read
  pub checked : (bytes before : List ℕ) → page ≡ Some bytes → told ≡ Some before
      → (written : List ℕ) × (told' ≡ Some (before ++ written)) × Checked status (take FETCHED_BYTES bytes) written
  -- a page with a fault is refused with it
  pub refused : (bytes : List ℕ) → page ≡ Some bytes → (fault : LoadFault) → ShowsFault (take FETCHED_BYTES bytes) fault → IsRefused status fault
  -- a page whose scripts all have programs is reported as one, where no count rises
  pub complete : (bytes : List ℕ) → page ≡ Some bytes → (count : ℕ) → IsChecked (take FETCHED_BYTES bytes) count
      → ¬ Rose old.shelf new.shelf → ¬ Rose old.output new.output → (status ≡ Ended) ⊎ (status ≡ NoMemory)
