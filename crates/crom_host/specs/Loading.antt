-- What loading a page reports.
use Rattle.std.specs.Prelude.{◌≡◌, ◌≢◌, List, [], ℕ, Result, Ok, Err, ⊤}
use Rattle.grammar.specs.Exactly.{Report, Value, Fault, OutOfMemory, Says}
use Rattle.cell_places.specs.Sound.{IsSound}
use Rattle.cell_heap.specs.Base.{heap_of}
use Rattle.js_tree.specs.declared.code.Program.{Program}
use Rattle.page_loading.specs.declared.fault.LoadFault.{LoadFault}
use Rattle.page_loading.specs.declared.fault.LoadFault.TheVariants.{NoMemory}
use Rattle.page_loading.specs.Loading.{HasPrograms, ShowsFault}
use Rattle.crom_host.specs.declared.host.Loaded.{Loaded}
use Rattle.crom_host.specs.declared.host.Loaded.TheVariants.{Ready, HasScripts}
use Rattle.crom_host.specs.Plain.{Settings, Loads}

-- The bytes are a page with a script, and each of its scripts has a program.
pub record IsScripted (page : List ℕ) : Type 0 where
  pub programs : List Program
  pub read : HasPrograms page programs
  pub some : read.scripts ≢ []

-- what the bytes are where they were loaded so
abbrev pub IsLoaded : Settings → (page : List ℕ) → Loaded → Type 0
IsLoaded s page (Ready base) = Loads s page (heap_of base) × IsSound 0 (heap_of base)
IsLoaded s page HasScripts = IsScripted page

-- the page is loaded, and has no script
abbrev pub IsReady : Loaded → Type 0
IsReady (Ready base) = ⊤
IsReady HasScripts = ⊥

-- what loading reports
abbrev pub report : Result Loaded LoadFault → Report Loaded LoadFault
report (Ok loaded) = Value loaded
report (Err NoMemory) = OutOfMemory
report (Err fault) = Fault fault

-- What is reported of the bytes is so.
abbrev pub LoadSays : Settings → Result Loaded LoadFault → (page : List ℕ) → Type 0
LoadSays s result page = Says (IsLoaded s page) (ShowsFault page) (report result)

-- the page is loaded, unless memory was refused
abbrev pub OnlyReady : Result Loaded LoadFault → Type 0
OnlyReady result = Says IsReady (λ _. ⊥) (report result)

-- this fault is reported, unless memory was refused
abbrev pub OnlyFault : Result Loaded LoadFault → LoadFault → Type 0
OnlyFault result fault = Says (λ _. ⊥) (λ given. given ≡ fault) (report result)
