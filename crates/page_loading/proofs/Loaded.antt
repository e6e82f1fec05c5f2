-- What loading reports, from what reading the page and its scripts says.
use Rattle.std.proofs.Common.{List, ℕ, Vec, Global}
use Rattle.std.specs.Prelude.{Result, Ok, Err}
use Rattle.grammar.specs.Exactly.{Says, Exactly}
use Rattle.tree_shape.specs.Trees.{Trees}
use Rattle.cell_places.specs.View.{View}
use Rattle.page_reader.specs.declared.fault.PageFault.{PageFault}
use Rattle.page_reader.specs.declared.fault.PageFault.TheVariants as page
use Rattle.page_reader.specs.declared.page.ScriptText.{ScriptText}
use Rattle.page_reader.specs.Page.{IsPage}
use Rattle.page_reader.specs.Reading as reading
use Rattle.page_reader.specs.Reading.{ReadsPage}
use Rattle.js_tree.specs.declared.code.Program.{Program}
use Rattle.page_loading.specs.declared.fault.LoadFault.{LoadFault}
use Rattle.page_loading.specs.declared.fault.LoadFault.TheVariants.{Page, Script, NoMemory}
use Rattle.page_loading.specs.Faults.{of_page}
use Rattle.page_loading.specs.Loading.{HasPrograms, ShowsFault, ProgramsSay, report, Loaded}
use Rattle.page_loading.proofs.Unique.{loaded_exactly}

-- the page isn't read
pub refused_exactly : (bytes : List ℕ) (fault : PageFault) → Says (reading.HasScripts bytes) (reading.ShowsFault bytes) (reading.report (Err fault)) → Exactly (HasPrograms bytes) (ShowsFault bytes) (report (Err (of_page fault)))
refused_exactly bytes (page.Rule number at) shows = loaded_exactly bytes (Err (Page (page.Rule number at))) shows
refused_exactly bytes page.NoMemory shows = loaded_exactly bytes (Err NoMemory) tt

pub refused_loaded : (old new : View) (bytes : List ℕ) (fault : PageFault) → reading.PageRead (Err fault) old new bytes → Loaded (Err (of_page fault)) old new bytes
refused_loaded old new bytes (page.Rule number at) read = read.1
refused_loaded old new bytes page.NoMemory read = tt

-- the page is read
module _ (bytes : List ℕ) (scripts : List ScriptText) where
  says : (trees : Trees) → IsPage bytes trees scripts → (result : Result (Vec Program Global) LoadFault) → ProgramsSay bytes scripts result → Says (HasPrograms bytes) (ShowsFault bytes) (report result)
  says trees is (Ok programs) h = record { trees = trees; scripts = scripts; page = is; have = h }
  says trees is (Err (Page fault)) h = absurd h
  says trees is (Err (Script index fault)) h = record { trees = trees; scripts = scripts; page = is; first = h }
  says trees is (Err NoMemory) h = tt

  pub read_exactly : (old new : View) → ReadsPage old new bytes scripts → (result : Result (Vec Program Global) LoadFault) → ProgramsSay bytes scripts result → Exactly (HasPrograms bytes) (ShowsFault bytes) (report result)
  read_exactly old new read result h = loaded_exactly bytes result (says read.trees read.page result h)

  pub read_loaded : (old new : View) → ReadsPage old new bytes scripts → (result : Result (Vec Program Global) LoadFault) → ProgramsSay bytes scripts result → Loaded result old new bytes
  read_loaded old new read (Ok programs) h = record { scripts = scripts; page = read; have = h }
  read_loaded old new read (Err (Page fault)) h = absurd h
  read_loaded old new read (Err (Script index fault)) h = (scripts, read)
  read_loaded old new read (Err NoMemory) h = tt
