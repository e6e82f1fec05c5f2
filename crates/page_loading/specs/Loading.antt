-- What loading a page does: its tree in the heap, and the programs of its scripts (this project's own page form; scripts
-- are those of ECMA-262 5.1, section 14).
use Rattle.std.specs.Prelude.{◌≡◌, ℕ, List, Vec, Result, Ok, Err}
use Rattle.std.specs.declared.alloc.Global.{Global}
use Rattle.grammar.specs.Exactly.{Report, Value, Fault, OutOfMemory}
use Rattle.cell_places.specs.View.{View}
use Rattle.tree_shape.specs.Trees.{Trees}
use Rattle.page_reader.specs.declared.page.ScriptText.{ScriptText}
use Rattle.page_reader.specs.Page.{IsPage}
use Rattle.page_reader.specs.Reading as reading
use Rattle.page_reader.specs.Reading.{ReadsPage}
use Rattle.js_tree.specs.declared.code.Program.{Program}
use Rattle.js_parser.specs.declared.fault.ScriptFault.{ScriptFault}
use Rattle.page_loading.specs.declared.fault.LoadFault.{LoadFault}
use Rattle.page_loading.specs.declared.fault.LoadFault.TheVariants.{Page, Script, NoMemory}
use Rattle.page_loading.specs.Programs as programs
use Rattle.page_loading.specs.Programs.{HasProgram, ArePrograms, FirstFault}

-- ---- which bytes are loaded

-- The bytes are a page, and its scripts have these programs.
pub record HasPrograms (bytes : List ℕ) (programs : List Program) : Type 0 where
  pub trees : Trees
  pub scripts : List ScriptText
  pub page : IsPage bytes trees scripts
  pub have : ArePrograms bytes scripts programs

-- The bytes are a page, and the first of its scripts that is not a program has this number and shows this fault.
pub record IsScriptFault (bytes : List ℕ) (index : ℕ) (fault : ScriptFault) : Type 0 where
  pub trees : Trees
  pub scripts : List ScriptText
  pub page : IsPage bytes trees scripts
  pub first : FirstFault bytes scripts index fault

-- The bytes are no page whose scripts have programs, and this is their fault.
abbrev pub ShowsFault : (bytes : List ℕ) → LoadFault → Type 0
ShowsFault bytes (Page fault) = reading.ShowsFault bytes fault
ShowsFault bytes (Script index fault) = IsScriptFault bytes index fault
ShowsFault bytes NoMemory = ⊥

-- what loading reports
abbrev pub report : Result (Vec Program Global) LoadFault → Report (List Program) LoadFault
report (Ok programs) = Value programs.items
report (Err NoMemory) = OutOfMemory
report (Err fault) = Fault fault

-- ---- what reading scripts says

-- The program of a script, or that it is none, unless memory was refused.
abbrev pub ProgramSays : (page : List ℕ) → ScriptText → Result Program LoadFault → Type 0
ProgramSays page script (Ok program) = HasProgram page script program
ProgramSays page script (Err (Page fault)) = ⊥
ProgramSays page script (Err (Script index fault)) = (index ≡ script.index) × programs.ShowsFault page script fault
ProgramSays page script (Err NoMemory) = Unit {0}

-- The programs of scripts, or the first that is none, unless memory was refused.
abbrev pub ProgramsSay : (page : List ℕ) → List ScriptText → Result (Vec Program Global) LoadFault → Type 0
ProgramsSay page scripts (Ok given) = ArePrograms page scripts given.items
ProgramsSay page scripts (Err (Page fault)) = ⊥
ProgramsSay page scripts (Err (Script index fault)) = FirstFault page scripts index fault
ProgramsSay page scripts (Err NoMemory) = Unit {0}

-- ---- what loading does

-- The bytes are a page, its tree was put under the document, and its scripts have these programs.
pub record ReadsScripts (old new : View) (bytes : List ℕ) (programs : List Program) : Type 0 where
  pub scripts : List ScriptText
  pub page : ReadsPage old new bytes scripts
  pub have : ArePrograms bytes scripts programs

-- The page and its scripts were read; or the bytes are no page, and nothing was done; or the page's tree was put, and one of
-- its scripts is not a program; or memory was refused.
abbrev pub Loaded : Result (Vec Program Global) LoadFault → (old new : View) → (bytes : List ℕ) → Type 0
Loaded (Ok programs) old new bytes = ReadsScripts old new bytes programs.items
Loaded (Err (Page fault)) old new bytes = new ≡ old
Loaded (Err (Script index fault)) old new bytes = (scripts : List ScriptText) × ReadsPage old new bytes scripts
Loaded (Err NoMemory) old new bytes = Unit {0}
