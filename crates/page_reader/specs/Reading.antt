-- What reading a page did.
use Rattle.std.specs.Prelude.{◌≡◌, ℕ, List, [], ◌∷◌, Result, Ok, Err}
use Rattle.grammar.specs.Exactly.{Report, Value, Fault, OutOfMemory}
use Rattle.cell_places.specs.View.{View, heap, run}
use Rattle.cell_places.specs.Start.{document_cell}
use Rattle.tree_shape.specs.Trees.{Trees}
use Rattle.tree_shape.specs.Holds.{Holds, served}
use Rattle.page_reader.specs.declared.fault.PageFault.{PageFault}
use Rattle.page_reader.specs.declared.fault.PageFault.TheVariants.{Rule, NoMemory}
use Rattle.page_reader.specs.declared.page.PageParts.{PageParts}
use Rattle.page_reader.specs.declared.page.ScriptText.{ScriptText}
use Rattle.page_reader.specs.declared.whole.PageTree.{PageTree}
use Rattle.page_reader.specs.NodeTrees.{trees_of}
use Rattle.page_reader.specs.Page.{IsPage, IsPageFault}
use Rattle.page_reader.specs.Planting.{planting}

-- The bytes are a page with these scripts, and its tree was put under the document and stands there, and nothing else was
-- done.
pub record ReadsPage (old new : View) (bytes : List ℕ) (scripts : List ScriptText) : Type 0 where
  pub trees : Trees
  pub page : IsPage bytes trees scripts
  pub acts : new ≡ run old (planting (heap old) trees)
  pub holds : Holds (heap new) (served (heap new) document_cell) trees

-- A page was read, or the bytes are no page and nothing was done, or memory was refused.
abbrev pub PageRead : Result PageParts PageFault → View → View → List ℕ → Type 0
PageRead (Ok parts) old new bytes = ReadsPage old new bytes parts.scripts.items
PageRead (Err (Rule number at)) old new bytes = IsPageFault bytes number at × (new ≡ old)
PageRead (Err NoMemory) old new bytes = Unit {0}

-- The bytes are a page with these scripts.
abbrev pub HasScripts : (bytes : List ℕ) → List ScriptText → Type 0
HasScripts bytes scripts = (trees : Trees) × IsPage bytes trees scripts

-- The bytes are no page, and this is their fault.
abbrev pub ShowsFault : (bytes : List ℕ) → PageFault → Type 0
ShowsFault bytes (Rule number at) = IsPageFault bytes number at
ShowsFault bytes NoMemory = ⊥

-- what reading a page reports
abbrev pub report : Result PageParts PageFault → Report (List ScriptText) PageFault
report (Ok parts) = Value parts.scripts.items
report (Err NoMemory) = OutOfMemory
report (Err fault) = Fault fault

-- The bytes are a page with this tree and these scripts, or show this fault, or memory was refused.
abbrev pub TreeRead : Result PageTree PageFault → List ℕ → Type 0
TreeRead (Ok read) bytes = IsPage bytes (trees_of (read.root ∷ [])) read.scripts.items
TreeRead (Err (Rule number at)) bytes = IsPageFault bytes number at
TreeRead (Err NoMemory) bytes = Unit {0}
