-- Faults of pages and of scripts as faults of loading (this project's own).
use Rattle.std.specs.Prelude.{ℕ}
use Rattle.page_reader.specs.declared.fault.PageFault.{PageFault}
use Rattle.page_reader.specs.declared.fault.PageFault.TheVariants as page
use Rattle.js_parser.specs.declared.fault.ScriptFault.{ScriptFault}
use Rattle.js_parser.specs.declared.fault.ScriptFault.TheVariants as script
use Rattle.page_loading.specs.declared.fault.LoadFault.{LoadFault}
use Rattle.page_loading.specs.declared.fault.LoadFault.TheVariants.{Page, Script, NoMemory}

-- the fault of a page that wasn't read
abbrev pub of_page : PageFault → LoadFault
of_page (page.Rule number at) = Page (page.Rule number at)
of_page page.NoMemory = NoMemory

-- the fault of a page whose script of this number has this fault
abbrev pub of_script : (index : ℕ) → ScriptFault → LoadFault
of_script index script.NoMemory = NoMemory
of_script index fault = Script index fault
