-- From the fault of one script to that of loading.
use Rattle.std.proofs.Common.{◌≡◌, ℕ, List, refl}
use Rattle.std.specs.Prelude.{Err}
use Rattle.grammar.specs.Exactly.{Says}
use Rattle.page_reader.specs.declared.page.ScriptText.{ScriptText}
use Rattle.js_parser.specs.declared.fault.ScriptFault.{ScriptFault}
use Rattle.js_parser.specs.declared.fault.ScriptFault.TheVariants as script
use Rattle.js_parser.specs.Scripts as scripts
use Rattle.page_loading.specs.declared.fault.LoadFault.{LoadFault}
use Rattle.page_loading.specs.declared.fault.LoadFault.TheVariants.{Page, Script, NoMemory}
use Rattle.page_loading.specs.Faults.{of_script}
use Rattle.page_loading.specs.Programs.{HasProgram, ShowsFault, FirstFault}
use Rattle.page_loading.specs.Loading.{ProgramSays, ProgramsSay}

-- A script that was refused as none is reported so.
pub refused_script : (page : List ℕ) (text : ScriptText) (fault : ScriptFault) → Says (HasProgram page text) (ShowsFault page text) (scripts.report (Err fault)) → ProgramSays page text (Err (of_script text.index fault))
refused_script page text (script.Lex at) shows = (refl, shows)
refused_script page text (script.Syntax at) shows = (refl, shows)
refused_script page text (script.Nesting at) shows = (refl, shows)
refused_script page text (script.LeftOut at) shows = (refl, shows)
refused_script page text script.NoMemory shows = tt

-- What is reported of one script is reported of all, where it is the first that is none.
pub refused_scripts : (page : List ℕ) (some : List ScriptText) (text : ScriptText) (fault : LoadFault) → ((index : ℕ) (given : ScriptFault) → index ≡ text.index → ShowsFault page text given → FirstFault page some index given)
    → ProgramSays page text (Err fault) → ProgramsSay page some (Err fault)
refused_scripts page some text (Page fault) first says = says
refused_scripts page some text (Script index fault) first says = first index fault says.0 says.1
refused_scripts page some text NoMemory first says = tt
