-- From the programs of a page's scripts to how many it has.
use Rattle.std.proofs.Common.{◌≡◌, ◌∙◌, ℕ, suc, List, [], ◌∷◌, length, refl, sym, ap, Err}
use Rattle.grammar.specs.Exactly.{Value, Exactly}
use Rattle.page_reader.specs.declared.page.ScriptText.{ScriptText}
use Rattle.js_tree.specs.declared.code.Program.{Program}
use Rattle.page_loading.specs.declared.fault.LoadFault.{LoadFault}
use Rattle.page_loading.specs.declared.fault.LoadFault.TheVariants.{Page, Script, NoMemory}
use Rattle.page_loading.specs.Programs.{ArePrograms}
use Rattle.page_loading.specs.Loading as loading
use Rattle.page_loading.specs.Loading.{HasPrograms, ShowsFault}
use Rattle.crom_commands.specs.Checking.{IsChecked, report}

-- as many scripts as programs
lengths : (page : List ℕ) (some : List ScriptText) (programs : List Program) → ArePrograms page some programs → length programs ≡ length some
lengths page [] [] have = refl
lengths page [] (program ∷ programs) have = absurd have
lengths page (script ∷ some) [] have = absurd have
lengths page (script ∷ some) (program ∷ programs) have = ap (λ (n : ℕ). suc n) (lengths page some programs have.1)

-- where the programs are reported exactly, so is their number
pub counted : (page : List ℕ) (programs : List Program) (count : ℕ) → Exactly (HasPrograms page) (ShowsFault page) (Value programs) → length programs ≡ count
    → Exactly (IsChecked page) (ShowsFault page) (Value count)
counted page programs count read long = record {
  found = record { programs = programs; read = read.found; counted = sym long ∙ lengths page read.found.scripts programs read.found.have };
  only = λ number is. sym long ∙ ap length (read.only is.programs is.read) ∙ lengths page is.read.scripts is.programs is.read.have ∙ sym is.counted;
  only_fault = read.only_fault;
}

-- where a fault is reported exactly, so it is of the number
pub none_counted : (page : List ℕ) (fault : LoadFault) → Exactly (HasPrograms page) (ShowsFault page) (loading.report (Err fault)) → Exactly (IsChecked page) (ShowsFault page) (report (Err fault))
none_counted page (Page given) read = record { found = read.found; only = λ count is. read.only is.programs is.read; only_fault = read.only_fault }
none_counted page (Script index given) read = record { found = read.found; only = λ count is. read.only is.programs is.read; only_fault = read.only_fault }
none_counted page NoMemory read = record { found = tt; only = λ count is. tt; only_fault = λ fault shows. tt }
