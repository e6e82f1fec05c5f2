-- A loaded page, and one that isn't.
use Rattle.std.proofs.Common.{◌≡◌, ℕ, List, [], ◌∷◌, refl, ap, ◌∙◌, subst}
use Rattle.std.specs.Prelude.{Err}
use Rattle.grammar.specs.Exactly.{Exactly}
use Rattle.cell_places.specs.Heap.{Heap}
use Rattle.cell_places.specs.View.{ground, uncounted, heap}
use Rattle.cell_places.specs.Start.{start}
use Rattle.cell_places.proofs.Runs.{ground-run}
use Rattle.page_reader.specs.declared.page.ScriptText.{ScriptText}
use Rattle.page_reader.specs.Page.{IsPage}
use Rattle.page_reader.specs.Planting.{planting, planted}
use Rattle.page_reader.specs.Reading.{ReadsPage}
use Rattle.page_units.specs.declared.limits.Limit.TheVariants.{Weight}
use Rattle.tree_shape.specs.Trees.{Trees}
use Rattle.js_tree.specs.declared.code.Program.{Program}
use Rattle.page_loading.specs.declared.fault.LoadFault.{LoadFault}
use Rattle.page_loading.specs.declared.fault.LoadFault.TheVariants as load
use Rattle.page_loading.specs.Programs.{ArePrograms}
use Rattle.page_loading.specs.Loading as loading
use Rattle.page_loading.specs.Loading.{HasPrograms, ShowsFault, ReadsScripts}
use Rattle.crom_host.specs.Loading.{IsScripted, LoadSays, OnlyReady, OnlyFault}
use Rattle.crom_host.specs.Plain.{Settings, Loads}

-- a page without scripts that was read into the heap of the start is loaded
loaded : (s : Settings) (H0 H1 : Heap) (page : List ℕ) (scripts : List ScriptText) → ReadsPage (ground H0 uncounted) (ground H1 uncounted) page scripts → scripts ≡ [] → H0 ≡ start (s.limits Weight) s.moment → Loads s page H1
loaded s H0 H1 page scripts r none e = record {
  trees = r.trees;
  reads = subst (λ (some : List ScriptText). IsPage page r.trees some) none r.page;
  heap = ap heap (r.acts ∙ ground-run H0 (planting H0 r.trees)) ∙ ap (λ (H : Heap). planted H r.trees) e;
}

-- ---- scripts and their programs

no_scripts : (page : List ℕ) (some : List ScriptText) (programs : List Program) → ArePrograms page some programs → programs ≡ [] → some ≡ []
no_scripts page [] programs have none = refl
no_scripts page (script ∷ some) [] have none = absurd have
no_scripts page (script ∷ some) (program ∷ programs) have none = absurd (cc)

no_programs : (page : List ℕ) (some : List ScriptText) (programs : List Program) → ArePrograms page some programs → some ≡ [] → programs ≡ []
no_programs page [] [] have none = refl
no_programs page [] (program ∷ programs) have none = absurd have
no_programs page (script ∷ some) programs have none = absurd (cc)

-- where there is no program, the page is loaded
pub ready : (s : Settings) (H0 H1 : Heap) (page : List ℕ) (programs : List Program) → ReadsScripts (ground H0 uncounted) (ground H1 uncounted) page programs → programs ≡ [] → H0 ≡ start (s.limits Weight) s.moment → Loads s page H1
ready s H0 H1 page programs r none e = loaded s H0 H1 page r.scripts r.page (no_scripts page r.scripts programs r.have none) e

-- where there is one, the page has a script
pub scripted : (page : List ℕ) (programs : List Program) → HasPrograms page programs → (programs ≡ [] → ⊥) → IsScripted page
scripted page programs read some = record {
  programs = programs;
  read = read;
  some = λ none. some (no_programs page read.scripts programs read.have none);
}

-- a page without scripts has no program
pub no_program : (page : List ℕ) (trees : Trees) → IsPage page trees [] → HasPrograms page []
no_program page trees reads = record { trees = trees; scripts = []; page = reads; have = tt }

-- ---- the page or a script is none

module _ (page : List ℕ) where
  pub fault_says : (s : Settings) (fault : LoadFault) → Exactly (HasPrograms page) (ShowsFault page) (loading.report (Err fault)) → LoadSays s (Err fault) page
  fault_says s (load.Page given) read = read.found
  fault_says s (load.Script index given) read = read.found
  fault_says s load.NoMemory read = tt

  pub fault_ready : (trees : Trees) (fault : LoadFault) → Exactly (HasPrograms page) (ShowsFault page) (loading.report (Err fault)) → IsPage page trees [] → OnlyReady (Err fault)
  fault_ready trees (load.Page given) read reads = absurd (read.only [] (no_program page trees reads))
  fault_ready trees (load.Script index given) read reads = absurd (read.only [] (no_program page trees reads))
  fault_ready trees load.NoMemory read reads = tt

  pub fault_only : (fault shown : LoadFault) → Exactly (HasPrograms page) (ShowsFault page) (loading.report (Err fault)) → ShowsFault page shown → OnlyFault (Err fault) shown
  fault_only (load.Page given) shown read shows = read.only_fault shown shows
  fault_only (load.Script index given) shown read shows = read.only_fault shown shows
  fault_only load.NoMemory shown read shows = tt
