-- The programs of scripts, one after the other.
use Rattle.std.proofs.Common.{◌≡◌, ℕ, List, [], ◌∷◌, ◌++◌, inl, inr, sym, subst}
use Rattle.std.proofs.lemmas.List.{append-nil, append_assoc}
use Rattle.page_reader.specs.declared.page.ScriptText.{ScriptText}
use Rattle.js_tree.specs.declared.code.Program.{Program}
use Rattle.js_parser.specs.declared.fault.ScriptFault.{ScriptFault}
use Rattle.page_loading.specs.Programs.{HasProgram, ShowsFault, ArePrograms, FirstFault}

-- The scripts that are left come after some that have these programs.
pub record Reaches (page : List ℕ) (scripts : List ScriptText) (programs : List Program) (left : List ScriptText) : Type 0 where
  pub puts : (more : List Program) → ArePrograms page left more → ArePrograms page scripts (programs ++ more)
  pub shows : (index : ℕ) (fault : ScriptFault) → FirstFault page left index fault → FirstFault page scripts index fault

module _ (page : List ℕ) (scripts : List ScriptText) where
  pub at_start : Reaches page scripts [] scripts
  at_start = record { puts = λ more h. h; shows = λ index fault h. h }

  module _ (programs : List Program) (script : ScriptText) (left : List ScriptText) (r : Reaches page scripts programs (script ∷ left)) where
    -- one script more that has a program
    pub one_more : (program : Program) → HasProgram page script program → Reaches page scripts (programs ++ program ∷ []) left
    one_more program has = record {
      puts = λ more h. subst (λ (all : List Program). ArePrograms page scripts all) (sym (append_assoc programs (program ∷ []) more)) (r.puts (program ∷ more) (has, h));
      shows = λ index fault h. r.shows index fault (inr (program, has, h));
    }

    -- one that shows a fault
    pub found_fault : (index : ℕ) (fault : ScriptFault) → index ≡ script.index → ShowsFault page script fault → FirstFault page scripts index fault
    found_fault index fault e h = r.shows index fault (inl (e, h))

  -- All have programs.
  pub all_programs : (programs : List Program) → Reaches page scripts programs [] → ArePrograms page scripts programs
  all_programs programs r = subst (λ (all : List Program). ArePrograms page scripts all) (append-nil programs) (r.puts [] tt)
