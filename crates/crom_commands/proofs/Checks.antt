-- What a run says that checks a page.
use Rattle.std.proofs.Common.{◌≡◌, ◌⊎◌, ℕ, List, [], ◌++◌, take, Option, Some, Err, inl, inr, refl, sym, ap, subst, ◌∙◌}
use Rattle.std.proofs.lemmas.List.{append-nil}
use Rattle.byte_ports.specs.declared.shelf.TheConstants.{FETCHED_BYTES}
use Rattle.byte_ports.specs.Streams.{Rose}
use Rattle.grammar.specs.Exactly.{Value, Exactly}
use Rattle.page_reader.specs.declared.fault.PageFault.TheVariants as page
use Rattle.page_loading.specs.declared.fault.LoadFault.{LoadFault}
use Rattle.page_loading.specs.declared.fault.LoadFault.TheVariants as load
use Rattle.page_loading.specs.Loading.{ShowsFault}
use Rattle.crom_commands.specs.declared.status.Status.{Status}
use Rattle.crom_commands.specs.declared.status.Status.TheVariants as s
use Rattle.crom_commands.specs.Faults.{status_of}
use Rattle.crom_commands.specs.Headline.{Counts, counts, Causes, IsRefused}
use Rattle.crom_commands.specs.Checking.{IsChecked, report, count_line, Writes, Checked, EndsCheck, RunsCheck}

-- ---- the page wasn't fetched

module _ (told : Option (List ℕ)) (file : Option (List ℕ)) (old new : Counts) where
  nothing_more : (before : List ℕ) → told ≡ Some before → told ≡ Some (before ++ [])
  nothing_more before is = is ∙ ap Some (sym (append-nil before))

  pub shelf_failed : Rose old.shelf new.shelf → RunsCheck s.ShelfFault file told told old new
  shelf_failed rose = record {
    ends = tt;
    checked = λ bytes before is out. ([], nothing_more before out, refl);
    refused = λ bytes is fault shows. inr (inl refl);
    complete = λ bytes is count checked calm_shelf calm_output. absurd (calm_shelf rose);
  }

  pub out_of_memory : RunsCheck s.NoMemory file told told old new
  out_of_memory = record {
    ends = tt;
    checked = λ bytes before is out. ([], nothing_more before out, inl refl);
    refused = λ bytes is fault shows. inr (inr refl);
    complete = λ bytes is count checked calm_shelf calm_output. inr refl;
  }

-- ---- the page or a script is none

fault_checked : (fault : LoadFault) (bytes : List ℕ) → Exactly (IsChecked bytes) (ShowsFault bytes) (report (Err fault)) → Checked (status_of fault) bytes []
fault_checked (load.Page (page.Rule number at)) bytes read = (read.found, refl)
fault_checked (load.Page page.NoMemory) bytes read = absurd read.found
fault_checked (load.Script index given) bytes read = (read.found, refl)
fault_checked load.NoMemory bytes read = inl refl

fault_ends : (fault : LoadFault) (bytes : List ℕ) → Exactly (IsChecked bytes) (ShowsFault bytes) (report (Err fault)) → EndsCheck (status_of fault)
fault_ends (load.Page (page.Rule number at)) bytes read = tt
fault_ends (load.Page page.NoMemory) bytes read = absurd read.found
fault_ends (load.Script index given) bytes read = tt
fault_ends load.NoMemory bytes read = tt

fault_refused : (fault shown : LoadFault) (bytes : List ℕ) → Exactly (IsChecked bytes) (ShowsFault bytes) (report (Err fault)) → ShowsFault bytes shown → IsRefused (status_of fault) shown
fault_refused (load.Page given) shown bytes read shows = inl (ap status_of (read.only_fault shown shows))
fault_refused (load.Script index given) shown bytes read shows = inl (ap status_of (read.only_fault shown shows))
fault_refused load.NoMemory shown bytes read shows = inr (inr refl)

fault_complete : (fault : LoadFault) (count : ℕ) (bytes : List ℕ) → Exactly (IsChecked bytes) (ShowsFault bytes) (report (Err fault)) → IsChecked bytes count → (status_of fault ≡ s.Ended) ⊎ (status_of fault ≡ s.NoMemory)
fault_complete (load.Page given) count bytes read is = absurd (read.only count is)
fault_complete (load.Script index given) count bytes read is = absurd (read.only count is)
fault_complete load.NoMemory count bytes read is = inr refl

-- the page that was fetched, `all` of which the shelf has, is none, or one of its scripts is
pub fault_runs : (fault : LoadFault) (all : List ℕ) (file told : Option (List ℕ)) (old new : Counts) → ((bytes : List ℕ) → file ≡ Some bytes → all ≡ take FETCHED_BYTES bytes)
    → Exactly (IsChecked all) (ShowsFault all) (report (Err fault)) → RunsCheck (status_of fault) file told told old new
fault_runs fault all file told old new fetched read = record {
  ends = fault_ends fault all read;
  checked = λ bytes before is out. ([], nothing_more told file old new before out, fault_checked fault (take FETCHED_BYTES bytes) (at bytes is));
  refused = λ bytes is shown shows. fault_refused fault shown (take FETCHED_BYTES bytes) (at bytes is) shows;
  complete = λ bytes is count checked calm_shelf calm_output. fault_complete fault count (take FETCHED_BYTES bytes) (at bytes is) checked;
}
  where
    at : (bytes : List ℕ) → file ≡ Some bytes → Exactly (IsChecked (take FETCHED_BYTES bytes)) (ShowsFault (take FETCHED_BYTES bytes)) (report (Err fault))
    at bytes is = subst (λ (z : List ℕ). Exactly (IsChecked z) (ShowsFault z) (report (Err fault))) (fetched bytes is) read

-- ---- the line is written

line_checked : (status : Status) (bytes : List ℕ) (count : ℕ) (old : List ℕ) (told : Option (List ℕ)) (faults faults' : ℕ) → IsChecked bytes count
    → Writes status (count_line count) (Some old) told faults faults' → (written : List ℕ) × (told ≡ Some (old ++ written)) × Checked status bytes written
line_checked s.Ended bytes count old told _ _ checked w = (count_line count, w.0, (count, checked, refl))
line_checked s.WriteFault bytes count old told _ _ checked w = (take w.0.0 (count_line count), w.0.1, record { count = count; checked = checked; part = w.0.0; front = refl })
line_checked s.NoMemory bytes count old told _ _ checked w = (take w.0.0 (count_line count), w.0.1, inr (record { count = count; checked = checked; part = w.0.0; front = refl }))
line_checked s.Usage bytes count old told _ _ checked w = absurd w
line_checked (s.Page fault) bytes count old told _ _ checked w = absurd w
line_checked (s.Script index fault) bytes count old told _ _ checked w = absurd w
line_checked s.ReadFault bytes count old told _ _ checked w = absurd w
line_checked s.ShelfFault bytes count old told _ _ checked w = absurd w
line_checked s.Truncated bytes count old told _ _ checked w = absurd w
line_checked s.RequestBound bytes count old told _ _ checked w = absurd w
line_checked s.NotBuilt bytes count old told _ _ checked w = absurd w

-- Of the statuses that the writing of a line has, only a fault isn't complete.
line_ends : (line : List ℕ) (told told' : Option (List ℕ)) (faults faults' : ℕ) (status : Status) → Writes status line told told' faults faults'
    → EndsCheck status × ((Rose faults faults' → ⊥) → (status ≡ s.Ended) ⊎ (status ≡ s.NoMemory))
line_ends line told told' faults faults' s.Ended w = (tt, λ calm. inl refl)
line_ends line told told' faults faults' s.WriteFault w = (tt, λ calm. absurd (calm w.1))
line_ends line told told' faults faults' s.NoMemory w = (tt, λ calm. inr refl)
line_ends line told told' faults faults' s.Usage w = absurd w
line_ends line told told' faults faults' (s.Page fault) w = absurd w
line_ends line told told' faults faults' (s.Script index fault) w = absurd w
line_ends line told told' faults faults' s.ReadFault w = absurd w
line_ends line told told' faults faults' s.ShelfFault w = absurd w
line_ends line told told' faults faults' s.Truncated w = absurd w
line_ends line told told' faults faults' s.RequestBound w = absurd w
line_ends line told told' faults faults' s.NotBuilt w = absurd w

module _ (line : List ℕ) (told told' : Option (List ℕ)) (faults faults' : ℕ) where
  pub line_causes : (status : Status) (shelf shelf' input : ℕ) → shelf' ≡ shelf → Writes status line told told' faults faults' → Causes status (counts shelf input faults) (counts shelf' input faults')
  line_causes s.Ended shelf shelf' input same w = (same, refl, w.1)
  line_causes s.WriteFault shelf shelf' input same w = (same, refl, w.1)
  line_causes s.NoMemory shelf shelf' input same w = (same, refl, w.1)
  line_causes s.Usage shelf shelf' input same w = absurd w
  line_causes (s.Page fault) shelf shelf' input same w = absurd w
  line_causes (s.Script index fault) shelf shelf' input same w = absurd w
  line_causes s.ReadFault shelf shelf' input same w = absurd w
  line_causes s.ShelfFault shelf shelf' input same w = absurd w
  line_causes s.Truncated shelf shelf' input same w = absurd w
  line_causes s.RequestBound shelf shelf' input same w = absurd w
  line_causes s.NotBuilt shelf shelf' input same w = absurd w

-- the page that was fetched has so many scripts, and the line was written or wasn't
pub line_runs : (status : Status) (all : List ℕ) (count : ℕ) (file told told' : Option (List ℕ)) (old new : Counts) → ((bytes : List ℕ) → file ≡ Some bytes → all ≡ take FETCHED_BYTES bytes)
    → Exactly (IsChecked all) (ShowsFault all) (Value count) → Writes status (count_line count) told told' old.output new.output → RunsCheck status file told told' old new
line_runs status all count file told told' old new fetched read w = record {
  ends = (line_ends (count_line count) told told' old.output new.output status w).0;
  checked = λ bytes before is out.
      line_checked status (take FETCHED_BYTES bytes) count before told' old.output new.output (subst (λ (z : List ℕ). IsChecked z count) (fetched bytes is) read.found)
      (subst (λ (t : Option (List ℕ)). Writes status (count_line count) t told' old.output new.output) out w);
  refused = λ bytes is shown shows. absurd (read.only_fault shown (subst (λ (z : List ℕ). ShowsFault z shown) (sym (fetched bytes is)) shows));
  complete = λ bytes is number checked calm_shelf calm_output. (line_ends (count_line count) told told' old.output new.output status w).1 calm_output;
}
