-- What a run says that serves a page.
use Rattle.std.proofs.Common.{◌≡◌, ◌⊎◌, ◌+◌, ◌≤◌, ℕ, List, [], ◌++◌, length, take, Option, Some, Result, Ok, Err, inl, inr, refl, sym, ap, subst, ◌∙◌, arith}
use Rattle.std.proofs.lemmas.List.{append-nil}
use Rattle.std.specs.declared.alloc.AllocError.{AllocError}
use Rattle.byte_ports.specs.declared.shelf.TheConstants.{FETCHED_BYTES}
use Rattle.byte_ports.specs.Streams.{Rose}
use Rattle.page_units.specs.declared.limits.Limit.TheVariants.{Served as ServedLimit}
use Rattle.page_units.specs.Limits.{default_limit}
use Rattle.cell_places.specs.Heap.{Heap}
use Rattle.tree_shape.specs.Trees.{Trees}
use Rattle.http_wire.specs.Messages.{Message}
use Rattle.http_wire.specs.Requests.{RequestsOf, ended}
use Rattle.page_reader.specs.declared.fault.PageFault.TheVariants.{Rule, NoMemory}
use Rattle.page_reader.specs.Page.{IsPage}
use Rattle.page_loading.specs.declared.fault.LoadFault.{LoadFault}
use Rattle.page_loading.specs.declared.fault.LoadFault.TheVariants as load
use Rattle.page_loading.specs.Loading.{ShowsFault}
use Rattle.crom_host.specs.declared.host.Loaded.TheVariants.{HasScripts}
use Rattle.crom_host.specs.declared.stream.Ended.{Ended}
use Rattle.crom_host.specs.declared.stream.Ended.TheVariants.{End, Closed, Halted, Truncated, RequestBound, ReadFault, WriteFault}
use Rattle.crom_host.specs.Loading.{IsScripted, LoadSays, OnlyReady, OnlyFault}
use Rattle.crom_host.specs.Plain.{Settings, default_settings, hosted, Loads}
use Rattle.crom_host.specs.Stream.{Streamed, StreamCauses, IsWholeEnd}
use Rattle.crom_commands.specs.declared.status.Status.TheVariants as s
use Rattle.crom_commands.specs.Faults.{status_of as of_load}
use Rattle.crom_commands.specs.Headline.{Headline, EndsStdio, Counts, counts, Causes, Served, status_of, IsRefused, RunsStdio}
use Rattle.crom_commands.proofs.Complete.{complete_of}

-- ---- the end of a stream

headline_of : (result : Result Ended AllocError) (page bytes written : List ℕ) (left : Option (List ℕ)) → Served result page bytes written left → Headline (status_of result) page bytes written left
headline_of (Ok End) page bytes written left served = inl served
headline_of (Ok Closed) page bytes written left served = inr (inl served)
headline_of (Ok Halted) page bytes written left served = inr (inr served)
headline_of (Ok Truncated) page bytes written left served = served
headline_of (Ok RequestBound) page bytes written left served = served
headline_of (Ok ReadFault) page bytes written left served = served
headline_of (Ok WriteFault) page bytes written left served = served
headline_of (Err e) page bytes written left served = inr (e, served)

pub causes_of : (result : Result Ended AllocError) (shelf shelf' input input' output output' : ℕ) → shelf' ≡ shelf → StreamCauses result input input' output output'
    → Causes (status_of result) (counts shelf input output) (counts shelf' input' output')
causes_of (Ok End) _ _ _ _ _ _ same c = (same, c.0, c.1)
causes_of (Ok Closed) _ _ _ _ _ _ same c = (same, c.0, c.1)
causes_of (Ok Halted) _ _ _ _ _ _ same c = (same, c.0, c.1)
causes_of (Ok Truncated) _ _ _ _ _ _ same c = (same, c.0, c.1)
causes_of (Ok RequestBound) _ _ _ _ _ _ same c = (same, c.0, c.1)
causes_of (Ok ReadFault) _ _ _ _ _ _ same c = (same, c.0, c.1)
causes_of (Ok WriteFault) _ _ _ _ _ _ same c = (same, c.0, c.1)
causes_of (Err e) _ _ _ _ _ _ same c = (same, c.0, c.1)

outcome_ends : (result : Result Ended AllocError) → EndsStdio (status_of result)
outcome_ends (Ok End) = tt
outcome_ends (Ok Closed) = tt
outcome_ends (Ok Halted) = tt
outcome_ends (Ok Truncated) = tt
outcome_ends (Ok RequestBound) = tt
outcome_ends (Ok ReadFault) = tt
outcome_ends (Ok WriteFault) = tt
outcome_ends (Err e) = tt

-- ---- the page wasn't loaded

fault_headline : (fault : LoadFault) (page bytes : List ℕ) (left : Option (List ℕ)) (s : Settings) → LoadSays s (Err fault) page → Headline (of_load fault) page bytes [] left
fault_headline (load.Page (Rule number at)) page bytes left _ says = (says, refl)
fault_headline (load.Page NoMemory) page bytes left _ says = absurd says
fault_headline (load.Script index given) page bytes left _ says = (says, refl)
fault_headline load.NoMemory page bytes left _ says = inl refl

fault_ready : (fault : LoadFault) → OnlyReady (Err fault) → (of_load fault ≡ s.Ended) ⊎ (of_load fault ≡ s.NoMemory)
fault_ready (load.Page given) none = absurd none
fault_ready (load.Script index given) none = absurd none
fault_ready load.NoMemory none = inr refl

fault_refused : (fault shown : LoadFault) → OnlyFault (Err fault) shown → IsRefused (of_load fault) shown
fault_refused (load.Page given) shown same = inl (ap of_load same)
fault_refused (load.Script index given) shown same = inl (ap of_load same)
fault_refused load.NoMemory shown same = inr (inr refl)

load_ends : (fault : LoadFault) → EndsStdio (of_load fault)
load_ends (load.Page (Rule n a)) = tt
load_ends (load.Page NoMemory) = tt
load_ends (load.Script index given) = tt
load_ends load.NoMemory = tt

-- ---- the run

module _ (file left told : Option (List ℕ)) (old new : Counts) where
  nothing_more : (before : List ℕ) → told ≡ Some before → told ≡ Some (before ++ [])
  nothing_more before is = is ∙ ap Some (sym (append-nil before))

  -- the page wasn't fetched
  pub shelf_failed : Rose old.shelf new.shelf → RunsStdio s.ShelfFault file left left told told old new
  shelf_failed rose = record {
    ends = tt;
    headline = λ bytes input before is in_left out. ([], nothing_more before out, refl);
    refused = λ bytes is fault shows. inr (inl refl);
    complete = λ bytes input before is in_left out whole calm_shelf calm_input calm_output. absurd (calm_shelf rose);
  }

  pub out_of_memory : RunsStdio s.NoMemory file left left told told old new
  out_of_memory = record {
    ends = tt;
    headline = λ bytes input before is in_left out. ([], nothing_more before out, inl refl);
    refused = λ bytes is fault shows. inr (inr refl);
    complete = λ bytes input before is in_left out whole calm_shelf calm_input calm_output. inr refl;
  }

  -- The page was fetched: all that the shelf has of it, as far as it is read.
  module _ (all : List ℕ) (fetched : (bytes : List ℕ) → file ≡ Some bytes → all ≡ take FETCHED_BYTES bytes) where
    no_script : (bytes : List ℕ) → file ≡ Some bytes → (heap : Heap) (loads : Loads default_settings (take FETCHED_BYTES bytes) heap) → IsPage all loads.trees []
    no_script bytes is heap loads = subst (λ (z : List ℕ). IsPage z loads.trees []) (sym (fetched bytes is)) loads.reads

    shown_there : (bytes : List ℕ) → file ≡ Some bytes → (fault : LoadFault) → ShowsFault (take FETCHED_BYTES bytes) fault → ShowsFault all fault
    shown_there bytes is fault shows = subst (λ (z : List ℕ). ShowsFault z fault) (sym (fetched bytes is)) shows

    -- it has a script
    pub scripted_runs : IsScripted all → ((trees : Trees) → IsPage all trees [] → OnlyReady (Ok HasScripts)) → ((fault : LoadFault) → ShowsFault all fault → OnlyFault (Ok HasScripts) fault)
        → RunsStdio s.NotBuilt file left left told told old new
    scripted_runs scripted only only_fault = record {
      ends = tt;
      headline = λ bytes input before is in_left out. ([], nothing_more before out, (subst IsScripted (fetched bytes is) scripted, refl));
      refused = λ bytes is fault shows. absurd (only_fault fault (shown_there bytes is fault shows));
      complete = λ bytes input before is in_left out whole calm_shelf calm_input calm_output.
          absurd (only whole.loads.trees (no_script bytes is whole.heap whole.loads));
    }

    -- it was not loaded
    pub fault_runs : (fault : LoadFault) (s : Settings) → LoadSays s (Err fault) all → ((trees : Trees) → IsPage all trees [] → OnlyReady (Err fault)) → ((shown : LoadFault) → ShowsFault all shown → OnlyFault (Err fault) shown)
        → RunsStdio (of_load fault) file left left told told old new
    fault_runs fault s says only only_fault = record {
      ends = load_ends fault;
      headline = λ bytes input before is in_left out.
          ([], nothing_more before out, fault_headline fault (take FETCHED_BYTES bytes) input left s (subst (λ (z : List ℕ). LoadSays s (Err fault) z) (fetched bytes is) says));
      refused = λ bytes is shown shows. fault_refused fault shown (only_fault shown (shown_there bytes is shown shows));
      complete = λ bytes input before is in_left out whole calm_shelf calm_input calm_output.
          fault_ready fault (only whole.loads.trees (no_script bytes is whole.heap whole.loads));
    }

    -- it was loaded, and the stream of the input was served
    pub served_runs : (result : Result Ended AllocError) (left' told' : Option (List ℕ)) (start last : Heap) (count : ℕ) → Loads default_settings all start → ((fault : LoadFault) → ShowsFault all fault → ⊥)
        → StreamCauses result old.input new.input old.output new.output
        → ((bytes before : List ℕ) → left ≡ Some bytes → told ≡ Some before
        → (written : List ℕ) × (told' ≡ Some (before ++ written)) × Streamed result default_settings (hosted start) (hosted last) 0 count bytes [] [] written left')
        → ((bytes : List ℕ) (requests : List Message) → left ≡ Some bytes → RequestsOf bytes requests ended → 0 + length requests ≤ default_limit ServedLimit → IsWholeEnd result)
        → RunsStdio (status_of result) file left left' told told' old new
    served_runs result left' told' start last count loads none causes stream whole = record {
      ends = outcome_ends result;
      headline = λ bytes input before is in_left out.
          let s = stream input before in_left out in (
            s.0,
            s.1,
            headline_of result (take FETCHED_BYTES bytes) input s.0 left' (record {
              start = start;
              last = hosted last;
              count = count;
              loads = subst (λ (z : List ℕ). Loads default_settings z start) (fetched bytes is) loads;
              stream = s.2;
            }),
          );
      refused = λ bytes is fault shows. absurd (none fault (shown_there bytes is fault shows));
      complete = λ bytes input before is in_left out all_whole calm_shelf calm_input calm_output.
          let few : 0 + length all_whole.requests ≤ default_limit ServedLimit = omega (arith, all_whole.few) in
          complete_of result old.input new.input old.output new.output (whole input all_whole.requests in_left all_whole.whole few) causes calm_input calm_output;
    }
