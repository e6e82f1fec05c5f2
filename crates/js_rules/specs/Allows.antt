-- Which acts a rule allows, with the end that they lead to (this project's own). Nothing here speaks of a heap: an
-- answer, a kind and a made name are any, and a tick, a charge or an enter may be refused anywhere.
use Rattle.std.specs.Prelude.{ℕ, List, [], ◌∷◌, ◌++◌, Result, Ok, Err}
use Rattle.page_units.specs.declared.value.CellName.{CellName}
use Rattle.page_units.specs.declared.value.Value.{Value}
use Rattle.page_units.specs.declared.fault.RunFault.{RunFault}
use Rattle.page_units.specs.declared.fault.RunFault.TheVariants as fault
use Rattle.cell_places.specs.declared.place.Place.{Place}
use Rattle.cell_places.specs.declared.answer.Answer.{Answer}
use Rattle.cell_places.specs.declared.kind.CellKind.{CellKind}
use Rattle.cell_places.specs.Acts.{Act, asked, looked, placed, made, charged, ticked, entered, left, wrote, not_charged, not_ticked, not_entered}
use Rattle.js_rules.specs.declared.stop.Stop.{Stop}
use Rattle.js_rules.specs.declared.stop.Stop.TheVariants as stop
use Rattle.js_rules.specs.Fixed.{Fixed}
use Rattle.js_rules.specs.Tasks.{Kind, Of, Task}
use Rattle.js_rules.specs.Prog.{Prog, Ret, Throw, Ask, Look, Put, Make, Charge, Tick, Enter, Write, Do, Catch}
use Rattle.js_rules.specs.Rules.{rule}
use Rattle.cell_places.specs.Outward.{Outward}

-- it ended with a value or a throw, and met no bound
abbrev pub IsDone : {A : Type 0} → Result A Stop → Type 0
IsDone (Ok x) = Unit {0}
IsDone (Err (stop.Throw x)) = Unit {0}
IsDone (Err (stop.Fault f)) = ⊥

-- it wasn't out of memory
abbrev pub HasMemory : {A : Type 0} → Result A Stop → Type 0
HasMemory (Ok x) = Unit {0}
HasMemory (Err (stop.Throw x)) = Unit {0}
HasMemory (Err (stop.Fault fault.NoMemory)) = ⊥
HasMemory (Err (stop.Fault fault.Steps)) = Unit {0}
HasMemory (Err (stop.Fault fault.Weight)) = Unit {0}
HasMemory (Err (stop.Fault fault.Depth)) = Unit {0}

mutual
  pub data Allows (fixed : Fixed) : (K : Kind) → Prog K → List Act → Result (Of K) Stop →
      Type 0 where
    ret : {K : Kind} {x : Of K} → Allows fixed K (Ret x) [] (Ok x)
    throw : {K : Kind} {x : Value} → Allows fixed K (Throw x) [] (Err (stop.Throw x))
    ask : {K : Kind} {p : Place} {m : Answer → Prog K} {acts : List Act} {r : Result (Of K) Stop}
        (a : Answer) →
        Allows fixed K (m a) acts r → Allows fixed K (Ask p m) (asked p a ∷ acts) r
    look : {K : Kind} {n : CellName} {m : CellKind → Prog K} {acts : List Act}
        {r : Result (Of K) Stop} (k : CellKind) →
        Allows fixed K (m k) acts r → Allows fixed K (Look n m) (looked n k ∷ acts) r
    put : {K : Kind} {p : Place} {a : Answer} {m : Prog K} {acts : List Act}
        {r : Result (Of K) Stop} →
        Allows fixed K m acts r → Allows fixed K (Put p a m) (placed p a ∷ acts) r
    make : {K : Kind} {k : CellKind} {m : CellName → Prog K} {acts : List Act}
        {r : Result (Of K) Stop} (n : CellName) →
        Allows fixed K (m n) acts r → Allows fixed K (Make k m) (made n k ∷ acts) r
    charge : {K : Kind} {n : ℕ} {m : Prog K} {acts : List Act} {r : Result (Of K) Stop} →
        Allows fixed K m acts r → Allows fixed K (Charge n m) (charged n ∷ acts) r
    charge_refused : {K : Kind} {n : ℕ} {m : Prog K} →
        Allows fixed K (Charge n m) (not_charged n ∷ []) (Err (stop.Fault fault.Weight))
    tick : {K : Kind} {n : ℕ} {m : Prog K} {acts : List Act} {r : Result (Of K) Stop} →
        Allows fixed K m acts r → Allows fixed K (Tick n m) (ticked n ∷ acts) r
    tick_refused : {K : Kind} {n : ℕ} {m : Prog K} →
        Allows fixed K (Tick n m) (not_ticked n ∷ []) (Err (stop.Fault fault.Steps))
    enter : {K : Kind} {m : Prog K} {acts : List Act} {r : Result (Of K) Stop} → IsDone r →
        Allows fixed K m acts r → Allows fixed K (Enter m) (entered ∷ (acts ++ left ∷ [])) r
    enter_fault : {K : Kind} {m : Prog K} {acts : List Act} {f : RunFault} →
        Allows fixed K m acts (Err (stop.Fault f)) →
        Allows fixed K (Enter m) (entered ∷ acts) (Err (stop.Fault f))
    enter_refused : {K : Kind} {m : Prog K} →
        Allows fixed K (Enter m) (not_entered ∷ []) (Err (stop.Fault fault.Depth))
    write : {K : Kind} {t : Outward} {m : Prog K} {acts : List Act} {r : Result (Of K) Stop} →
        Allows fixed K m acts r → Allows fixed K (Write t m) (wrote t ∷ acts) r
    do_ok : {K J : Kind} {u : Task J} {x : Of J} {m : Of J → Prog K} {first rest : List Act}
        {r : Result (Of K) Stop} →
        Runs fixed J u first (Ok x) → Allows fixed K (m x) rest r →
        Allows fixed K (Do u m) (first ++ rest) r
    do_err : {K J : Kind} {u : Task J} {e : Stop} {m : Of J → Prog K} {acts : List Act} →
        Runs fixed J u acts (Err e) → Allows fixed K (Do u m) acts (Err e)
    catch_ok : {K J : Kind} {u : Task J} {x : Of J} {m : Result (Of J) Value → Prog K}
        {first rest : List Act} {r : Result (Of K) Stop} →
        Runs fixed J u first (Ok x) → Allows fixed K (m (Ok x)) rest r →
        Allows fixed K (Catch u m) (first ++ rest) r
    catch_thrown : {K J : Kind} {u : Task J} {x : Value} {m : Result (Of J) Value → Prog K}
        {first rest : List Act} {r : Result (Of K) Stop} →
        Runs fixed J u first (Err (stop.Throw x)) → Allows fixed K (m (Err x)) rest r →
        Allows fixed K (Catch u m) (first ++ rest) r
    catch_fault : {K J : Kind} {u : Task J} {f : RunFault} {m : Result (Of J) Value → Prog K}
        {acts : List Act} →
        Runs fixed J u acts (Err (stop.Fault f)) →
        Allows fixed K (Catch u m) acts (Err (stop.Fault f))

  pub data Runs (fixed : Fixed) : (K : Kind) → Task K → List Act → Result (Of K) Stop → Type 0 where
    by_rule : {K : Kind} {t : Task K} {acts : List Act} {r : Result (Of K) Stop} →
        Allows fixed K (rule fixed t) acts r → Runs fixed K t acts r
