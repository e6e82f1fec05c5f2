-- What a rule does to a world: the evaluation relation, over all that a call may change (this project's own).
use Rattle.std.specs.Prelude.{◌≡◌, ℕ, ◌+◌, ◌-◌, ◌<◌, ◌≤◌, Result, Ok, Err}
use Rattle.page_units.specs.declared.value.CellName.{CellName}
use Rattle.page_units.specs.declared.value.Value.{Value}
use Rattle.page_units.specs.declared.fault.RunFault.{RunFault}
use Rattle.page_units.specs.declared.fault.RunFault.TheVariants as fault
use Rattle.cell_places.specs.declared.place.Place.{Place}
use Rattle.cell_places.specs.declared.answer.Answer.{Answer}
use Rattle.cell_places.specs.declared.kind.CellKind.{CellKind}
use Rattle.cell_places.specs.Heap.{kind_at, next}
use Rattle.cell_places.specs.View.{View, heap, Lapsed}
use Rattle.cell_places.specs.Acts.{asked, placed, made, charged, ticked, wrote}
use Rattle.js_rules.specs.declared.stop.Stop.{Stop}
use Rattle.js_rules.specs.declared.stop.Stop.TheVariants as stop
use Rattle.js_rules.specs.Fixed.{Fixed}
use Rattle.js_rules.specs.World.{World, world, acted}
use Rattle.js_rules.specs.Tasks.{Kind, Of, Task}
use Rattle.js_rules.specs.Prog.{Prog, Ret, Throw, Ask, Look, Put, Make, Charge, Tick, Enter, Write, Do, Catch}
use Rattle.js_rules.specs.Rules.{rule}
use Rattle.cell_places.specs.Outward.{Outward}

-- With the depth d left, a text (Does) or a task (Evaluates) goes from one world to another and ends so. A
-- tick, a charge or an enter is refused exactly where it would pass its bound, and then nothing more is done.
mutual
  pub data Does (fixed : Fixed) : ℕ → (K : Kind) → Prog K → World → World → Result (Of K) Stop →
      Type 0 where
    ret : {d : ℕ} {K : Kind} {x : Of K} {old new : World} {r : Result (Of K) Stop} → r ≡ Ok x →
        new ≡ old → Does fixed d K (Ret x) old new r
    throw : {d : ℕ} {K : Kind} {x : Value} {old new : World} {r : Result (Of K) Stop} →
        r ≡ Err (stop.Throw x) → new ≡ old → Does fixed d K (Throw x) old new r
    ask : {d : ℕ} {K : Kind} {p : Place} {m : Answer → Prog K} {old new : World}
        {r : Result (Of K) Stop} →
        Does fixed d K (m ((heap old.seen).at p)) (acted (asked p ((heap old.seen).at p)) old) new r →
        Does fixed d K (Ask p m) old new r
    look : {d : ℕ} {K : Kind} {n : CellName} {m : CellKind → Prog K} {old new : World}
        {r : Result (Of K) Stop} →
        Does fixed d K (m (kind_at (heap old.seen) n)) old new r →
        Does fixed d K (Look n m) old new r
    put : {d : ℕ} {K : Kind} {p : Place} {a : Answer} {m : Prog K} {old new : World}
        {r : Result (Of K) Stop} →
        Does fixed d K m (acted (placed p a) old) new r → Does fixed d K (Put p a m) old new r
    make : {d : ℕ} {K : Kind} {k : CellKind} {m : CellName → Prog K} {old new : World}
        {r : Result (Of K) Stop} →
        Does fixed d K (m (next (heap old.seen))) (acted (made (next (heap old.seen)) k) old) new r →
        Does fixed d K (Make k m) old new r
    charge : {d : ℕ} {K : Kind} {n : ℕ} {m : Prog K} {old new : World} {r : Result (Of K) Stop} →
        (heap old.seen).spent + n ≤ (heap old.seen).limit →
        Does fixed d K m (acted (charged n) old) new r → Does fixed d K (Charge n m) old new r
    charge_refused : {d : ℕ} {K : Kind} {n : ℕ} {m : Prog K} {old new : World}
        {r : Result (Of K) Stop} →
        (heap old.seen).limit < (heap old.seen).spent + n → r ≡ Err (stop.Fault fault.Weight) →
        new ≡ old → Does fixed d K (Charge n m) old new r
    tick : {d : ℕ} {K : Kind} {n : ℕ} {m : Prog K} {old new : World} {r : Result (Of K) Stop} →
        old.meter.used + n ≤ old.meter.bound → Does fixed d K m (acted (ticked n) old) new r →
        Does fixed d K (Tick n m) old new r
    tick_refused : {d : ℕ} {K : Kind} {n : ℕ} {m : Prog K} {old new : World}
        {r : Result (Of K) Stop} →
        old.meter.bound < old.meter.used + n → r ≡ Err (stop.Fault fault.Steps) → new ≡ old →
        Does fixed d K (Tick n m) old new r
    enter : {d : ℕ} {K : Kind} {m : Prog K} {old new : World} {r : Result (Of K) Stop} →
        0 < d → Does fixed (d - 1) K m old new r → Does fixed d K (Enter m) old new r
    enter_refused : {d : ℕ} {K : Kind} {m : Prog K} {old new : World} {r : Result (Of K) Stop} →
        d ≡ 0 → r ≡ Err (stop.Fault fault.Depth) → new ≡ old → Does fixed d K (Enter m) old new r
    write : {d : ℕ} {K : Kind} {t : Outward} {m : Prog K} {old new : World}
        {r : Result (Of K) Stop} →
        Does fixed d K m (acted (wrote t) old) new r → Does fixed d K (Write t m) old new r
    do_ok : {d : ℕ} {K J : Kind} {u : Task J} {x : Of J} {m : Of J → Prog K} {old mid new : World}
        {r : Result (Of K) Stop} →
        Evaluates fixed d J u old mid (Ok x) → Does fixed d K (m x) mid new r →
        Does fixed d K (Do u m) old new r
    do_err : {d : ℕ} {K J : Kind} {u : Task J} {e : Stop} {m : Of J → Prog K} {old new : World}
        {r : Result (Of K) Stop} →
        Evaluates fixed d J u old new (Err e) → r ≡ Err e → Does fixed d K (Do u m) old new r
    catch_ok : {d : ℕ} {K J : Kind} {u : Task J} {x : Of J} {m : Result (Of J) Value → Prog K}
        {old mid new : World} {r : Result (Of K) Stop} →
        Evaluates fixed d J u old mid (Ok x) → Does fixed d K (m (Ok x)) mid new r →
        Does fixed d K (Catch u m) old new r
    catch_thrown : {d : ℕ} {K J : Kind} {u : Task J} {x : Value} {m : Result (Of J) Value → Prog K}
        {old mid new : World} {r : Result (Of K) Stop} →
        Evaluates fixed d J u old mid (Err (stop.Throw x)) → Does fixed d K (m (Err x)) mid new r →
        Does fixed d K (Catch u m) old new r
    catch_fault : {d : ℕ} {K J : Kind} {u : Task J} {f : RunFault}
        {m : Result (Of J) Value → Prog K} {old new : World} {r : Result (Of K) Stop} →
        Evaluates fixed d J u old new (Err (stop.Fault f)) → r ≡ Err (stop.Fault f) →
        Does fixed d K (Catch u m) old new r
    -- it may be out of memory before any act, and then nothing more is done
    memory : {d : ℕ} {K : Kind} {m : Prog K} {old new : World} {r : Result (Of K) Stop} →
        r ≡ Err (stop.Fault fault.NoMemory) → new ≡ old → Does fixed d K m old new r
    -- or within an ask, which may have been recorded in what lies beneath
    lapse : {d : ℕ} {K : Kind} {p : Place} {m : Answer → Prog K} {old new : World} {v : View}
        {r : Result (Of K) Stop} →
        r ≡ Err (stop.Fault fault.NoMemory) → Lapsed old.seen v p →
        new ≡ world v old.meter old.sent old.told → Does fixed d K (Ask p m) old new r

  pub data Evaluates (fixed : Fixed) : ℕ → (K : Kind) → Task K → World → World →
      Result (Of K) Stop → Type 0 where
    by_rule : {d : ℕ} {K : Kind} {t : Task K} {old new : World} {r : Result (Of K) Stop} →
        Does fixed d K (rule fixed t) old new r → Evaluates fixed d K t old new r
