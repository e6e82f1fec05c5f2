use Rattle.std.proofs.Common.{◌≡◌, ◌∙◌, ◌+◌, ◌≤◌, ℕ, [], length, sym, subst}
use Rattle.page_units.specs.declared.limits.Limit.TheVariants.{Served}
use Rattle.cell_heap.specs.Base.{heap_of}
use Rattle.crom_host.specs.Plain.{Settings, settings_of, default_settings, hosted, Loads}
use Rattle.crom_host.specs.Stream.{Streamed}
use Rattle.crom_commands.proofs.Defaults.{default_so}
use Rattle.crom_commands.proofs.Serving.{causes_of, shelf_failed, out_of_memory, scripted_runs, fault_runs, served_runs}
use Rattle.crom_commands.proofs.stdio.stdio.Goals as goal

-- ---- the page wasn't fetched

pub returns-in-Ok-Failed-clause-runs : goal.returns-in-Ok-Failed-clause-runs
returns-in-Ok-Failed-clause-runs g c = shelf_failed _ _ _ _ _ (rw c.in-Ok-Failed.field-0-is at c.in-Ok-Failed.ensures.rose)

pub returns-in-Err-clause-runs : goal.returns-in-Err-clause-runs
returns-in-Err-clause-runs g c = out_of_memory _ _ _ _ _

-- ---- the page has a script

pub returns-in-Ok-HasScripts-clause-runs : goal.returns-in-Ok-HasScripts-clause-runs
returns-in-Ok-HasScripts-clause-runs g c =
    let got = rw c.in-Ok-Bytes.field-0-is at c.in-Ok-Bytes.ensures.bytes in
    let says = rw c.in-Ok-HasScripts.field-0-is at c.in-Ok-HasScripts.ensures.says in
    let only = rw c.in-Ok-HasScripts.field-0-is at c.in-Ok-HasScripts.ensures.only in
    scripted_runs _ _ _ _ _ c.as_slice.result.now (λ bytes is. c.as_slice.ensures.value ∙ got bytes is) says only c.in-Ok-HasScripts.ensures.only_fault

-- ---- the page wasn't loaded

pub returns-in-Err-load-clause-runs : goal.returns-in-Err-load-clause-runs
returns-in-Err-load-clause-runs g c =
    let got = rw c.in-Ok-Bytes.field-0-is at c.in-Ok-Bytes.ensures.bytes in
    rw c.of_load.ensures (fault_runs _ _ _ _ _ c.as_slice.result.now (λ bytes is. c.as_slice.ensures.value ∙ got bytes is) c.in-Err-load.fault _ c.in-Err-load.ensures.says c.in-Err-load.ensures.only c.in-Err-load.ensures.only_fault)

-- ---- the page is loaded

pub returns-clause-causes : goal.returns-clause-causes
returns-clause-causes g c =
    let same = rw c.in-Ok-Bytes.field-0-is at c.in-Ok-Bytes.ensures.count in
    rw c.status_of.ensures (causes_of c.serve_stream.result _ _ _ _ _ _ same c.serve_stream.ensures.causes)

pub returns-clause-runs : goal.returns-clause-runs
returns-clause-runs g c =
    let got = rw c.in-Ok-Bytes.field-0-is at c.in-Ok-Bytes.ensures.bytes in
    let says = rw c.in-Ok-Ready.field-0-is at c.in-Ok-Ready.ensures.says in
    let same : settings_of c.default-limits.result ≡ default_settings = default_so c.default-limits.result c.default-limits.ensures in
    let start = heap_of c.in-Ok-Ready.base in
    let last = heap_of c.serve_stream.new.base in
    let loads : Loads default_settings c.as_slice.result.now start = subst (λ (s : Settings). Loads s c.as_slice.result.now start) same says.0 in
    rw c.status_of.ensures (served_runs _ _ _ _ _ c.as_slice.result.now (λ bytes is. c.as_slice.ensures.value ∙ got bytes is) c.serve_stream.result _ _ start last c.serve_stream.new.served loads c.in-Ok-Ready.ensures.only_fault c.serve_stream.ensures.causes
    (λ bytes before is out.
    let s = c.serve_stream.ensures.stream bytes before is out in
    (s.0, s.1, subst (λ (z : Settings). Streamed c.serve_stream.result z (hosted start) (hosted last) 0 c.serve_stream.new.served bytes [] [] s.0 (g.S.Source.left c.serve_stream.new.source)) same s.2))
    (λ bytes requests is whole few. c.serve_stream.ensures.whole bytes requests is whole (subst (λ (most : ℕ). 0 + length requests ≤ most) (sym (c.default-limits.ensures Served)) few)))
