use Rattle.std.proofs.Common.{◌∙◌}
use Rattle.crom_commands.specs.Checking.{count_line}
use Rattle.crom_commands.proofs.Checks.{shelf_failed, out_of_memory, fault_runs, line_runs, line_causes}
use Rattle.crom_commands.proofs.check.check.Goals as goal

-- ---- the scripts are counted

pub returns-in-Ok-clause-causes : goal.returns-in-Ok-clause-causes
returns-in-Ok-clause-causes g c input =
    line_causes (count_line c.in-Ok.count) (g.W.Sink.told c.args.output.now) (g.W.Sink.told c.write_count.new.output) (g.W.Sink.faults c.args.output.now) (g.W.Sink.faults c.write_count.new.output)
    c.write_count.result (g.F.Shelf.faults c.args.shelf.now) (g.F.Shelf.faults c.fetch.new.self) input (rw c.in-Ok-Bytes.field-0-is at c.in-Ok-Bytes.ensures.count) c.write_count.ensures

pub returns-in-Ok-clause-runs : goal.returns-in-Ok-clause-runs
returns-in-Ok-clause-runs g c input input' =
    let got = rw c.in-Ok-Bytes.field-0-is at c.in-Ok-Bytes.ensures.bytes in
    line_runs c.write_count.result c.as_slice.result.now c.in-Ok.count _ _ _ _ _ (λ bytes is. c.as_slice.ensures.value ∙ got bytes is) c.in-Ok.ensures.exactly c.write_count.ensures

-- ---- the page or a script is none

pub returns-clause-runs : goal.returns-clause-runs
returns-clause-runs g c input input' =
    let got = rw c.in-Ok-Bytes.field-0-is at c.in-Ok-Bytes.ensures.bytes in
    rw c.of_load.ensures (fault_runs c.in-Err-count_scripts.fault c.as_slice.result.now _ _ _ _ (λ bytes is. c.as_slice.ensures.value ∙ got bytes is) c.in-Err-count_scripts.ensures.exactly)

-- ---- the page wasn't fetched

pub returns-in-Ok-Failed-clause-runs : goal.returns-in-Ok-Failed-clause-runs
returns-in-Ok-Failed-clause-runs g c input input' = shelf_failed _ _ _ _ (rw c.in-Ok-Failed.field-0-is at c.in-Ok-Failed.ensures.rose)

pub returns-in-Err-clause-runs : goal.returns-in-Err-clause-runs
returns-in-Err-clause-runs g c input input' = out_of_memory _ _ _ _
