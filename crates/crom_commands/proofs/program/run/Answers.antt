use Rattle.crom_commands.proofs.Commands.{stdio_at, check_at, same_stdio, same_check, never_usage, stdio_or_check, check_or_none, check_or_stdio}
use Rattle.crom_commands.proofs.program.run.Goals as goal

-- ---- the page is served

pub returns-in-Some-Stdio-clause-stdio : goal.returns-in-Some-Stdio-clause-stdio
returns-in-Some-Stdio-clause-stdio g c name is =
    let given = rw c.in-Some-Stdio.field-0-is at c.in-Some-Stdio.ensures in
    stdio_at _ (g.F.Shelf.file c.args.shelf.now) c.in-Some-Stdio.name.now name _ _ _ _ _ _ (same_stdio _ c.in-Some-Stdio.name.now name given is) c.stdio.ensures.runs

pub returns-in-Some-Stdio-clause-check : goal.returns-in-Some-Stdio-clause-check
returns-in-Some-Stdio-clause-check g c name is =
    let given = rw c.in-Some-Stdio.field-0-is at c.in-Some-Stdio.ensures in
    absurd (stdio_or_check _ c.in-Some-Stdio.name.now name given is)

pub returns-in-Some-Stdio-clause-unread : goal.returns-in-Some-Stdio-clause-unread
returns-in-Some-Stdio-clause-unread g c name is =
    let given = rw c.in-Some-Stdio.field-0-is at c.in-Some-Stdio.ensures in
    absurd (stdio_or_check _ c.in-Some-Stdio.name.now name given is)

-- ---- the page is checked

pub returns-in-Some-Check-clause-usage : goal.returns-in-Some-Check-clause-usage
returns-in-Some-Check-clause-usage g c =
    let given = rw c.in-Some-Check.field-0-is at c.in-Some-Check.ensures in
    let runs = c.check.ensures.runs 0 0 in
    (λ usage. absurd (never_usage _ runs.ends usage), λ none. absurd (check_or_none _ c.in-Some-Check.name.now c.in-Some-Check.name.now given none))

pub returns-in-Some-Check-clause-causes : goal.returns-in-Some-Check-clause-causes
returns-in-Some-Check-clause-causes g c = c.check.ensures.causes _

pub returns-in-Some-Check-clause-stdio : goal.returns-in-Some-Check-clause-stdio
returns-in-Some-Check-clause-stdio g c name is =
    let given = rw c.in-Some-Check.field-0-is at c.in-Some-Check.ensures in
    absurd (check_or_stdio _ c.in-Some-Check.name.now name given is)

pub returns-in-Some-Check-clause-check : goal.returns-in-Some-Check-clause-check
returns-in-Some-Check-clause-check g c name is =
    let given = rw c.in-Some-Check.field-0-is at c.in-Some-Check.ensures in
    check_at _ (g.F.Shelf.file c.args.shelf.now) c.in-Some-Check.name.now name _ _ _ _ (same_check _ c.in-Some-Check.name.now name given is) (c.check.ensures.runs _ _)
