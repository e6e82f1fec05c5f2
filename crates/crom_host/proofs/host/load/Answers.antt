use Rattle.std.proofs.Common.{◌≡◌, ◌≤◌, ◌∙◌, ℕ, pos, [], length, ap, arith}
use Rattle.std.proofs.lemmas.Grind.{common_steps}
use Rattle.cell_places.specs.Heap.{Heap, children_at, weight_left}
use Rattle.cell_places.specs.Known.{document_cell}
use Rattle.cell_places.specs.Start.{start}
use Rattle.cell_heap.specs.Base.{heap_of}
use Rattle.page_units.specs.declared.limits.Limit.TheVariants.{Weight, SpecSteps}
use Rattle.page_units.specs.declared.limits.Limits.{Limits}
use Rattle.page_units.specs.LimitsOf.{number_of}
use Rattle.crom_host.specs.Plain.{settings_of}
use Rattle.crom_host.proofs.Hosting.{ready, scripted, no_program, fault_says, fault_ready, fault_only}
use Rattle.crom_host.proofs.host.load.Goals as goal

another : Weight ≡ SpecSteps → ⊥
another e = cc

-- the limit of the weight is at most its default
weight_fits : (limits : Limits) → number_of limits Weight ≤ 2000000
weight_fits limits = limits.kept.at_most Weight another

pub start-requires-clause-weight : goal.start-requires-clause-weight
start-requires-clause-weight c = omega (arith, c.number.ensures, weight_fits c.args.limits.now)

pub read_scripts-requires-clause-room : goal.read_scripts-requires-clause-room
read_scripts-requires-clause-room c =
    let long : length (heap_of c.in_ok-base.base).kinds ≡ 128 = ap (λ (H : Heap). length H.kinds) c.in_ok-base.ensures.start in
    let left : weight_left (heap_of c.in_ok-base.base) ≡ weight_left (start c.number.result (pos 0)) = ap weight_left c.in_ok-base.ensures.start in
    omega (arith, c.number.ensures, weight_fits c.args.limits.now, long, left)

pub read_scripts-requires-clause-sound : goal.read_scripts-requires-clause-sound
read_scripts-requires-clause-sound c = (0, c.in_ok-base.ensures.sound 0)

pub read_scripts-requires-clause-empty : goal.read_scripts-requires-clause-empty
read_scripts-requires-clause-empty c = ap (λ (H : Heap). children_at H document_cell) c.in_ok-base.ensures.start

-- ---- the page or a script is none

pub returns-in-Err-clause-says : goal.returns-in-Err-clause-says
returns-in-Err-clause-says c = fault_says c.args.page.now (settings_of c.args.limits.now) c.in-Err.fault c.in-Err.ensures.exactly

pub returns-in-Err-clause-only : goal.returns-in-Err-clause-only
returns-in-Err-clause-only c trees page = fault_ready c.args.page.now trees c.in-Err.fault c.in-Err.ensures.exactly page

pub returns-in-Err-clause-only_fault : goal.returns-in-Err-clause-only_fault
returns-in-Err-clause-only_fault c shown shows = fault_only c.args.page.now c.in-Err.fault shown c.in-Err.ensures.exactly shows

-- ---- there is no script

pub returns-then-is_empty-clause-says : goal.returns-then-is_empty-clause-says
returns-then-is_empty-clause-says c =
    let none : c.in-Ok.programs.items ≡ [] = grind (arith, common_steps, c.is_empty.ensures, c.if-is_empty.true) in
    let begins = c.in_ok-base.ensures.start ∙ ap (λ (weight : ℕ). start weight (pos 0)) c.number.ensures in
    (ready (settings_of c.args.limits.now) _ _ _ _ c.in-Ok.ensures.loaded none begins, c.in-Ok.ensures.sound 0 (c.in_ok-base.ensures.sound 0))

pub returns-then-is_empty-clause-only_fault : goal.returns-then-is_empty-clause-only_fault
returns-then-is_empty-clause-only_fault c shown shows = c.in-Ok.ensures.exactly.only_fault shown shows

-- ---- there is one

pub returns-else-is_empty-clause-says : goal.returns-else-is_empty-clause-says
returns-else-is_empty-clause-says c =
    scripted _ _ c.in-Ok.ensures.exactly.found (λ (none : c.in-Ok.programs.items ≡ []). absurd (grind (arith, common_steps, c.is_empty.ensures, c.if-is_empty.false, none)))

pub returns-else-is_empty-clause-only : goal.returns-else-is_empty-clause-only
returns-else-is_empty-clause-only c trees page =
    let none : c.in-Ok.programs.items ≡ [] = c.in-Ok.ensures.exactly.only [] (no_program _ trees page) in
    absurd (grind (arith, common_steps, c.is_empty.ensures, c.if-is_empty.false, none))

pub returns-else-is_empty-clause-only_fault : goal.returns-else-is_empty-clause-only_fault
returns-else-is_empty-clause-only_fault c shown shows = c.in-Ok.ensures.exactly.only_fault shown shows
