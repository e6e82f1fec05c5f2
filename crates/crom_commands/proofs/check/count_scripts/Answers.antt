use Rattle.std.proofs.Common.{◌≡◌, ◌∙◌, pos, length, ap, arith}
use Rattle.page_units.specs.declared.limits.Limit.TheVariants.{Weight}
use Rattle.cell_places.specs.Heap.{Heap, children_at, weight_left}
use Rattle.cell_places.specs.Known.{document_cell}
use Rattle.cell_places.specs.Start.{start}
use Rattle.cell_heap.specs.Base.{heap_of}
use Rattle.crom_commands.proofs.Counting.{counted, none_counted}
use Rattle.crom_commands.proofs.check.count_scripts.Goals as goal

pub read_scripts-requires-clause-room : goal.read_scripts-requires-clause-room
read_scripts-requires-clause-room c =
    let weight : c.number.result ≡ 2000000 = c.number.ensures ∙ c.default-limits.ensures Weight in
    let long : length (heap_of c.in_ok-base.base).kinds ≡ 128 = ap (λ (H : Heap). length H.kinds) c.in_ok-base.ensures.start in
    let left : weight_left (heap_of c.in_ok-base.base) ≡ weight_left (start c.number.result (pos 0)) = ap weight_left c.in_ok-base.ensures.start in
    omega (arith, weight, long, left)

pub read_scripts-requires-clause-sound : goal.read_scripts-requires-clause-sound
read_scripts-requires-clause-sound c = (0, c.in_ok-base.ensures.sound 0)

pub read_scripts-requires-clause-empty : goal.read_scripts-requires-clause-empty
read_scripts-requires-clause-empty c = ap (λ (H : Heap). children_at H document_cell) c.in_ok-base.ensures.start

-- each script has a program
pub returns-in-Ok : goal.returns-in-Ok
returns-in-Ok c =
    let long : length c.in-Ok.programs.items ≡ c.len.result = omega (arith, c.in-Ok.programs.ok, c.len.ensures) in
    record { exactly = counted c.args.page.now c.in-Ok.programs.items c.len.result c.in-Ok.ensures.exactly long }

-- the page or a script is none
pub returns : goal.returns
returns c = record { exactly = none_counted c.args.page.now c.in-Err.fault c.in-Err.ensures.exactly }
