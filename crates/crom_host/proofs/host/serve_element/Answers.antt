use Rattle.std.proofs.Common.{◌≡◌, Option, subst}
use Rattle.std.proofs.lemmas.Result.{IfOk-weaker}
use Rattle.page_units.specs.declared.value.CellName.{CellName}
use Rattle.cell_places.specs.Heap.{Heap}
use Rattle.cell_places.specs.View.{ground, uncounted}
use Rattle.cell_places.proofs.Runs.{Still-heap}
use Rattle.cell_heap.specs.Base.{heap_of}
use Rattle.dom_tree.specs.Ids.{Finds}
use Rattle.http_wire.specs.Refusal.TheVariants.{NoTarget}
use Rattle.crom_host.specs.Replying.{refused}
use Rattle.crom_host.specs.Plain as p
use Rattle.crom_host.specs.Plain.{settings_of, Serves}
use Rattle.crom_host.proofs.Replied.{is_of}
use Rattle.crom_host.proofs.host.serve_element.Goals as goal

pub returns-in-Some-clause-step : goal.returns-in-Some-clause-step
returns-in-Some-clause-step c =
    let H : Heap = heap_of c.args.base.now in
    let H' : Heap = heap_of c.element_by_id.new.cells in
    let same : H' ≡ H = Still-heap (ground H uncounted) (ground H' uncounted) c.in_ok-element.ensures.still in
    let finds = c.in_ok-element.ensures.finds in
    let visited = c.in_ok-element.field-0.visited in
    let found = subst (λ (z : Option CellName). Finds H c.args.id.now z visited finds.0) c.in-Some.is finds.1 in
    IfOk-weaker c.serve.result _ _
    (λ reply s. (s.0, p.found c.in-Some.element visited finds.0 s.0 found (subst (λ (K : Heap). Serves (settings_of c.args.limits.now) K c.in-Some.element s.0) same s.1), s.2))
    c.serve.ensures.serves

pub returns-in-None-clause-step : goal.returns-in-None-clause-step
returns-in-None-clause-step c =
    let H : Heap = heap_of c.args.base.now in
    let finds = c.in_ok-element.ensures.finds in
    let visited = c.in_ok-element.field-0.visited in
    let none = subst (λ (z : Option CellName). Finds H c.args.id.now z visited finds.0) c.in-None.is finds.1 in
    let made = c.refusal_reply.ensures in
    IfOk-weaker c.refusal_reply.result _ _ (λ reply is. (refused NoTarget, p.none visited finds.0 none, is))
    (is_of c.refusal_reply.result (refused NoTarget) made.status made.html made.allow made.body)
