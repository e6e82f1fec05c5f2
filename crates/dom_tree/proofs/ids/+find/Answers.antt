use Rattle.std.proofs.Common.{◌∙◌, ◌+◌, ap, sym, subst, [], ◌∷◌, get_or, arith, List, ◌≤◌}
use Rattle.std.proofs.lemmas.Result.{IfOk-weaker}
use Rattle.page_units.specs.declared.value.CellName.{CellName}
use Rattle.cell_places.specs.declared.place.Slot.TheVariants.{Children}
use Rattle.cell_places.specs.Heap.{cell, place}
use Rattle.cell_places.specs.Valid.{CanAsk}
use Rattle.cell_places.specs.View.{heap}
use Rattle.cell_places.proofs.Runs.{Still-refl, Still-trans, Still-heap}
use Rattle.dom_tree.specs.Ids.{InTreeOrder}
use Rattle.dom_tree.specs.Searched.{CanSearch, Searched}
use Rattle.tree_shape.proofs.Asking.{still_on, still_back}
use Rattle.tree_shape.proofs.Nodes.{children_still}
use Rattle.dom_tree.proofs.Searching.{start, next_can, next_going, next_found, none_found}
use Rattle.dom_tree.proofs.NodeSearch.{element_is, element_parent, other_searched, here_searched, below_searched, children_can}
use Rattle.dom_tree.proofs.ids.+find.Goals as goal

-- ---- siblings

pub find_among-loop-node-init : goal.find_among-loop-node-init
find_among-loop-node-init g t c =
    record { still = Still-refl _; going = start (heap (g.C.Cells.seen c.args.cells.now)) c.args.id.now (g.C.Cells.seen c.args.cells.now) c.args.nodes.now c.args.visited.now c.requires.ready }

pub find_among-find_at-requires : goal.find_among-find_at-requires
find_among-find_at-requires g t c κs within =
    let old = g.C.Cells.seen c.args.cells.now in
    let one = g.C.Cells.seen c.loop-node.cells in
    let node = get_or c.args.nodes.now c.loop-node.node-index (cell 0) in
    let ready : CanSearch (heap one) (node ∷ []) c.loop-node.visited =
    still_on (λ G. CanSearch G (node ∷ []) c.loop-node.visited) old one c.loop-node.invariant.still
    (next_can (heap old) c.args.id.now old one c.args.nodes.now c.loop-node.node-index c.args.visited.now c.loop-node.visited (cell 0) c.loop-node-test.true c.requires.ready c.loop-node.invariant.going) in
    let grown : c.args.visited.now ≤ c.loop-node.visited = c.loop-node.invariant.going.grown in
    (omega (arith, grown), (within, (c.requires.attribute, ready)))

pub find_among-returns-in_err-found-clause-still : goal.find_among-returns-in_err-found-clause-still
find_among-returns-in_err-found-clause-still g t c = Still-trans _ _ _ c.loop-node.invariant.still c.find_at.ensures.still

pub find_among-returns-then-is_some-clause-found : goal.find_among-returns-then-is_some-clause-found
find_among-returns-then-is_some-clause-found g t c =
    let old = g.C.Cells.seen c.args.cells.now in
    let one = g.C.Cells.seen c.loop-node.cells in
    let two = g.C.Cells.seen c.find_at.new.cells in
    let node = get_or c.args.nodes.now c.loop-node.node-index (cell 0) in
    next_found (heap old) c.args.id.now old one two c.args.nodes.now c.loop-node.node-index c.args.visited.now c.loop-node.visited c.find_at.new.visited (cell 0) c.in_ok-found.found c.loop-node-test.true c.loop-node.invariant.going
    (sym c.is_some.ensures ∙ c.if-is_some.true)
    (still_back (λ G. (nodes : List CellName) → InTreeOrder G (node ∷ []) nodes → Searched G c.args.id.now one two nodes c.in_ok-found.found c.loop-node.visited c.find_at.new.visited) old one c.loop-node.invariant.still c.in_ok-found.ensures.found)

pub find_among-returns-then-is_some-clause-still : goal.find_among-returns-then-is_some-clause-still
find_among-returns-then-is_some-clause-still g t c = Still-trans _ _ _ c.loop-node.invariant.still c.find_at.ensures.still

pub find_among-loop-node-preserved : goal.find_among-loop-node-preserved
find_among-loop-node-preserved g t c =
    let old = g.C.Cells.seen c.args.cells.now in
    let one = g.C.Cells.seen c.loop-node.cells in
    let two = g.C.Cells.seen c.find_at.new.cells in
    let node = get_or c.args.nodes.now c.loop-node.node-index (cell 0) in
    record {
      still = Still-trans _ _ _ c.loop-node.invariant.still c.find_at.ensures.still;
      going = next_going (heap old) c.args.id.now old one two c.args.nodes.now c.loop-node.node-index c.args.visited.now c.loop-node.visited c.find_at.new.visited (cell 0) c.in_ok-found.found c.loop-node-test.true c.loop-node.invariant.going
          (sym c.is_some.ensures ∙ c.if-is_some.false)
          (still_back (λ G. (nodes : List CellName) → InTreeOrder G (node ∷ []) nodes → Searched G c.args.id.now one two nodes c.in_ok-found.found c.loop-node.visited c.find_at.new.visited) old one c.loop-node.invariant.still c.in_ok-found.ensures.found);
    }

pub find_among-returns-clause-found : goal.find_among-returns-clause-found
find_among-returns-clause-found g t c =
    none_found (heap (g.C.Cells.seen c.args.cells.now)) c.args.id.now (g.C.Cells.seen c.args.cells.now) (g.C.Cells.seen c.loop-node.cells) c.args.nodes.now c.loop-node.node-index c.args.visited.now c.loop-node.visited c.loop-node-test.false c.loop-node.invariant.going

-- ---- one node

pub find_at-returns-then-not-is_element-clause-found : goal.find_at-returns-then-not-is_element-clause-found
find_at-returns-then-not-is_element-clause-found g t c =
    let old = g.C.Cells.seen c.args.cells.now in
    other_searched (heap old) c.args.id.now old c.args.node c.args.visited.now
    (element_is (heap old) c.args.node c.kind_of.result.now c.is_element.result _ c.kind_of.ensures c.is_element.ensures c.if-not-is_element.true)

pub find_at-returns-then-not-is_element-clause-still : goal.find_at-returns-then-not-is_element-clause-still
find_at-returns-then-not-is_element-clause-still g t c = Still-refl _

pub find_at-returns-in_err-name-clause-still : goal.find_at-returns-in_err-name-clause-still
find_at-returns-in_err-name-clause-still g t c = Still-refl _

pub find_at-returns-then-is_text-clause-found : goal.find_at-returns-then-is_text-clause-found
find_at-returns-then-is_text-clause-found g t c =
    let old = g.C.Cells.seen c.args.cells.now in
    here_searched (heap old) c.args.id.now old (g.C.Cells.seen c.answer_at.new.cells) c.args.node c.args.visited.now c.in_ok-name.name c.in_ok-answer.answer c.is_text.result
    (element_is (heap old) c.args.node c.kind_of.result.now c.is_element.result _ c.kind_of.ensures c.is_element.ensures c.if-not-is_element.false)
    (c.in_ok-name.ensures.cases ∙ c.requires.attribute) c.in_ok-answer.ensures.answer c.in_ok-answer.ensures.asks c.is_text.ensures c.if-is_text.true

pub find_at-answer_at-requires-2 : goal.find_at-answer_at-requires-2
find_at-answer_at-requires-2 g t c =
    still_on (λ H. CanAsk H (place c.args.node Children)) (g.C.Cells.seen c.args.cells.now) (g.C.Cells.seen c.answer_at.new.cells) c.answer_at.ensures.still
    (c.kind_of.result.now, c.kind_of.ensures, element_parent c.kind_of.result.now c.is_element.result c.is_element.ensures c.if-not-is_element.false)

pub find_at-returns-in_err-answer-2-clause-still : goal.find_at-returns-in_err-answer-2-clause-still
find_at-returns-in_err-answer-2-clause-still g t c = Still-trans _ _ _ c.answer_at.ensures.still c.answer_at-2.ensures.still

pub find_at-find_among-requires : goal.find_at-find_among-requires
find_at-find_among-requires g t c κs within =
    let old = g.C.Cells.seen c.args.cells.now in
    let one = g.C.Cells.seen c.answer_at.new.cells in
    let two = g.C.Cells.seen c.answer_at-2.new.cells in
    let cells = c.cells.result.now in
    let same = children_still old one c.args.node cells c.in_ok-answer-2.answer c.answer_at.ensures.still c.cells.ensures c.in_ok-answer-2.ensures.answer in
    let can = children_can (heap old) c.args.node c.args.visited.now c.requires.ready
    (element_is (heap old) c.args.node c.kind_of.result.now c.is_element.result _ c.kind_of.ensures c.is_element.ensures c.if-not-is_element.false) in
    let ready : CanSearch (heap two) cells (c.args.visited.now + 1) =
    still_on (λ G. CanSearch G cells (c.args.visited.now + 1)) old two (Still-trans old one two c.answer_at.ensures.still c.answer_at-2.ensures.still)
    (subst (λ xs. CanSearch (heap old) xs (c.args.visited.now + 1)) (sym same) can.1) in
    let room = can.0 in
    (omega (arith, room), (within, (c.requires.attribute, ready)))

pub find_at-returns-clause-found : goal.find_at-returns-clause-found
find_at-returns-clause-found g t c =
    let old = g.C.Cells.seen c.args.cells.now in
    let one = g.C.Cells.seen c.answer_at.new.cells in
    let two = g.C.Cells.seen c.answer_at-2.new.cells in
    let last = g.C.Cells.seen c.find_among.new.cells in
    let count = c.args.visited.now in
    let cells = c.cells.result.now in
    let same = children_still old one c.args.node cells c.in_ok-answer-2.answer c.answer_at.ensures.still c.cells.ensures c.in_ok-answer-2.ensures.answer in
    IfOk-weaker c.find_among.result _ _
    (λ found says. below_searched (heap old) c.args.id.now old one two last c.args.node found count c.find_among.new.visited c.in_ok-name.name c.in_ok-answer.answer c.in_ok-answer-2.answer c.is_text.result
    (element_is (heap old) c.args.node c.kind_of.result.now c.is_element.result _ c.kind_of.ensures c.is_element.ensures c.if-not-is_element.false)
    (c.in_ok-name.ensures.cases ∙ c.requires.attribute) c.in_ok-answer.ensures.answer c.in_ok-answer.ensures.asks c.is_text.ensures c.if-is_text.false
    (c.in_ok-answer-2.ensures.answer ∙ ap (λ H. H.at (place c.args.node Children)) (Still-heap old one c.answer_at.ensures.still)) c.in_ok-answer-2.ensures.asks
    (subst (λ xs. (nodes : List CellName) → InTreeOrder (heap old) xs nodes → Searched (heap old) c.args.id.now two last nodes found (count + 1) c.find_among.new.visited) same
    (still_back (λ G. (nodes : List CellName) → InTreeOrder G cells nodes → Searched G c.args.id.now two last nodes found (count + 1) c.find_among.new.visited) old two (Still-trans old one two c.answer_at.ensures.still c.answer_at-2.ensures.still) says)))
    c.find_among.ensures.found

pub find_at-returns-clause-still : goal.find_at-returns-clause-still
find_at-returns-clause-still g t c = Still-trans _ _ _ c.answer_at.ensures.still (Still-trans _ _ _ c.answer_at-2.ensures.still c.find_among.ensures.still)
