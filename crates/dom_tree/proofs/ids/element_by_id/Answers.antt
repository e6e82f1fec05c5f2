use Rattle.std.proofs.Common.{◌≡◌, ◌∙◌, ap, sym, subst, refl, List}
use Rattle.page_units.specs.declared.value.CellName.{CellName}
use Rattle.cell_places.specs.declared.kind.CellKind.TheVariants.{Document}
use Rattle.cell_places.specs.Heap.{cells_in, children_at}
use Rattle.cell_places.specs.Known.{document_cell}
use Rattle.cell_places.specs.View.{heap}
use Rattle.cell_places.proofs.Runs.{Still-refl, Still-trans}
use Rattle.dom_tree.specs.Ids.{InTreeOrder}
use Rattle.dom_tree.specs.Searched.{CanSearch, Searched}
use Rattle.tree_shape.proofs.Asking.{still_on, still_back}
use Rattle.dom_tree.proofs.SoundOrder.{document_kind, sound_search}
use Rattle.dom_tree.proofs.Finding.{id_empty, id_there, finds_nothing, finds_first, one_found, found_element}
use Rattle.dom_tree.proofs.ids.element_by_id.Goals as goal

-- ---- the empty id

pub returns-then-is_empty-clause-finds : goal.returns-then-is_empty-clause-finds
returns-then-is_empty-clause-finds g c =
    let old = g.C.Cells.seen c.args.cells.now in
    finds_nothing (heap old) c.args.id.now old (sound_search c.requires.sound.0 (heap old) c.requires.sound.1) (id_empty c.args.id.now c.is_empty.result c.is_empty.ensures c.if-is_empty.true)

pub returns-then-is_empty-clause-still : goal.returns-then-is_empty-clause-still
returns-then-is_empty-clause-still g c = Still-refl _

-- ---- others

pub returns-in_err-attribute-clause-one : goal.returns-in_err-attribute-clause-one
returns-in_err-attribute-clause-one g c = one_found _ _

pub returns-in_err-attribute-clause-still : goal.returns-in_err-attribute-clause-still
returns-in_err-attribute-clause-still g c = Still-refl _

pub answer_at-requires : goal.answer_at-requires
answer_at-requires g c = (Document, document_kind c.requires.sound.0 (heap (g.C.Cells.seen c.args.cells.now)) c.requires.sound.1, refl)

pub returns-in_err-answer-clause-one : goal.returns-in_err-answer-clause-one
returns-in_err-answer-clause-one g c = one_found _ _

pub find_among-requires-clause-ready : goal.find_among-requires-clause-ready
find_among-requires-clause-ready g c =
    let old = g.C.Cells.seen c.args.cells.now in
    let one = g.C.Cells.seen c.answer_at.new.cells in
    let cells = c.cells.result.now in
    let same : cells ≡ children_at (heap old) document_cell = c.cells.ensures ∙ ap cells_in c.in_ok-answer.ensures.answer in
    still_on (λ G. CanSearch G cells 0) old one c.answer_at.ensures.still
    (subst (λ xs. CanSearch (heap old) xs 0) (sym same) (sound_search c.requires.sound.0 (heap old) c.requires.sound.1))

pub returns-in_err-cell-clause-one : goal.returns-in_err-cell-clause-one
returns-in_err-cell-clause-one g c = one_found _ _

pub returns-in_err-cell-clause-still : goal.returns-in_err-cell-clause-still
returns-in_err-cell-clause-still g c = Still-trans _ _ _ c.answer_at.ensures.still c.find_among.ensures.still

pub returns-clause-finds : goal.returns-clause-finds
returns-clause-finds g c =
    let old = g.C.Cells.seen c.args.cells.now in
    let one = g.C.Cells.seen c.answer_at.new.cells in
    let last = g.C.Cells.seen c.find_among.new.cells in
    let count = c.find_among.new.visited in
    let cells = c.cells.result.now in
    let found = c.in_ok-cell.cell in
    let can = sound_search c.requires.sound.0 (heap old) c.requires.sound.1 in
    let same : cells ≡ children_at (heap old) document_cell = c.cells.ensures ∙ ap cells_in c.in_ok-answer.ensures.answer in
    let searched : Searched (heap old) c.args.id.now one last can.nodes found 0 count =
    still_back (λ G. (nodes : List CellName) → InTreeOrder G cells nodes → Searched G c.args.id.now one last nodes found 0 count) old one c.answer_at.ensures.still c.in_ok-cell.ensures.found
    can.nodes (subst (λ xs. InTreeOrder (heap old) xs can.nodes) (sym same) can.ordered) in
    finds_first (heap old) c.args.id.now old one last found count c.in_ok-answer.answer can (id_there c.args.id.now c.is_empty.result c.is_empty.ensures c.if-is_empty.false) c.in_ok-answer.ensures.answer c.in_ok-answer.ensures.asks searched

pub returns-clause-one : goal.returns-clause-one
returns-clause-one g c = one_found _ _

pub returns-clause-element : goal.returns-clause-element
returns-clause-element g c =
    let old = g.C.Cells.seen c.args.cells.now in
    let one = g.C.Cells.seen c.answer_at.new.cells in
    let last = g.C.Cells.seen c.find_among.new.cells in
    let count = c.find_among.new.visited in
    let cells = c.cells.result.now in
    let found = c.in_ok-cell.cell in
    let can = sound_search c.requires.sound.0 (heap old) c.requires.sound.1 in
    let same : cells ≡ children_at (heap old) document_cell = c.cells.ensures ∙ ap cells_in c.in_ok-answer.ensures.answer in
    let searched : Searched (heap old) c.args.id.now one last can.nodes found 0 count =
    still_back (λ G. (nodes : List CellName) → InTreeOrder G cells nodes → Searched G c.args.id.now one last nodes found 0 count) old one c.answer_at.ensures.still c.in_ok-cell.ensures.found
    can.nodes (subst (λ xs. InTreeOrder (heap old) xs can.nodes) (sym same) can.ordered) in
    found_element (heap old) c.args.id.now one last can.nodes found 0 count searched

pub returns-clause-still : goal.returns-clause-still
returns-clause-still g c = Still-trans _ _ _ c.answer_at.ensures.still c.find_among.ensures.still
