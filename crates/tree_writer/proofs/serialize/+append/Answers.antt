use Rattle.std.proofs.Common.{◌∙◌, sym, [], ◌∷◌, length, ◌≤◌, true, false, get_or, refl, subst, arith}
use Rattle.std.proofs.lemmas.Result.{IfOk-weaker}
use Rattle.cell_places.specs.declared.kind.CellKind.TheVariants.{Element}
use Rattle.cell_places.specs.declared.place.Slot.TheVariants.{Children}
use Rattle.cell_places.specs.Heap.{cell, place}
use Rattle.cell_places.specs.Valid.{CanAsk}
use Rattle.cell_places.specs.View.{heap}
use Rattle.cell_places.proofs.Runs.{Still-refl, Still-trans}
use Rattle.tree_shape.proofs.Asking.{still_on, still_back}
use Rattle.tree_shape.proofs.SoundTrees.{Form}
use Rattle.tree_writer.proofs.Steps.{Says, start, next_form, next_whole, next_long, all_whole}
use Rattle.tree_shape.proofs.Nodes.{kind_found, children_still}
use Rattle.tree_writer.proofs.NodeTexts.{children_form, start_written, end_written, start_grows, inner_says, element_result, void_says, start_long, inner_long, element_says}
use Rattle.tree_writer.proofs.serialize.+append.Goals as goal

-- ---- an element

pub append_element-returns-in_err-written-clause-still : goal.append_element-returns-in_err-written-clause-still
append_element-returns-in_err-written-clause-still g t c = Still-refl _

pub append_element-returns-then-not-branch-clause-text : goal.append_element-returns-then-not-branch-clause-text
append_element-returns-then-not-branch-clause-text g t c =
    let old = g.C.Cells.seen c.args.cells.now in
    let kind = kind_found (heap old) c.args.node (Element c.args.name.now) c.requires.kind in
    start_long (heap old) false c.args.node c.args.name.now c.args.most c.args.out.now.items c.append_start.new.out.items c.append_start.new.out.items kind
    (start_written (heap old) c.args.node c.in_ok-append_start.field-0 false c.args.most c.args.out.now.items c.append_start.new.out.items c.deref.result.now c.in_ok-written.written.items c.args.name.now c.if-not-branch.true c.deref.ensures.value c.in_ok-written.ensures.bytes c.in_ok-append_start.ensures.text)

pub append_element-answer_at-requires : goal.append_element-answer_at-requires
append_element-answer_at-requires g t c = still_on (λ H. CanAsk H (place c.args.node Children)) _ _ c.append_start.ensures.still (Element c.args.name.now, c.requires.kind, refl)

pub append_element-returns-in_err-answer-clause-still : goal.append_element-returns-in_err-answer-clause-still
append_element-returns-in_err-answer-clause-still g t c = Still-trans _ _ _ c.append_start.ensures.still c.answer_at.ensures.still

pub append_element-returns-then-is_start_only-clause-text : goal.append_element-returns-then-is_start_only-clause-text
append_element-returns-then-is_start_only-clause-text g t c =
    let old = g.C.Cells.seen c.args.cells.now in
    let one = g.C.Cells.seen c.append_start.new.cells in
    let kind = kind_found (heap old) c.args.node (Element c.args.name.now) c.requires.kind in
    let started = start_written (heap old) c.args.node c.in_ok-append_start.field-0 true c.args.most c.args.out.now.items c.append_start.new.out.items c.deref.result.now c.in_ok-written.written.items c.args.name.now c.if-not-branch.false c.deref.ensures.value c.in_ok-written.ensures.bytes c.in_ok-append_start.ensures.text in
    let children = children_still old one c.args.node c.cells-children.result.now c.in_ok-answer.answer c.append_start.ensures.still c.cells-children.ensures c.in_ok-answer.ensures.answer in
    void_says (heap old) false c.args.node c.args.name.now c.args.most c.args.out.now.items c.append_start.new.out.items c.cells-children.result.now kind children c.is_start_only.result c.if-is_start_only.true c.is_start_only.ensures started

pub append_element-returns-then-is_start_only-clause-still : goal.append_element-returns-then-is_start_only-clause-still
append_element-returns-then-is_start_only-clause-still g t c = Still-trans _ _ _ c.append_start.ensures.still c.answer_at.ensures.still

pub append_element-append_nodes-requires : goal.append_element-append_nodes-requires
append_element-append_nodes-requires g t c κs within =
    let old = g.C.Cells.seen c.args.cells.now in
    let one = g.C.Cells.seen c.append_start.new.cells in
    let two = g.C.Cells.seen c.answer_at.new.cells in
    let kind = kind_found (heap old) c.args.node (Element c.args.name.now) c.requires.kind in
    let started = start_written (heap old) c.args.node c.in_ok-append_start.field-0 true c.args.most c.args.out.now.items c.append_start.new.out.items c.deref.result.now c.in_ok-written.written.items c.args.name.now c.if-not-branch.false c.deref.ensures.value c.in_ok-written.ensures.bytes c.in_ok-append_start.ensures.text in
    let children = children_still old one c.args.node c.cells-children.result.now c.in_ok-answer.answer c.append_start.ensures.still c.cells-children.ensures c.in_ok-answer.ensures.answer in
    let still = Still-trans old one two c.append_start.ensures.still c.answer_at.ensures.still in
    let form : Form (heap two) c.cells-children.result.now =
    still_on (λ H. Form H c.cells-children.result.now) old two still (subst (Form (heap old)) (sym children) (children_form (heap old) c.args.node c.args.name.now c.requires.form kind)) in
    let fits : length c.append_start.new.out.items ≤ c.args.most = started.1 in
    let grown = start_grows (heap old) c.args.node c.args.most c.args.out.now.items c.append_start.new.out.items c.args.name.now started in
    (omega (arith, grown), (within, (form, fits)))

pub append_element-returns-in_err-append_nodes-clause-still : goal.append_element-returns-in_err-append_nodes-clause-still
append_element-returns-in_err-append_nodes-clause-still g t c = Still-trans _ _ _ c.append_start.ensures.still (Still-trans _ _ _ c.answer_at.ensures.still c.append_nodes.ensures.still)

pub append_element-returns-then-not-branch-2-clause-text : goal.append_element-returns-then-not-branch-2-clause-text
append_element-returns-then-not-branch-2-clause-text g t c =
    let old = g.C.Cells.seen c.args.cells.now in
    let one = g.C.Cells.seen c.append_start.new.cells in
    let two = g.C.Cells.seen c.answer_at.new.cells in
    let kind = kind_found (heap old) c.args.node (Element c.args.name.now) c.requires.kind in
    let started = start_written (heap old) c.args.node c.in_ok-append_start.field-0 true c.args.most c.args.out.now.items c.append_start.new.out.items c.deref.result.now c.in_ok-written.written.items c.args.name.now c.if-not-branch.false c.deref.ensures.value c.in_ok-written.ensures.bytes c.in_ok-append_start.ensures.text in
    let children = children_still old one c.args.node c.cells-children.result.now c.in_ok-answer.answer c.append_start.ensures.still c.cells-children.ensures c.in_ok-answer.ensures.answer in
    let still = Still-trans old one two c.append_start.ensures.still c.answer_at.ensures.still in
    inner_long (heap old) false c.args.node c.args.name.now c.args.most c.args.out.now.items c.append_start.new.out.items c.append_nodes.new.out.items c.append_nodes.new.out.items c.cells-children.result.now kind children c.is_start_only.result c.if-is_start_only.false c.is_start_only.ensures started
    (inner_says old two c.args.node c.cells-children.result.now c.is_raw.result c.args.name.now c.in_ok-append_nodes.field-0 false c.args.most c.append_start.new.out.items c.append_nodes.new.out.items still children c.is_raw.ensures c.if-not-branch-2.true c.in_ok-append_nodes.ensures.text)

pub append_element-returns-then-not-branch-2-clause-still : goal.append_element-returns-then-not-branch-2-clause-still
append_element-returns-then-not-branch-2-clause-still g t c = Still-trans _ _ _ c.append_start.ensures.still (Still-trans _ _ _ c.answer_at.ensures.still c.append_nodes.ensures.still)

pub append_element-append_end-requires : goal.append_element-append_end-requires
append_element-append_end-requires g t c =
    let old = g.C.Cells.seen c.args.cells.now in
    let one = g.C.Cells.seen c.append_start.new.cells in
    let two = g.C.Cells.seen c.answer_at.new.cells in
    let children = children_still old one c.args.node c.cells-children.result.now c.in_ok-answer.answer c.append_start.ensures.still c.cells-children.ensures c.in_ok-answer.ensures.answer in
    let still = Still-trans old one two c.append_start.ensures.still c.answer_at.ensures.still in
    let form = children_form (heap old) c.args.node c.args.name.now c.requires.form (kind_found (heap old) c.args.node (Element c.args.name.now) c.requires.kind) in
    let says = (inner_says old two c.args.node c.cells-children.result.now c.is_raw.result c.args.name.now c.in_ok-append_nodes.field-0 true c.args.most c.append_start.new.out.items c.append_nodes.new.out.items still children c.is_raw.ensures c.if-not-branch-2.false c.in_ok-append_nodes.ensures.text) in
    (says form.0 form.1).1

pub append_element-returns-clause-text : goal.append_element-returns-clause-text
append_element-returns-clause-text g t c =
    let old = g.C.Cells.seen c.args.cells.now in
    let one = g.C.Cells.seen c.append_start.new.cells in
    let two = g.C.Cells.seen c.answer_at.new.cells in
    let kind = kind_found (heap old) c.args.node (Element c.args.name.now) c.requires.kind in
    let started = start_written (heap old) c.args.node c.in_ok-append_start.field-0 true c.args.most c.args.out.now.items c.append_start.new.out.items c.deref.result.now c.in_ok-written.written.items c.args.name.now c.if-not-branch.false c.deref.ensures.value c.in_ok-written.ensures.bytes c.in_ok-append_start.ensures.text in
    let children = children_still old one c.args.node c.cells-children.result.now c.in_ok-answer.answer c.append_start.ensures.still c.cells-children.ensures c.in_ok-answer.ensures.answer in
    let still = Still-trans old one two c.append_start.ensures.still c.answer_at.ensures.still in
    let says = (inner_says old two c.args.node c.cells-children.result.now c.is_raw.result c.args.name.now c.in_ok-append_nodes.field-0 true c.args.most c.append_start.new.out.items c.append_nodes.new.out.items still children c.is_raw.ensures c.if-not-branch-2.false c.in_ok-append_nodes.ensures.text) in
    IfOk-weaker c.append_end.result _ _
    (λ whole ended. element_says (heap old) false whole c.args.node c.args.name.now c.args.most c.args.out.now.items c.append_start.new.out.items c.append_nodes.new.out.items c.append_end.new.out.items c.cells-children.result.now kind children c.is_start_only.result c.if-is_start_only.false c.is_start_only.ensures started says
    (end_written whole c.args.most c.append_nodes.new.out.items c.append_end.new.out.items c.deref-2.result.now c.in_ok-written.written.items c.args.name.now c.deref-2.ensures.value c.in_ok-written.ensures.bytes ended))
    c.append_end.ensures

pub append_element-returns-clause-still : goal.append_element-returns-clause-still
append_element-returns-clause-still g t c = Still-trans _ _ _ c.append_start.ensures.still (Still-trans _ _ _ c.answer_at.ensures.still c.append_nodes.ensures.still)

-- ---- a node

pub append_node-returns-in_err-name-in-Element-clause-still :
    goal.append_node-returns-in_err-name-in-Element-clause-still
append_node-returns-in_err-name-in-Element-clause-still g t c = Still-refl _

pub append_node-returns-clause-text : goal.append_node-returns-clause-text
append_node-returns-clause-text g t c =
    element_result (heap (g.C.Cells.seen c.args.cells.now)) c.args.raw c.args.node c.in-Element.name c.args.most c.args.out.now.items c.append_element.new.out.items c.append_element.result
    (kind_found (heap (g.C.Cells.seen c.args.cells.now)) c.args.node c.kind_of.result.now c.kind_of.ensures ∙ c.in-Element.is) c.append_element.ensures.text

-- ---- siblings

pub append_nodes-loop-node-init : goal.append_nodes-loop-node-init
append_nodes-loop-node-init g t c =
    record { still = Still-refl _; progress = start (heap (g.C.Cells.seen c.args.cells.now)) c.args.nodes.now c.args.raw c.args.most c.args.out.now.items c.requires.form c.requires.fits }

pub append_nodes-append_node-requires : goal.append_nodes-append_node-requires
append_nodes-append_node-requires g t c κs within =
    let form : Form (heap (g.C.Cells.seen c.loop-node.cells)) ((get_or c.args.nodes.now c.loop-node.node-index (cell 0)) ∷ []) =
    still_on (λ G. Form G ((get_or c.args.nodes.now c.loop-node.node-index (cell 0)) ∷ [])) (g.C.Cells.seen c.args.cells.now) (g.C.Cells.seen c.loop-node.cells) c.loop-node.invariant.still
    (next_form (heap (g.C.Cells.seen c.args.cells.now)) c.args.nodes.now c.args.raw c.args.most c.loop-node.node-index c.args.out.now.items c.loop-node.out.items (cell 0) c.loop-node-test.true c.loop-node.invariant.progress) in
    let grown : length c.args.out.now.items ≤ length c.loop-node.out.items = c.loop-node.invariant.progress.grown in
    (omega (arith, grown), (within, (form, c.loop-node.invariant.progress.fits)))

pub append_nodes-returns-in_err-append_node-clause-still :
    goal.append_nodes-returns-in_err-append_node-clause-still
append_nodes-returns-in_err-append_node-clause-still g t c = Still-trans _ _ _ c.loop-node.invariant.still c.append_node.ensures.still

pub append_nodes-returns-then-not-branch-clause-text :
    goal.append_nodes-returns-then-not-branch-clause-text
append_nodes-returns-then-not-branch-clause-text g t c =
    next_long (heap (g.C.Cells.seen c.args.cells.now)) c.args.nodes.now c.args.raw c.args.most c.loop-node.node-index c.args.out.now.items c.loop-node.out.items c.append_node.new.out.items c.append_node.new.out.items (cell 0) c.loop-node-test.true c.loop-node.invariant.progress
    (still_back (λ G. Says G ((get_or c.args.nodes.now c.loop-node.node-index (cell 0)) ∷ []) c.args.raw false c.args.most c.loop-node.out.items c.append_node.new.out.items) (g.C.Cells.seen c.args.cells.now) (g.C.Cells.seen c.loop-node.cells) c.loop-node.invariant.still
    (subst (λ b. Says (heap (g.C.Cells.seen c.loop-node.cells)) ((get_or c.args.nodes.now c.loop-node.node-index (cell 0)) ∷ []) c.args.raw b c.args.most c.loop-node.out.items c.append_node.new.out.items) c.if-not-branch.true c.in_ok-append_node.ensures.text))

pub append_nodes-returns-then-not-branch-clause-still :
    goal.append_nodes-returns-then-not-branch-clause-still
append_nodes-returns-then-not-branch-clause-still g t c = Still-trans _ _ _ c.loop-node.invariant.still c.append_node.ensures.still

pub append_nodes-loop-node-preserved : goal.append_nodes-loop-node-preserved
append_nodes-loop-node-preserved g t c =
    record {
      still = Still-trans _ _ _ c.loop-node.invariant.still c.append_node.ensures.still;
      progress = next_whole (heap (g.C.Cells.seen c.args.cells.now)) c.args.nodes.now c.args.raw c.args.most c.loop-node.node-index c.args.out.now.items c.loop-node.out.items c.append_node.new.out.items (cell 0) c.loop-node-test.true c.loop-node.invariant.progress
          (still_back (λ G. Says G ((get_or c.args.nodes.now c.loop-node.node-index (cell 0)) ∷ []) c.args.raw true c.args.most c.loop-node.out.items c.append_node.new.out.items) (g.C.Cells.seen c.args.cells.now) (g.C.Cells.seen c.loop-node.cells) c.loop-node.invariant.still
          (subst (λ b. Says (heap (g.C.Cells.seen c.loop-node.cells)) ((get_or c.args.nodes.now c.loop-node.node-index (cell 0)) ∷ []) c.args.raw b c.args.most c.loop-node.out.items c.append_node.new.out.items) c.if-not-branch.false c.in_ok-append_node.ensures.text));
    }

pub append_nodes-returns-clause-text : goal.append_nodes-returns-clause-text
append_nodes-returns-clause-text g t c =
    all_whole (heap (g.C.Cells.seen c.args.cells.now)) c.args.nodes.now c.args.raw c.args.most c.loop-node.node-index c.args.out.now.items c.loop-node.out.items c.loop-node-test.false c.loop-node.invariant.progress
