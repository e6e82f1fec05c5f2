use Rattle.std.proofs.Common.{true, false, sym, subst}
use Rattle.std.proofs.lemmas.List.{append-nil}
use Rattle.cell_places.specs.View.{heap}
use Rattle.cell_places.proofs.Runs.{Still-refl, Still-trans}
use Rattle.tree_writer.specs.TreeText.{attribute_text}
use Rattle.tree_writer.specs.Appends.{Appended}
use Rattle.tree_shape.specs.Holds.{attribute_at}
use Rattle.tree_shape.proofs.Asking.{still_back}
use Rattle.tree_writer.proofs.AttributeTexts.{next_attribute, attribute_too_long}
use Rattle.tree_writer.proofs.attributes.append_attributes.Goals as goal

pub loop-name-init : goal.loop-name-init
loop-name-init g c = record { still = Still-refl _; text = (sym (append-nil c.args.out.now.items), c.requires.fits) }

pub returns-in_err-append_attribute-clause-still :
    goal.returns-in_err-append_attribute-clause-still
returns-in_err-append_attribute-clause-still g c = Still-trans _ _ _ c.loop-name.invariant.still c.append_attribute.ensures.still

pub returns-then-not-branch-clause-text : goal.returns-then-not-branch-clause-text
returns-then-not-branch-clause-text g c =
    let old = g.C.Cells.seen c.args.cells.now in
    let now = g.C.Cells.seen c.loop-name.cells in
    attribute_too_long (heap old) c.args.node c.args.names.now c.loop-name.name-index c.args.most c.args.out.now.items c.loop-name.out.items c.append_attribute.new.out.items c.name-item.result c.loop-name-test.true c.name-item.is c.loop-name.invariant.text
    (still_back (λ H. Appended false c.args.most c.loop-name.out.items c.append_attribute.new.out.items (attribute_text (attribute_at H c.args.node c.name-item.result))) old now c.loop-name.invariant.still
    (subst (λ b. Appended b c.args.most c.loop-name.out.items c.append_attribute.new.out.items (attribute_text (attribute_at (heap now) c.args.node c.name-item.result))) c.if-not-branch.true c.in_ok-append_attribute.ensures.text))

pub returns-then-not-branch-clause-still : goal.returns-then-not-branch-clause-still
returns-then-not-branch-clause-still g c = Still-trans _ _ _ c.loop-name.invariant.still c.append_attribute.ensures.still

pub loop-name-preserved : goal.loop-name-preserved
loop-name-preserved g c =
    let old = g.C.Cells.seen c.args.cells.now in
    let now = g.C.Cells.seen c.loop-name.cells in
    record {
      still = Still-trans _ _ _ c.loop-name.invariant.still c.append_attribute.ensures.still;
      text = next_attribute (heap old) c.args.node c.args.names.now c.loop-name.name-index c.args.most c.args.out.now.items c.loop-name.out.items c.append_attribute.new.out.items c.name-item.result c.loop-name-test.true c.name-item.is c.loop-name.invariant.text
          (still_back (λ H. Appended true c.args.most c.loop-name.out.items c.append_attribute.new.out.items (attribute_text (attribute_at H c.args.node c.name-item.result))) old now c.loop-name.invariant.still
          (subst (λ b. Appended b c.args.most c.loop-name.out.items c.append_attribute.new.out.items (attribute_text (attribute_at (heap now) c.args.node c.name-item.result))) c.if-not-branch.false c.in_ok-append_attribute.ensures.text));
    }
