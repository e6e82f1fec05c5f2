use Rattle.std.proofs.Common.{rules, ◌≡◌, refl}
use Rattle.page_units.specs.declared.value.Value.TheVariants as v
use Rattle.cell_places.specs.declared.place.Slot.TheVariants as s
use Rattle.cell_places.specs.declared.answer.Answer.TheVariants as a
use Rattle.cell_places.specs.Heap.{place}
use Rattle.cell_places.specs.Acts.{Act, placed}
use Rattle.cell_places.proofs.Runs.{Rooted-refl}
use Rattle.page_reader.proofs.PlantingSteps.{put_more, all_put, rooted_stepped}
use Rattle.page_reader.proofs.plant.put_attributes.Goals as goal

pub returns-in_err-names-clause-rooted : goal.returns-in_err-names-clause-rooted
returns-in_err-names-clause-rooted g c = Rooted-refl _

pub loop-attribute-init : goal.loop-attribute-init
loop-attribute-init g c = record { element = c.requires.element; acts = refl; named = c.in_ok-names.ensures.items; rooted = Rooted-refl _ }

-- one more attribute was put
pub loop-attribute-preserved : goal.loop-attribute-preserved
loop-attribute-preserved g c =
    let same : c.in_ok-clone.field-0 ≡ c.attribute-item.result.name = search rules in
    put_more (g.C.Cells.seen c.args.cells.now) (g.C.Cells.seen c.loop-attribute.cells) (g.C.Cells.seen c.put_attribute.new.cells) c.args.node c.args.attributes.now c.loop-attribute.attribute-index c.loop-attribute.names.items c.push.new.self.items c.attribute-item.result c.in_ok-clone.field-0
    c.loop-attribute-test.true c.attribute-item.is c.loop-attribute.invariant c.in_ok-put_attribute.ensures.ok same c.in_ok-push.ensures.items

-- an attribute was put, and its name found no memory
pub returns-in_err-clone-clause-rooted : goal.returns-in_err-clone-clause-rooted
returns-in_err-clone-clause-rooted g c =
    let put : Act = placed (place c.args.node (s.Attr c.attribute-item.result.name)) (a.One (v.Str c.attribute-item.result.value)) in
    rooted_stepped (g.C.Cells.seen c.args.cells.now) (g.C.Cells.seen c.loop-attribute.cells) (g.C.Cells.seen c.put_attribute.new.cells) put
    c.loop-attribute.invariant.rooted c.in_ok-put_attribute.ensures.ok

-- all were put, and then their names
pub returns-clause-acts : goal.returns-clause-acts
returns-clause-acts g c =
    all_put (g.C.Cells.seen c.args.cells.now) (g.C.Cells.seen c.loop-attribute.cells) (g.C.Cells.seen c.put_names.new.cells) c.args.node c.args.attributes.now c.loop-attribute.attribute-index c.loop-attribute.names.items c.put_names.result
    c.loop-attribute-test.false c.loop-attribute.invariant c.put_names.ensures.acts
