use Rattle.std.proofs.Common.{◌<◌, length, refl}
use Rattle.cell_places.specs.Kinds.{is_node}
use Rattle.cell_places.specs.View.{heap}
use Rattle.cell_places.proofs.Runs.{Still-trans}
use Rattle.tree_shape.specs.Trees.{Trees}
use Rattle.tree_shape.specs.Holds.{Holds, served}
use Rattle.tree_shape.proofs.Asking.{still_on, still_back}
use Rattle.tree_shape.proofs.Depths.{kind_there}
use Rattle.tree_shape.proofs.SoundTrees.{Form, sound_form}
use Rattle.tree_writer.specs.TreeText.{trees_text}
use Rattle.tree_writer.specs.Appends.{Appended}
use Rattle.tree_writer.proofs.OneText.{one_text, whole_found, too_long_found}
use Rattle.tree_writer.proofs.serialize.dom_text.Goals as goal

-- the node is there
pub is_raw_text-requires-clause-there : goal.is_raw_text-requires-clause-there
is_raw_text-requires-clause-there g c =
    kind_there is_node refl (heap (g.C.Cells.seen c.args.cells.now)).kinds c.args.node.0 c.requires.node

pub append_served-requires-clause-there : goal.append_served-requires-clause-there
append_served-requires-clause-there g c =
    let old = g.C.Cells.seen c.args.cells.now in
    still_on (λ H. c.args.node.0 < length H.kinds) old (g.C.Cells.seen c.is_raw_text.new.cells) c.is_raw_text.ensures.still
    (kind_there is_node refl (heap old).kinds c.args.node.0 c.requires.node)

-- and trees are served for it
pub append_served-requires-clause-form : goal.append_served-requires-clause-form
append_served-requires-clause-form g c =
    let old = g.C.Cells.seen c.args.cells.now in
    still_on (λ H. Form H (served H c.args.node)) old (g.C.Cells.seen c.is_raw_text.new.cells) c.is_raw_text.ensures.still
    (sound_form c.requires.sound.0 (heap old) c.args.node c.requires.sound.1 c.requires.node)

-- nothing changes
pub returns-in_err-append_served-clause-still : goal.returns-in_err-append_served-clause-still
returns-in_err-append_served-clause-still g c = Still-trans _ _ _ c.is_raw_text.ensures.still c.append_served.ensures.still

pub returns-then-branch-clause-still : goal.returns-then-branch-clause-still
returns-then-branch-clause-still g c = Still-trans _ _ _ c.is_raw_text.ensures.still c.append_served.ensures.still

pub returns-else-branch-clause-still : goal.returns-else-branch-clause-still
returns-else-branch-clause-still g c = Still-trans _ _ _ c.is_raw_text.ensures.still c.append_served.ensures.still

-- a node has one tree text
pub returns-in_err-raw-clause-one : goal.returns-in_err-raw-clause-one
returns-in_err-raw-clause-one g c = one_text _ c.args.node

pub returns-in_err-append_served-clause-one : goal.returns-in_err-append_served-clause-one
returns-in_err-append_served-clause-one g c = one_text _ c.args.node

pub returns-else-branch-clause-one : goal.returns-else-branch-clause-one
returns-else-branch-clause-one g c = one_text _ c.args.node

pub returns-then-branch-clause-text : goal.returns-then-branch-clause-text
returns-then-branch-clause-text g c =
    let old = g.C.Cells.seen c.args.cells.now in
    let one = g.C.Cells.seen c.is_raw_text.new.cells in
    let form = sound_form c.requires.sound.0 (heap old) c.args.node c.requires.sound.1 c.requires.node in
    let is = c.in_ok-append_served.field-0 in
    let start = c.new-out.result.items in
    let last = c.append_served.new.out.items in
    whole_found (heap old) c.args.node c.args.most c.in_ok-raw.raw is start last form c.in_ok-raw.ensures.raw
    c.new-out.ensures.items c.if-branch.true
    (still_back (λ H. (trees : Trees) → Holds H (served H c.args.node) trees → Appended is c.args.most start last (trees_text c.in_ok-raw.raw trees))
    old one c.is_raw_text.ensures.still c.in_ok-append_served.ensures.text form.0 form.1)

pub returns-else-branch-clause-text : goal.returns-else-branch-clause-text
returns-else-branch-clause-text g c =
    let old = g.C.Cells.seen c.args.cells.now in
    let one = g.C.Cells.seen c.is_raw_text.new.cells in
    let form = sound_form c.requires.sound.0 (heap old) c.args.node c.requires.sound.1 c.requires.node in
    let is = c.in_ok-append_served.field-0 in
    let start = c.new-out.result.items in
    let last = c.append_served.new.out.items in
    too_long_found (heap old) c.args.node c.args.most c.in_ok-raw.raw is start last form c.in_ok-raw.ensures.raw
    c.new-out.ensures.items c.if-branch.false
    (still_back (λ H. (trees : Trees) → Holds H (served H c.args.node) trees → Appended is c.args.most start last (trees_text c.in_ok-raw.raw trees))
    old one c.is_raw_text.ensures.still c.in_ok-append_served.ensures.text form.0 form.1)
