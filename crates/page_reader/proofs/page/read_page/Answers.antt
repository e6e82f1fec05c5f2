use Rattle.std.proofs.Common.{◌≡◌, [], ◌∷◌, Ok, Err, rules}
use Rattle.cell_places.proofs.Runs.{Rooted-refl}
use Rattle.page_reader.specs.declared.fault.PageFault.TheVariants.{NoMemory}
use Rattle.page_reader.specs.NodeTrees.{trees_of}
use Rattle.page_reader.proofs.Laws.{one_page, reported, reported_fault}
use Rattle.page_reader.proofs.PagePlanted.{can_root, read_is, read_sound, read_sums}
use Rattle.page_reader.proofs.ScriptTexts.{scripts_are_texts}
use Rattle.page_reader.proofs.page.read_page.Goals as goal

pub returns-in_err-page-clause-rooted : goal.returns-in_err-page-clause-rooted
returns-in_err-page-clause-rooted g c = Rooted-refl _

-- the root can be planted
pub plant-requires-clause-document : goal.plant-requires-clause-document
plant-requires-clause-document g c =
    (can_root c.requires.sound.0 (g.C.Cells.seen c.args.cells.now) c.args.bytes.now c.in_ok-page.page.root c.in_ok-page.page.scripts.items c.requires.sound.1 c.requires.room c.in_ok-page.ensures).document

pub plant-requires-clause-prototype : goal.plant-requires-clause-prototype
plant-requires-clause-prototype g c =
    (can_root c.requires.sound.0 (g.C.Cells.seen c.args.cells.now) c.args.bytes.now c.in_ok-page.page.root c.in_ok-page.page.scripts.items c.requires.sound.1 c.requires.room c.in_ok-page.ensures).prototype

pub plant-requires-clause-room : goal.plant-requires-clause-room
plant-requires-clause-room g c =
    (can_root c.requires.sound.0 (g.C.Cells.seen c.args.cells.now) c.args.bytes.now c.in_ok-page.page.root c.in_ok-page.page.scripts.items c.requires.sound.1 c.requires.room c.in_ok-page.ensures).room

pub plant-requires-clause-once : goal.plant-requires-clause-once
plant-requires-clause-once g c =
    (can_root c.requires.sound.0 (g.C.Cells.seen c.args.cells.now) c.args.bytes.now c.in_ok-page.page.root c.in_ok-page.page.scripts.items c.requires.sound.1 c.requires.room c.in_ok-page.ensures).once

-- the page is read
pub returns-clause-page : goal.returns-clause-page
returns-clause-page g c =
    read_is c.requires.sound.0 (g.C.Cells.seen c.args.cells.now) (g.C.Cells.seen c.plant.new.cells) c.args.bytes.now (trees_of (c.in_ok-page.page.root ∷ [])) c.in_ok-page.page.scripts.items c.requires.sound.1 c.requires.empty c.in_ok-page.ensures c.in_ok-plant.ensures.acts

pub returns-clause-texts : goal.returns-clause-texts
returns-clause-texts g c = scripts_are_texts c.args.bytes.now (trees_of (c.in_ok-page.page.root ∷ [])) c.in_ok-page.page.scripts.items c.in_ok-page.ensures

pub returns-clause-sound : goal.returns-clause-sound
returns-clause-sound g c codes sound =
    read_sound codes (g.C.Cells.seen c.args.cells.now) (g.C.Cells.seen c.plant.new.cells) c.args.bytes.now (trees_of (c.in_ok-page.page.root ∷ [])) c.in_ok-page.page.scripts.items sound c.requires.empty c.requires.room c.in_ok-page.ensures c.in_ok-plant.ensures.acts

pub returns-clause-sums : goal.returns-clause-sums
returns-clause-sums g c bound sums =
    read_sums bound (g.C.Cells.seen c.args.cells.now) (g.C.Cells.seen c.plant.new.cells) c.args.bytes.now (trees_of (c.in_ok-page.page.root ∷ [])) c.in_ok-page.page.scripts.items sums c.in_ok-page.ensures c.in_ok-plant.ensures.acts

-- a page has one tree
pub returns-clause-one : goal.returns-clause-one
returns-clause-one g c = one_page c.args.bytes.now

pub returns-in_err-page-clause-one : goal.returns-in_err-page-clause-one
returns-in_err-page-clause-one g c = one_page c.args.bytes.now

pub returns-in_err-plant-clause-one : goal.returns-in_err-plant-clause-one
returns-in_err-plant-clause-one g c = one_page c.args.bytes.now

-- and so is what is reported
pub returns-clause-exactly : goal.returns-clause-exactly
returns-clause-exactly g c = reported c.args.bytes.now (Ok (record { scripts = c.in_ok-page.page.scripts })) (trees_of (c.in_ok-page.page.root ∷ []), c.in_ok-page.ensures)

pub returns-in_err-page-clause-exactly : goal.returns-in_err-page-clause-exactly
returns-in_err-page-clause-exactly g c = let same : c.from_residual.result ≡ Err c.in_err-page.field-0.0 = search rules in rw same (reported_fault c.args.bytes.now c.in_err-page.field-0.0 c.in_err-page.ensures)

pub returns-in_err-plant-clause-exactly : goal.returns-in_err-plant-clause-exactly
returns-in_err-plant-clause-exactly g c = let same : c.from_residual-in_err-plant.result ≡ Err NoMemory = search rules in rw same (reported c.args.bytes.now (Err NoMemory) tt)
