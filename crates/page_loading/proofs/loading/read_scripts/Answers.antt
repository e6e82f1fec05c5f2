use Rattle.std.proofs.Common.{◌≡◌, ℕ, List, subst, rules}
use Rattle.std.specs.Prelude.{Err}
use Rattle.page_reader.specs.declared.page.ScriptText.{ScriptText}
use Rattle.page_loading.specs.Faults.{of_page}
use Rattle.page_loading.specs.Loading.{ProgramsSay}
use Rattle.page_loading.proofs.Loaded.{refused_exactly, read_exactly, read_loaded}
use Rattle.page_loading.proofs.loading.read_scripts.Goals as goal

-- ---- the bytes are no page

pub returns-in_err-parts-clause-exactly : goal.returns-in_err-parts-clause-exactly
returns-in_err-parts-clause-exactly g c =
    let same : c.from_residual.result ≡ Err (of_page c.in_err-parts.field-0.0) = search rules in
    rw same (refused_exactly c.args.bytes.now c.in_err-parts.field-0.0 c.in_err-parts.ensures.exactly.found)

-- ---- the bytes are a page

pub unwrap-text-requires : goal.unwrap-text-requires
unwrap-text-requires g c = let utf8 = c.in_ok-parts.ensures.page.page.utf8 in let cases = c.from_utf8.ensures.cases in search rules

pub returns-clause-exactly : goal.returns-clause-exactly
returns-clause-exactly g c =
    let text : c.unwrap-text.result.now ≡ c.args.bytes.now = (rw c.unwrap-text.ensures at c.from_utf8.ensures.cases).0 in
    read_exactly c.args.bytes.now c.in_ok-parts.parts.scripts.items (g.C.Cells.seen c.args.cells.now) (g.C.Cells.seen c.read_page.new.cells) c.in_ok-parts.ensures.page c.programs_of.result
    (subst (λ (page : List ℕ). ProgramsSay page c.in_ok-parts.parts.scripts.items c.programs_of.result) text
    (subst (λ (scripts : List ScriptText). ProgramsSay c.unwrap-text.result.now scripts c.programs_of.result) c.deref.ensures.value c.programs_of.ensures.says))

pub returns-clause-loaded : goal.returns-clause-loaded
returns-clause-loaded g c =
    let text : c.unwrap-text.result.now ≡ c.args.bytes.now = (rw c.unwrap-text.ensures at c.from_utf8.ensures.cases).0 in
    read_loaded c.args.bytes.now c.in_ok-parts.parts.scripts.items (g.C.Cells.seen c.args.cells.now) (g.C.Cells.seen c.read_page.new.cells) c.in_ok-parts.ensures.page c.programs_of.result
    (subst (λ (page : List ℕ). ProgramsSay page c.in_ok-parts.parts.scripts.items c.programs_of.result) text
    (subst (λ (scripts : List ScriptText). ProgramsSay c.unwrap-text.result.now scripts c.programs_of.result) c.deref.ensures.value c.programs_of.ensures.says))
