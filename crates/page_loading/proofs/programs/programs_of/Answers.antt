use Rattle.std.proofs.Common.{◌≡◌, ◌+◌, List, [], ◌∷◌, drop, get_or, subst, sym, Vec, Global, rules}
use Rattle.std.specs.Prelude.{All, Result, Err}
use Rattle.std.proofs.lemmas.List.{drop_more, drop_all}
use Rattle.std.proofs.lemmas.List.Elements.{All-nil, All-push}
use Rattle.js_tree.specs.declared.code.Program.{Program}
use Rattle.js_tree.specs.Valid.{IsValid}
use Rattle.page_reader.specs.declared.page.ScriptText.{ScriptText}
use Rattle.page_loading.specs.declared.fault.LoadFault.{LoadFault}
use Rattle.page_loading.proofs.Reaching.{Reaches, at_start, one_more, found_fault, all_programs}
use Rattle.page_loading.proofs.Shown.{refused_scripts}
use Rattle.page_loading.proofs.programs.programs_of.Goals as goal

-- what is read where no script stands
abbrev none : ScriptText
none = record { index = 0; at = 0; end = 0 }

-- After the loop no script is left.
at_end : (c : goal.After-loop-script) → Reaches c.args.page.now c.args.scripts.now c.loop-script.programs.items []
at_end c = subst (λ (left : List ScriptText). Reaches c.args.page.now c.args.scripts.now c.loop-script.programs.items left) (drop_all c.loop-script.script-index c.args.scripts.now c.loop-script-test.false) c.loop-script.invariant.reaches

pub loop-script-init : goal.loop-script-init
loop-script-init c = record {
  reaches = subst (λ (programs : List Program). Reaches c.args.page.now c.args.scripts.now programs c.args.scripts.now) (sym c.new-programs.ensures.items) (at_start c.args.page.now c.args.scripts.now);
  valid = subst (λ (programs : List Program). All IsValid programs) (sym c.new-programs.ensures.items) (All-nil IsValid);
}

pub program_of-requires-clause-text : goal.program_of-requires-clause-text
program_of-requires-clause-text c = c.requires.texts c.loop-script.script-index none c.loop-script-test.true

pub loop-script-preserved : goal.loop-script-preserved
loop-script-preserved c =
    let script = get_or c.args.scripts.now c.loop-script.script-index none in
    let left = drop (c.loop-script.script-index + 1) c.args.scripts.now in
    let before : Reaches c.args.page.now c.args.scripts.now c.loop-script.programs.items (script ∷ left) =
    subst (λ (some : List ScriptText). Reaches c.args.page.now c.args.scripts.now c.loop-script.programs.items some) (drop_more c.args.scripts.now c.loop-script.script-index none c.loop-script-test.true) c.loop-script.invariant.reaches in
    let after = one_more c.args.page.now c.args.scripts.now c.loop-script.programs.items script left before c.in_ok-program.program c.in_ok-program.ensures.says in
    record {
      reaches = subst (λ (programs : List Program). Reaches c.args.page.now c.args.scripts.now programs left) (sym c.in_ok-push.ensures.items) after;
      valid = subst (λ (programs : List Program). All IsValid programs) (sym c.in_ok-push.ensures.items) (All-push IsValid c.loop-script.programs.items c.in_ok-program.program c.loop-script.invariant.valid c.in_ok-program.ensures.valid);
    }

-- ---- a script is not a program

-- what is returned for a fault
abbrev failed : LoadFault → Result (Vec Program Global) LoadFault
failed fault = Err fault

pub returns-in_err-program-clause-says : goal.returns-in_err-program-clause-says
returns-in_err-program-clause-says c =
    let script = get_or c.args.scripts.now c.loop-script.script-index none in
    let before = subst (λ (some : List ScriptText). Reaches c.args.page.now c.args.scripts.now c.loop-script.programs.items some) (drop_more c.args.scripts.now c.loop-script.script-index none c.loop-script-test.true) c.loop-script.invariant.reaches in
    let same : c.from_residual.result ≡ failed c.in_err-program.field-0.0 = search rules in
    rw same (refused_scripts c.args.page.now c.args.scripts.now script c.in_err-program.field-0.0
    (λ index fault e h. found_fault c.args.page.now c.args.scripts.now c.loop-script.programs.items script _ before index fault e h)
    c.in_err-program.ensures.says)

-- ---- each is one

pub returns-clause-says : goal.returns-clause-says
returns-clause-says c = all_programs c.args.page.now c.args.scripts.now c.loop-script.programs.items (at_end c)

pub returns-clause-valid : goal.returns-clause-valid
returns-clause-valid c = c.loop-script.invariant.valid
