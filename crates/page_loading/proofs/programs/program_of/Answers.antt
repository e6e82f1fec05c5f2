use Rattle.std.proofs.Common.{List, ℕ, subst}
use Rattle.std.specs.Str.{chars}
use Rattle.std.specs.Prelude.{length, Err}
use Rattle.grammar.specs.Exactly.{Says}
use Rattle.js_parser.specs.Scripts.{IsScript, ScriptFaultAt, report}
use Rattle.page_loading.proofs.Shown.{refused_script}
use Rattle.page_loading.proofs.programs.program_of.Goals as goal

pub returns-in-Ok-clause-says : goal.returns-in-Ok-clause-says
returns-in-Ok-clause-says c = subst (λ (bytes : List ℕ). IsScript (chars bytes) c.in-Ok.program) c.range.ensures.value c.in-Ok.ensures.exactly.found

pub returns-in-Err-clause-says : goal.returns-in-Err-clause-says
returns-in-Err-clause-says c =
    rw c.of_script.ensures
    (refused_script c.args.page.now c.args.script c.in-Err.fault
    (subst (λ (bytes : List ℕ). Says (IsScript (chars bytes)) (ScriptFaultAt (length bytes) (chars bytes)) (report (Err c.in-Err.fault))) c.range.ensures.value c.in-Err.ensures.exactly.found))
