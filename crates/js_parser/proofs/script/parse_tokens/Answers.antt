use Rattle.std.proofs.Common.{Some, None, refl}
use Rattle.js_parser.proofs.WholeScripts.{tokens_found, tokens_shown}
use Rattle.js_parser.proofs.script.parse_tokens.Goals as goal

pub returns-in-Ok : goal.returns-in-Ok
returns-in-Ok c = tokens_found c.args.end c.args.tokens.now c.in-Ok.program c.new-tokens.result c.program.new.tokens c.new-tokens.ensures c.in-Ok.ensures.value c.in-Ok.ensures.over

pub returns-in-Err-Shown : goal.returns-in-Err-Shown
returns-in-Err-Shown c = tokens_shown c.args.end c.args.tokens.now (Some c.in-Err-Shown.fault) c.in-Err-Shown.field-0 c.new-tokens.result c.program.new.tokens c.in-Err-Shown.fault c.of.result c.new-tokens.ensures c.in-Err-Shown.field-0-is c.in-Err-Shown.ensures.value refl c.of.ensures

pub returns-in-Err-Unfit : goal.returns-in-Err-Unfit
returns-in-Err-Unfit c = tokens_shown c.args.end c.args.tokens.now None c.in-Err-Unfit.field-0 c.new-tokens.result c.program.new.tokens c.misfit.result c.of-in-Err-Unfit.result c.new-tokens.ensures c.in-Err-Unfit.field-0-is c.in-Err-Unfit.ensures.value c.misfit.ensures c.of-in-Err-Unfit.ensures
