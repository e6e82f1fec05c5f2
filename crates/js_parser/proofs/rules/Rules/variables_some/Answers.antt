use Rattle.std.proofs.Common.{◌-◌}
use Rattle.js_lexer.specs.declared.token.Punct.TheVariants as p
use Rattle.js_nodes.specs.Next.{shows}
use Rattle.js_parser.proofs.DecidedStatements.{decl_turns}
use Rattle.js_parser.proofs.DecidedSources.{level_known}
use Rattle.js_parser.proofs.Failing.{loop_failed}
use Rattle.grammar.proofs.Words.{onward}
use Rattle.js_parser.specs.Statements.{decl_more}
use Rattle.js_parser.specs.Sources.{level}
use Rattle.js_parser.proofs.Turns.{decl_turn}
use Rattle.js_parser.proofs.rules.Rules.variables_some.Goals as goal

pub decls-smaller : goal.decls-smaller
decls-smaller g c = (decl_turn c.args.room (c.args.room - 1) c.args.context c.decls.decls c.decls.tokens c.in_ok-decls-2.decls c.decl_more.new.tokens (cc) c.in_ok-decls-2.ensures.value).1

pub decls-preserved : goal.decls-preserved
decls-preserved g c = record {
  height = c.in_ok-decls-2.ensures.height;
  reading = onward _ _ _ _ c.decls.invariant.reading (decl_turn c.args.room (c.args.room - 1) c.args.context c.decls.decls c.decls.tokens c.in_ok-decls-2.decls c.decl_more.new.tokens (cc) c.in_ok-decls-2.ensures.value).0;
}

pub returns-in_err-decls-2-clause-value : goal.returns-in_err-decls-2-clause-value
returns-in_err-decls-2-clause-value g c = loop_failed _ (λ _ t. shows p.Comma t) (decl_more c.args.room (level (c.args.room - 1)) c.args.context) _ c.decls.decls c.decls.tokens c.in_err-decls-2.field-0.0 c.decl_more.new.tokens c.from_residual-in_err-decls-2.result (decl_turns (level (c.args.room - 1)) (level_known (c.args.room - 1)) c.args.room c.args.context c.decls.decls) c.decls.invariant.reading (cc) c.in_err-decls-2.ensures.value c.from_residual-in_err-decls-2.ensures
