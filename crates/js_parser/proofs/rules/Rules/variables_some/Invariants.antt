use Rattle.std.proofs.Common.{◌≡◌, ◌-◌, ◌<◌, length, None}
use Rattle.grammar.specs.Grammar.{again, done}
use Rattle.grammar.specs.Reading.{read, and_then}
use Rattle.js_lexer.specs.declared.token.Punct.TheVariants as p
use Rattle.js_tree.specs.declared.stmt.Stmt.TheVariants as s
use Rattle.js_nodes.specs.Next.{shows}
use Rattle.js_parser.specs.Statements as statements
use Rattle.js_parser.specs.Sources.{level}
use Rattle.js_nodes.specs.Pieces as pieces
use Rattle.js_parser.proofs.rules.Rules.variables_some.Given as goal

abbrev pub invariant-decls : goal.invariant-decls
invariant-decls g l = record {
  height : l.decls.depth.height < l.room;
  reading : read None (statements.variables l.room (level (l.room - 1)) l.context l.at l.fn.name l.fn.state) l.fn.tokens
      ≡ and_then (read None (again (λ _ t. shows p.Comma t) (statements.decl_more l.room (level (l.room - 1)) l.context) l.decls) l.tokens) (λ d r. read None (done (pieces.said (s.Var d.decls) d.state l.at d.depth)) r);
}

abbrev pub decreases-decls : goal.decreases-decls
decreases-decls g l = length l.tokens
