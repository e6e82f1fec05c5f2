use Rattle.std.proofs.Common.{◌≡◌, ◌-◌, ◌<◌, length, ◌++◌, ◌∷◌, None, []}
use Rattle.grammar.specs.Grammar.{again, done}
use Rattle.grammar.specs.Reading.{read, and_then}
use Rattle.js_nodes.specs.Operands.{both}
use Rattle.js_parser.specs.Statements as statements
use Rattle.js_parser.specs.Sources.{level}
use Rattle.js_cursor.specs.Questions as questions
use Rattle.js_nodes.specs.Pieces as pieces
use Rattle.js_parser.proofs.rules.Rules.case_body.Given as goal

abbrev pub invariant-statements : goal.invariant-statements
invariant-statements g l = record {
  height : l.series.depth.height < l.room;
  reading : read None (statements.case_body (level (l.room - 1)) l.inside l.fn.cases l.fn.test) l.fn.tokens
      ≡ and_then (read None (again (λ _ t. questions.in_case t) (statements.series_more (pieces.choosing l.inside) (level (l.room - 1))) l.series) l.tokens) (λ z r. read None (done (pieces.cases (l.fn.cases.cases ++ record { test = l.test; body = z.stmts } ∷ []) z.state l.fn.cases.has_default (both l.fn.cases.depth z.depth))) r);
}

abbrev pub decreases-statements : goal.decreases-statements
decreases-statements g l = length l.tokens
