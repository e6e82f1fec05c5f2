use Rattle.std.proofs.Common.{◌≡◌, ap, ◌∙◌}
use Rattle.js_ops.specs.declared.comparisons.Relation.TheVariants as r
use Rattle.js_ops.specs.Operators.{binary, compared, equal, negated}
use Rattle.js_ops.specs.Parts.{texts_stand, numbers_stand}
use Rattle.js_ops.proofs.Givens.{negated_answers}
use Rattle.js_ops.proofs.Order.{less_stands, greater_stands, less_equal_stands, greater_equal_stands}
use Rattle.js_ops.proofs.operators.binary.Goals as goal

pub returns-in-NotEqual : goal.returns-in-NotEqual
returns-in-NotEqual c =
    let a = c.args.a.now in
    let b = c.args.b.now in
    let given : binary c.args.op a b ≡ negated (equal a b) = ap (λ op. binary op a b) c.in-NotEqual.is in
    rw (given, c.untruth.ensures) (negated_answers (equal a b) c.equal-in-NotEqual.result _ _ c.equal-in-NotEqual.ensures)

pub returns-in-Less : goal.returns-in-Less
returns-in-Less c =
    let a = c.args.a.now in
    let b = c.args.b.now in
    let given : binary c.args.op a b ≡ compared a b (texts_stand r.Less) (numbers_stand r.Less) = ap (λ op. binary op a b) c.in-Less.is ∙ less_stands a b in
    rw (given, c.truth-in-Less.ensures) c.compared.ensures

pub returns-in-Greater : goal.returns-in-Greater
returns-in-Greater c =
    let a = c.args.a.now in
    let b = c.args.b.now in
    let given : binary c.args.op a b ≡ compared a b (texts_stand r.Greater) (numbers_stand r.Greater) = ap (λ op. binary op a b) c.in-Greater.is ∙ greater_stands a b in
    rw (given, c.truth-in-Greater.ensures) c.compared-in-Greater.ensures

pub returns-in-LessEqual : goal.returns-in-LessEqual
returns-in-LessEqual c =
    let a = c.args.a.now in
    let b = c.args.b.now in
    let given : binary c.args.op a b ≡ compared a b (texts_stand r.LessEqual) (numbers_stand r.LessEqual) = ap (λ op. binary op a b) c.in-LessEqual.is ∙ less_equal_stands a b in
    rw (given, c.truth-in-LessEqual.ensures) c.compared-in-LessEqual.ensures

pub returns-in-GreaterEqual : goal.returns-in-GreaterEqual
returns-in-GreaterEqual c =
    let a = c.args.a.now in
    let b = c.args.b.now in
    let given : binary c.args.op a b ≡ compared a b (texts_stand r.GreaterEqual) (numbers_stand r.GreaterEqual) = ap (λ op. binary op a b) c.in-GreaterEqual.is ∙ greater_equal_stands a b in
    rw (given, c.truth-in-GreaterEqual.ensures) c.compared-in-GreaterEqual.ensures
