-- The steps of a text, as a ruleset.
use Rattle.std.specs.Prelude.{ℕ, Result, Ok, Err, refl}
use Rattle.js_tree.specs.declared.expr.Expr.TheVariants as e
use Rattle.js_tree.specs.declared.stmt.Stmt.TheVariants as st
use Rattle.js_rules.specs.declared.stop.Stop.{Stop}
use Rattle.js_rules.specs.Fixed.{Fixed}
use Rattle.js_rules.specs.World.{World}
use Rattle.js_rules.specs.Tasks.{Kind, Of, Task}
use Rattle.js_rules.specs.Prog.{Ret, Do}
use Rattle.js_rules.specs.Does.{Does, Evaluates, ret, throw, ask, look, put, make, charge, charge_refused, tick, tick_refused, enter, enter_refused, write, do_ok, do_err, catch_ok, catch_thrown, catch_fault, memory, lapse, by_rule}

-- a part that is evaluated last gives the result
pub tail : {fixed : Fixed} {d : ℕ} {K : Kind} {u : Task K} {old new : World} (r : Result (Of K) Stop) →
    Evaluates fixed d K u old new r → Does fixed d K (Do u Ret) old new r
tail (Ok x) h = do_ok h (ret refl refl)
tail (Err e) h = do_err h refl

pub ruleset does = (ret, throw, ask, look, put, make, charge, charge_refused, tick, tick_refused, enter, enter_refused, write, tail, do_ok, do_err, catch_ok, catch_thrown, catch_fault, memory, lapse)

pub ruleset nodes = (e.outs-This, e.outs-Name, e.outs-Num, e.outs-Str, e.outs-Bool, e.outs-Null, e.outs-Array, e.outs-Table, e.outs-Fun, e.outs-Member, e.outs-Index, e.outs-Call, e.outs-New, e.outs-Unary, e.outs-Step, e.outs-Binary, e.outs-And, e.outs-Or, e.outs-Cond, e.outs-Assign, e.outs-AssignOp, e.outs-Comma)

pub ruleset statements = (st.outs-Block, st.outs-Var, st.outs-Empty, st.outs-Expr, st.outs-If, st.outs-DoWhile, st.outs-While, st.outs-For, st.outs-ForIn, st.outs-Continue, st.outs-Break, st.outs-Return, st.outs-Throw, st.outs-Switch, st.outs-Try)

pub ruleset evaluates = (by_rule, does, nodes, statements)
