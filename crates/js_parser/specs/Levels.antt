-- The rules that stand one level below others.
use Rattle.std.specs.Prelude.{ℕ, List}
use Rattle.js_tree.specs.declared.code.FnCode.{FnCode}
use Rattle.js_nodes.specs.declared.context.Context.{Context}
use Rattle.js_nodes.specs.declared.context.Inside.{Inside}
use Rattle.js_nodes.specs.declared.operand.Operand.{Operand}
use Rattle.js_nodes.specs.declared.series.State.{State}
use Rattle.js_nodes.specs.declared.series.Said.{Said}
use Rattle.js_nodes.specs.declared.series.Body.{Body}
use Rattle.js_cursor.specs.Words.{R}

-- Each rule takes the codes so far, or all that was added so far, and gives them with what it adds.
pub record Level : Type 1 where
  -- operands whose operators bind at least so tightly
  pub binary : Context → ℕ → List FnCode → R Operand
  pub assign : Context → List FnCode → R Operand
  pub expr : Context → List FnCode → R Operand
  -- what stands behind `new`, before its arguments
  pub callee : List FnCode → R Operand
  -- the expression of the first part of a `for` head
  pub first : List FnCode → R Operand
  -- a `var`, which begins here, behind the first name
  pub variables : Context → ℕ → List ℕ → State → R Said
  pub statement : Inside → State → R Said
  pub source : Inside → Body → R Body
