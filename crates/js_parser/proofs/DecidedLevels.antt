-- What is known of the rules that stand one level below others.
use Rattle.std.proofs.Common.{◌≡◌, ℕ, Bool, List}
use Rattle.grammar.specs.Reading.{may, Eats, Decided}
use Rattle.std.specs.Prelude.{None}
use Rattle.js_tree.specs.declared.code.FnCode.{FnCode}
use Rattle.js_nodes.specs.declared.context.Context.{Context}
use Rattle.js_nodes.specs.declared.context.Inside.{Inside}
use Rattle.js_nodes.specs.declared.series.State.{State}
use Rattle.js_nodes.specs.declared.series.Body.{Body}
use Rattle.js_nodes.specs.Next.{Next}
use Rattle.js_cursor.specs.Words.{R}
use Rattle.js_parser.specs.Levels.{Level}
use Rattle.js_parser.proofs.DecidedKinds.{operand_begins, statement_begins, source_begins}

-- One token decides in it, it reads one at least, and it begins with one of a class.
pub record Whole {A : Type 0} (class : Next → Bool) (g : R A) : Type 0 where
  pub decided : Decided None g
  pub eats : Eats g
  pub begin : (t : Next) → may g t ≡ class t

-- the same for each rule of a level
pub record Known (below : Level) : Type 0 where
  pub binary : (context : Context) (n : ℕ) (codes : List FnCode) → Whole operand_begins (below.binary context n codes)
  pub assign : (context : Context) (codes : List FnCode) → Whole operand_begins (below.assign context codes)
  pub expr : (context : Context) (codes : List FnCode) → Whole operand_begins (below.expr context codes)
  pub callee : (codes : List FnCode) → Decided None (below.callee codes)
  pub first : (codes : List FnCode) → Decided None (below.first codes)
  pub variables : (context : Context) (at : ℕ) (n : List ℕ) (added : State) → Decided None (below.variables context at n added)
  pub statement : (inside : Inside) (added : State) → Whole (statement_begins inside) (below.statement inside added)
  pub source : (inside : Inside) (b : Body) → Whole (source_begins inside) (below.source inside b)
