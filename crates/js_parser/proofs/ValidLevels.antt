-- What is known of the rules that stand one level below others: what they give is valid with so many levels.
use Rattle.std.proofs.Common.{◌≡◌, ℕ, ◌≤◌, true, List, [], length, arith}
use Rattle.std.specs.Prelude.{All}
use Rattle.std.proofs.lemmas.List.Elements.{All-nil, All-weaker}
use Rattle.js_tree.specs.declared.code.FnCode.{FnCode}
use Rattle.js_tree.specs.declared.stmt.Stmt.{Stmt, out-Stmt}
use Rattle.js_tree.specs.Valid.{AreDistinct, Surroundings, first_shape, ValidStmt, IsNamed}
use Rattle.js_nodes.specs.declared.context.Context.{Context}
use Rattle.js_nodes.specs.declared.context.Inside.{Inside}
use Rattle.js_nodes.specs.declared.series.State.{State}
use Rattle.js_nodes.specs.declared.series.Said.{Said}
use Rattle.js_nodes.specs.declared.series.Body.{Body}
use Rattle.js_nodes.specs.Operands.{nothing}
use Rattle.js_nodes.specs.Pieces.{state, body}
use Rattle.js_parser.specs.Levels.{Level}
use Rattle.js_parser.proofs.ValidMore.{stmt_more}
use Rattle.js_parser.proofs.ValidCodes.{Ready, Adds, adds_none}
use Rattle.js_parser.proofs.ValidFits.{Has, FitsExpr}

-- the same, as validity says it
abbrev pub around : Inside → Surroundings
around inside = record { function = inside.function; turning = inside.turning; leaving = inside.leaving }

-- What was added so far is ready: its codes are valid, and its names differ.
pub record FitsState (added : State) : Type 0 where
  pub ready : Ready added.codes
  pub vars : AreDistinct added.vars

pub record FitsSaid (room : ℕ) (p : Surroundings) (cs : List FnCode) (y : Said) : Type 0 where
  pub adds : Adds cs y.state.codes
  pub vars : AreDistinct y.state.vars
  pub height : y.depth.height ≤ room
  pub valid : ValidStmt y.depth.height (length y.state.codes) p y.stmt

pub record FitsBody (room : ℕ) (p : Surroundings) (cs : List FnCode) (b : Body) : Type 0 where
  pub adds : Adds cs b.state.codes
  pub vars : AreDistinct b.state.vars
  pub height : b.depth.height ≤ room
  pub funs : All (IsNamed b.state.codes) b.funs
  pub valid : All (ValidStmt b.depth.height (length b.state.codes) p) b.stmts

-- a `var` of a `for` head
pub record FitsVar (room : ℕ) (p : Surroundings) (cs : List FnCode) (y : Said) : Type 0 where
  pub fits : FitsSaid room p cs y
  pub first : first_shape (out-Stmt y.stmt) ≡ true

pub record Valid (room : ℕ) (below : Level) : Type 0 where
  pub small : room ≤ 128
  pub binary : (x : Context) (n : ℕ) (cs : List FnCode) → Ready cs → Has (below.binary x n cs) (FitsExpr room cs)
  pub assign : (x : Context) (cs : List FnCode) → Ready cs → Has (below.assign x cs) (FitsExpr room cs)
  pub expr : (x : Context) (cs : List FnCode) → Ready cs → Has (below.expr x cs) (FitsExpr room cs)
  pub callee : (cs : List FnCode) → Ready cs → Has (below.callee cs) (FitsExpr room cs)
  pub first : (cs : List FnCode) → Ready cs → Has (below.first cs) (FitsExpr room cs)
  pub variables : (x : Context) (at : ℕ) (n : List ℕ) (p : Surroundings) (added : State) → FitsState added → Has (below.variables x at n added) (FitsVar room p added.codes)
  pub statement : (inside : Inside) (added : State) → FitsState added → Has (below.statement inside added) (FitsSaid room (around inside) added.codes)
  pub source : (inside : Inside) (cs : List FnCode) (b : Body) → FitsBody room (around inside) cs b → Has (below.source inside b) (FitsBody room (around inside) cs)

-- A body begins with nothing.
pub no_body : (room : ℕ) (p : Surroundings) (cs : List FnCode) → Ready cs → FitsBody room p cs (body [] (state cs []) [] nothing)
no_body room p cs h = record { adds = adds_none cs h; vars = tt; height = omega arith; funs = All-nil (IsNamed cs); valid = All-nil (ValidStmt 0 (length cs) p) }

-- Statements are valid with more levels and codes.
pub stmts_more : (g h n m : ℕ) (p : Surroundings) (xs : List Stmt) → g ≤ h → n ≤ m → All (ValidStmt g n p) xs → All (ValidStmt h m p) xs
stmts_more g h n m p xs l k all = All-weaker (ValidStmt g n p) (ValidStmt h m p) (λ x v. stmt_more g h n m p x l k v) xs all
