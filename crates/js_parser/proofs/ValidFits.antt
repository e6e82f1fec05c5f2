-- What fits: pieces that are valid with as many levels as they take, where all codes so far are valid.
use Rattle.std.proofs.Common.{◌≡◌, ℕ, ◌+◌, ◌≤◌, ◌<◌, Bool, true, false, cond, List, [], length, Option, Some, None, refl, subst, sym, arith}
use Rattle.std.specs.Prelude.{All, not, ◌&&◌}
use Rattle.std.proofs.lemmas.Bool.Decides.{nat_tests}
use Rattle.std.proofs.lemmas.List.Elements.{All-nil, All-weaker, All-push}
use Rattle.grammar.specs.Giving.{Gives}
use Rattle.grammar.specs.Reading.{is_some}
use Rattle.grammar.proofs.Giving.{gives_more}
use Rattle.js_lexer.specs.Tokens.{IsNumeral}
use Rattle.js_tree.specs.declared.code.FnCode.{FnCode}
use Rattle.js_tree.specs.declared.expr.Expr.{Expr, out-Expr}
use Rattle.js_tree.specs.Shapes.{is_target}
use Rattle.js_tree.specs.Valid.{ExprNode, ValidExpr}
use Rattle.js_nodes.specs.declared.fault.Fault.{Fault}
use Rattle.js_nodes.specs.declared.depth.Depth.{Depth}
use Rattle.js_nodes.specs.declared.operand.Operand.{Operand}
use Rattle.js_nodes.specs.declared.operand.Row.{Row}
use Rattle.js_nodes.specs.Next.{Next}
use Rattle.js_cursor.specs.Words.{R}
use Rattle.js_nodes.specs.Operands.{nothing, both, raised, operand, level_flaw, target_flaw, row, row_more}
use Rattle.js_parser.proofs.ValidMore.{expr_more, expr_node}
use Rattle.js_parser.proofs.ValidCodes.{Ready, Adds, adds_length, adds_none, adds_both}

-- ---- what rules have

-- A number among the tokens is one from 0 to 2^53 - 1.
abbrev pub Fine : Next → Type 0
Fine None = Unit {0}
Fine (Some t) = IsNumeral t.kind

-- Each value of the rule has the property, whatever it begins at.
pub record Has {A : Type 0} (g : R A) (P : A → Type 0) : Type 0 where
  pub at : (t : Next) → Gives Fine g t (λ v _. P v)

-- what stands behind a rule, by what it has
pub use_of : {A : Type 0} {g : R A} {P : A → Type 0} → Has g P → (t : Next) (S : A → Next → Type 0) → ((v : A) (s : Next) → P v → S v s) → Gives Fine g t S
use_of {A} {g} {P} h t S k = gives_more Fine g t (λ v _. P v) S k (h.at t)

-- ---- tests

-- A token of a class that shows no flaw is let through.
pub let_through : (b : Bool) (f : Option Fault) → (b && not (is_some f)) ≡ true → (b ≡ true) × (f ≡ None)
let_through true None e = (refl, refl)
let_through true (Some f) e = cc
let_through false f e = cc

-- What stands before the token has no flaw.
pub no_flaw : (b : Bool) (f : Option Fault) → (b && not (is_some (cond b f None))) ≡ true → f ≡ None
no_flaw true f e = (let_through true f e).1
no_flaw false f e = cc

-- A level is left.
pub level_left : (room : ℕ) (d : Depth) → level_flaw room d ≡ None → d.height < room
level_left room d e = grind (arith, nat_tests)

-- What is assigned is a target, and a level is left.
pub target_left : (room : ℕ) (x : Operand) → target_flaw room x ≡ None → (is_target x.value ≡ true) × (x.depth.height < room)
target_left room x e = go (is_target x.value) _ e
  where
    go : (b : Bool) (f : Fault) → cond b (level_flaw room x.depth) (Some f) ≡ None → (b ≡ true) × (x.depth.height < room)
    go true f e = (refl, level_left room x.depth e)
    go false f e = cc

-- ---- levels

-- A node takes one level more than its parts.
pub height_raised : (at : ℕ) (d : Depth) → (raised at d).height ≡ d.height + 1
unfolding raised
height_raised at d = grind (arith, nat_tests)

-- Two pieces take as many levels as the first, or more.
pub left_height : (d e : Depth) → d.height ≤ (both d e).height
unfolding both
left_height d e = grind (arith, nat_tests)

-- They take as many as the second, or more.
pub right_height : (d e : Depth) → e.height ≤ (both d e).height
unfolding both
right_height d e = grind (arith, nat_tests)

-- They take no more than each may take.
pub both_height : (d e : Depth) (n : ℕ) → d.height ≤ n → e.height ≤ n → (both d e).height ≤ n
unfolding both
both_height d e n h k = grind (arith, nat_tests)

-- ---- expressions

pub record FitsExpr (room : ℕ) (cs : List FnCode) (x : Operand) : Type 0 where
  pub adds : Adds cs x.codes
  pub height : x.depth.height ≤ room
  pub valid : ValidExpr x.depth.height (length x.codes) x.value

-- It is valid with more levels and codes.
pub wider : {room : ℕ} {cs : List FnCode} {x : Operand} → FitsExpr room cs x → (h : ℕ) (ds : List FnCode) → x.depth.height ≤ h → Adds x.codes ds → ValidExpr h (length ds) x.value
wider {room} {cs} {x} f h ds l a = expr_more x.depth.height h (length x.codes) (length ds) x.value l (adds_length a) f.valid

-- A node over valid parts fits where a level is left.
pub node_fits : (room : ℕ) (cs ds : List FnCode) (value : Expr) (at : ℕ) (d : Depth) → Adds cs ds → d.height < room → ExprNode (length ds) (ValidExpr d.height (length ds)) (out-Expr value) → FitsExpr room cs (operand value ds at (raised at d))
node_fits room cs ds value at d a l v = record {
  adds = a;
  height = omega (arith, height_raised at d);
  valid = subst (λ (n : ℕ). ValidExpr n (length ds) value) (sym (height_raised at d)) (expr_node d.height (length ds) value v);
}

-- the same, with fewer levels for it
pub roomier : {room : ℕ} {cs : List FnCode} {x : Operand} → (more : ℕ) → room ≤ more → FitsExpr room cs x → FitsExpr more cs x
roomier {room} {cs} {x} more l f = record { adds = f.adds; height = omega (arith, f.height); valid = f.valid }

-- It fits behind codes that were added before it.
pub behind : {room : ℕ} {cs ds : List FnCode} {x : Operand} → Adds cs ds → FitsExpr room ds x → FitsExpr room cs x
behind {room} {cs} {ds} {x} a f = record { adds = adds_both a f.adds; height = f.height; valid = f.valid }

-- ---- rows of expressions

pub record FitsRow (room : ℕ) (cs : List FnCode) (r : Row) : Type 0 where
  pub adds : Adds cs r.codes
  pub height : r.depth.height ≤ room
  pub valid : All (ValidExpr r.depth.height (length r.codes)) r.values

-- A row begins with nothing.
pub no_row : (room : ℕ) (cs : List FnCode) → Ready cs → FitsRow room cs (row [] cs nothing)
no_row room cs h = record { adds = adds_none cs h; height = omega arith; valid = All-nil (ValidExpr 0 (length cs)) }

-- Expressions are valid with more levels and codes.
pub values_more : (g h n m : ℕ) (xs : List Expr) → g ≤ h → n ≤ m → All (ValidExpr g n) xs → All (ValidExpr h m) xs
values_more g h n m xs l k all = All-weaker (ValidExpr g n) (ValidExpr h m) (λ x v. expr_more g h n m x l k v) xs all

-- A row fits with one expression more.
pub row_fits : {room : ℕ} {cs : List FnCode} {r : Row} {y : Operand} → FitsRow room cs r → FitsExpr room r.codes y → FitsRow room cs (row_more r y)
row_fits {room} {cs} {r} {y} f k =
    let h = (both r.depth y.depth).height in
    record {
      adds = adds_both f.adds k.adds;
      height = both_height r.depth y.depth room f.height k.height;
      valid = All-push (ValidExpr h (length y.codes)) r.values y.value
          (values_more r.depth.height h (length r.codes) (length y.codes) r.values (left_height r.depth y.depth) (adds_length k.adds) f.valid)
          (wider k h y.codes (right_height r.depth y.depth) (adds_none y.codes k.adds.ready));
    }
