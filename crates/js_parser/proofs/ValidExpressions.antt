-- Expressions are valid (ECMA-262 5.1, 11.3 to 11.14).
use Rattle.std.proofs.Common.{◌≡◌, ℕ, zero, suc, ◌-◌, ◌<◌, Bool, true, false, cond, List, length, Option, Some, None, refl, arith}
use Rattle.std.specs.Prelude.{not, ◌&&◌, nat_le}
use Rattle.grammar.proofs.Giving.{kept, cond_gives}
use Rattle.js_lexer.specs.declared.token.Kind.{Kind}
use Rattle.js_lexer.specs.declared.token.Kind.TheVariants as k
use Rattle.js_lexer.specs.declared.token.Punct.TheVariants as p
use Rattle.js_lexer.specs.declared.token.Word.TheVariants as w
use Rattle.js_lexer.specs.declared.token.Token.{Token}
use Rattle.js_tree.specs.declared.code.FnCode.{FnCode}
use Rattle.js_tree.specs.declared.expr.Expr.{Expr, out-Expr}
use Rattle.js_tree.specs.declared.expr.Expr.TheVariants as e
use Rattle.js_tree.specs.Shapes.{is_name, is_target}
use Rattle.js_tree.specs.Valid.{assigns, Deletes, ExprNode}
use Rattle.js_nodes.specs.declared.fault.Fault.{Fault}
use Rattle.js_nodes.specs.declared.context.Context.{Context}
use Rattle.js_nodes.specs.declared.operand.Operand.{Operand}
use Rattle.js_nodes.specs.Next.{Next, of, shows, text}
use Rattle.js_nodes.specs.Operators.{is_assignment, is_step, is_delete, step_op, unary_op, binary_op, assignment_op, joined, assigned}
use Rattle.js_nodes.specs.Operands.{both, raised, operand, level_flaw, target_flaw, first_context, middle}
use Rattle.js_parser.specs.Levels.{Level}
use Rattle.js_cursor.specs.Questions.{is_postfix}
use Rattle.js_cursor.specs.Rules.{stepped, stepped_or_not, prefixed, prefix_end, lone_name}
use Rattle.js_parser.specs.Expressions.{postfix, flaw_of_prefix, prefix, unary, binds_at, joined_by, operation, binary, chosen, conditional, assigned_by, assigned_or_not, assign, comma, expr, first}
use Rattle.js_parser.proofs.ValidCodes.{Ready, adds_none, adds_both}
use Rattle.js_parser.proofs.ValidFits.{Fine, Has, use_of, no_flaw, level_left, target_left, left_height, right_height, both_height, FitsExpr, wider, node_fits, roomier}
use Rattle.js_parser.proofs.ValidLevels.{Valid}
use Rattle.js_parser.proofs.ValidPrimary.{leaf_fits}
use Rattle.js_parser.proofs.ValidChains.{over_fits, above_fits, left_fits}
use Rattle.js_cursor.specs.Words as words
use Rattle.js_parser.specs.Expressions as expressions

-- ---- operators

-- A prefix operator stands before a name only if it is no `delete`.
deletes : (kind : Kind) (x : Expr) → (is_delete kind ≡ true → is_name x ≡ false) → Deletes (unary_op kind) x
unfolding unary_op
deletes (k.Word w.Delete) x h = h refl
deletes (k.Word w.Void) x h = tt
deletes (k.Word w.Typeof) x h = tt
deletes (k.Punct p.Plus) x h = tt
deletes (k.Punct p.Minus) x h = tt
deletes (k.Punct p.BitNot) x h = tt
deletes _ x h = tt

-- An operator between two valid operands makes a valid node.
joined_node : (kind : Kind) (x y : Expr) (n : ℕ) (V : Expr → Type 0) → V x → V y → ExprNode n V (out-Expr (joined kind x y))
unfolding joined
joined_node (k.Punct p.And) x y n V a b = rw (e.outs-And x y) (a, b)
joined_node (k.Punct p.Or) x y n V a b = rw (e.outs-Or x y) (a, b)
joined_node kind x y n V a b = rw (e.outs-Binary (binary_op kind) x y) (a, b)

-- The operator of an assignment is one that stands with `=`.
does_assign : (kind : Kind) → assigns (assignment_op kind) ≡ true
unfolding assignment_op
does_assign (k.Punct p.PlusAssign) = refl
does_assign (k.Punct p.MinusAssign) = refl
does_assign (k.Punct p.StarAssign) = refl
does_assign (k.Punct p.SlashAssign) = refl
does_assign (k.Punct p.PercentAssign) = refl
does_assign (k.Punct p.ShiftLeftAssign) = refl
does_assign (k.Punct p.ShiftRightAssign) = refl
does_assign (k.Punct p.ShiftRightZeroAssign) = refl
does_assign (k.Punct p.BitAndAssign) = refl
does_assign (k.Punct p.BitXorAssign) = refl
does_assign _ = refl

-- An assignment to a target makes a valid node.
assigned_node : (kind : Kind) (x y : Expr) (n : ℕ) (V : Expr → Type 0) → is_target x ≡ true → V x → V y → ExprNode n V (out-Expr (assigned kind x y))
unfolding assigned
assigned_node (k.Punct p.Assign) x y n V t a b = rw (e.outs-Assign x y) (t, a, b)
assigned_node kind x y n V t a b = rw (e.outs-AssignOp (assignment_op kind) x y) (does_assign kind, t, a, b)

-- what a prefix operator's operand must be
step_flaw : (a b : Bool) (f : Fault) (o : Option Fault) → cond (a && not b) (Some f) o ≡ None → (a ≡ true → b ≡ true) × (o ≡ None)
step_flaw true true f o e = (λ _. refl, e)
step_flaw true false f o e = cc
step_flaw false b f o e = (λ h. cc, e)

-- What stands behind a `delete` with no flaw is no name.
delete_flaw : (a b : Bool) (f : Fault) → cond (a && b) (Some f) None ≡ None → a ≡ true → b ≡ false
delete_flaw true true f e h = cc
delete_flaw true false f e h = refl
delete_flaw false b f e h = cc

module _ (room : ℕ) (below : Level) (known : Valid room below) where
  -- ---- postfix and prefix operators

  stepped_fits : (cs : List FnCode) (x : Operand) (t : Next) → FitsExpr (suc room) cs x → (is_target x.value ≡ true) × (x.depth.height < suc room) → FitsExpr (suc room) cs (stepped x t)
  stepped_fits cs x None f h = f
  stepped_fits cs x (Some t) f h = over_fits room cs (e.Step (step_op t.kind) false x.value) x f h.1 (rw (e.outs-Step (step_op t.kind) false x.value) (h.0, f.valid))

  stepped_or_not_fits : (cs : List FnCode) (x : Operand) → FitsExpr (suc room) cs x → Has (stepped_or_not (suc room) x) (FitsExpr (suc room) cs)
  unfolding stepped_or_not words.sound words.takes
  stepped_or_not_fits cs x f = record {
    at = λ t. (
      (tt, λ _ e s. stepped_fits cs x t f (target_left (suc room) x (no_flaw (is_postfix t) (target_flaw (suc room) x) e))),
      λ _. f,
    );
  }

  postfix_fits : (cs : List FnCode) → Ready cs → Has (postfix (suc room) below cs) (FitsExpr (suc room) cs)
  unfolding postfix stepped_or_not words.sound words.takes
  postfix_fits cs h = record { at = λ t. use_of (left_fits room below known cs h) t _ (λ x s f. (stepped_or_not_fits cs x f).at s) }

  prefix_value_fits : (cs : List FnCode) (x : Operand) (t : Token) (b : Bool) → FitsExpr room cs x → (b ≡ true → is_target x.value ≡ true) → (is_delete t.kind ≡ true → is_name x.value ≡ false) → FitsExpr (suc room) cs (operand (cond b (e.Step (step_op t.kind) true x.value) (e.Unary (unary_op t.kind) x.value)) x.codes t.at (raised t.at x.depth))
  prefix_value_fits cs x t true f h k = node_fits (suc room) cs x.codes (e.Step (step_op t.kind) true x.value) t.at x.depth f.adds (omega (arith, f.height)) (rw (e.outs-Step (step_op t.kind) true x.value) (h refl, f.valid))
  prefix_value_fits cs x t false f h k = node_fits (suc room) cs x.codes (e.Unary (unary_op t.kind) x.value) t.at x.depth f.adds (omega (arith, f.height)) (rw (e.outs-Unary (unary_op t.kind) x.value) (deletes t.kind x.value k, f.valid))

  prefixed_fits : (cs : List FnCode) (x : Operand) (t : Next) → FitsExpr room cs x → flaw_of_prefix t x ≡ None → FitsExpr (suc room) cs (prefixed x t)
  prefixed_fits cs x None f e = roomier (suc room) (omega arith) f
  prefixed_fits cs x (Some t) f e =
      let h = step_flaw (is_step t.kind) (is_target x.value) _ _ e in
      prefix_value_fits cs x t (is_step t.kind) f h.0 (delete_flaw (is_delete t.kind) (is_name x.value) _ h.1)

  prefix_end_fits : (context : Context) (cs : List FnCode) (x : Operand) (t : Next) (o : Option Fault) → FitsExpr room cs x → flaw_of_prefix t x ≡ o → Has (prefix_end context t x o) (FitsExpr (suc room) cs)
  unfolding prefix_end
  prefix_end_fits context cs x t None f e = record { at = λ s. prefixed_fits cs x t f e }
  prefix_end_fits context cs x t (Some o) f e = record { at = λ s. tt }

  unary_fits : (context : Context) (cs : List FnCode) → Ready cs → Has (unary (suc room) below context cs) (FitsExpr (suc room) cs)
  unfolding unary prefix prefix_end words.deeper words.sound
  unary_fits context cs h = record {
    at = λ t. (
      (tt, λ _ _ s. use_of (known.binary context 0 cs h) s _ (λ x u f. (prefix_end_fits context cs x t (flaw_of_prefix t x) f refl).at u)),
      (postfix_fits cs h).at t,
    );
  }

  -- ---- operators between two operands

  joined_fits : (cs : List FnCode) (x y : Operand) (t : Next) → FitsExpr (suc room) cs x → x.depth.height < suc room → FitsExpr room x.codes y → FitsExpr (suc room) cs (joined_by t x y)
  joined_fits cs x y None f l k = f
  joined_fits cs x y (Some t) f l k = above_fits room cs (joined t.kind x.value y.value) x y f l k (λ V a b. joined_node t.kind x.value y.value (length y.codes) V a b)

  operation_fits : (context : Context) (n : ℕ) (cs : List FnCode) (x : Operand) → FitsExpr (suc room) cs x → Has (operation (suc room) below context n x) (FitsExpr (suc room) cs)
  unfolding operation words.sound words.takes
  operation_fits context n cs x f = record {
    at = λ t. (
      tt,
      λ _ e s. use_of (known.binary context (n - 1) x.codes f.adds.ready) s _ (λ y u k.
          joined_fits cs x y t f (level_left (suc room) x.depth (no_flaw (binds_at context n t) (level_flaw (suc room) x.depth) e)) k),
    );
  }

  pub binary_fits : (context : Context) (n : ℕ) (cs : List FnCode) → Ready cs → Has (binary (suc room) below context n cs) (FitsExpr (suc room) cs)
  unfolding binary
  binary_fits context zero cs h = unary_fits context cs h
  binary_fits context (suc n) cs h = record {
    at = λ t. use_of (binary_fits context n cs h) t _ (λ x s f.
        kept Fine (λ _ u. binds_at context (suc n) u) (operation (suc room) below context (suc n)) x s _ (FitsExpr (suc room) cs) f
        (λ y u k. (operation_fits context (suc n) cs y k).at u)
        (λ y u k. k));
  }

  cond_fits : (cs : List FnCode) (x y z : Operand) → FitsExpr (suc room) cs x → x.depth.height < suc room → FitsExpr room x.codes y → FitsExpr room y.codes z → FitsExpr (suc room) cs (operand (e.Cond x.value y.value z.value) z.codes x.at (raised x.at (both (both x.depth y.depth) z.depth)))
  cond_fits cs x y z f l k m =
      let d = both x.depth y.depth in
      let h = (both d z.depth).height in
      node_fits (suc room) cs z.codes (e.Cond x.value y.value z.value) x.at (both d z.depth) (adds_both f.adds (adds_both k.adds m.adds))
      (omega (arith, both_height d z.depth room (both_height x.depth y.depth room (omega arith) k.height) m.height))
      (rw (e.outs-Cond x.value y.value z.value) (
        wider f h z.codes (omega (arith, left_height x.depth y.depth, left_height d z.depth)) (adds_both k.adds m.adds),
        wider k h z.codes (omega (arith, right_height x.depth y.depth, left_height d z.depth)) m.adds,
        wider m h z.codes (right_height d z.depth) (adds_none z.codes m.adds.ready),
      ))

  chosen_fits : (context : Context) (cs : List FnCode) (x : Operand) → FitsExpr (suc room) cs x → Has (chosen (suc room) below context x) (FitsExpr (suc room) cs)
  unfolding chosen expressions.branches expressions.other_branch words.sign words.sound words.takes
  chosen_fits context cs x f = record {
    at = λ t. (
      (
        tt,
        λ _ e s. use_of (known.assign (middle context) x.codes f.adds.ready) s _ (λ y u k. λ _ _ v. use_of (known.assign context y.codes k.adds.ready) v _ (λ z r m.
            cond_fits cs x y z f (level_left (suc room) x.depth (no_flaw (shows p.Question t) (level_flaw (suc room) x.depth) e)) k m)),
      ),
      λ _. f,
    );
  }

  conditional_fits : (context : Context) (cs : List FnCode) → Ready cs → Has (conditional (suc room) below context cs) (FitsExpr (suc room) cs)
  unfolding conditional chosen expressions.branches expressions.other_branch words.sign words.sound words.takes
  conditional_fits context cs h = record { at = λ t. use_of (binary_fits context 10 cs h) t _ (λ x s f. (chosen_fits context cs x f).at s) }

  -- ---- assignments and commas

  assigned_fits : (cs : List FnCode) (x y : Operand) (t : Next) → FitsExpr (suc room) cs x → (is_target x.value ≡ true) × (x.depth.height < suc room) → FitsExpr room x.codes y → FitsExpr (suc room) cs (assigned_by t x y)
  assigned_fits cs x y None f l k = f
  assigned_fits cs x y (Some t) f l k = above_fits room cs (assigned t.kind x.value y.value) x y f l.1 k (λ V a b. assigned_node t.kind x.value y.value (length y.codes) V l.0 a b)

  assigned_or_not_fits : (context : Context) (cs : List FnCode) (x : Operand) → FitsExpr (suc room) cs x → Has (assigned_or_not (suc room) below context x) (FitsExpr (suc room) cs)
  unfolding assigned_or_not words.sound words.takes
  assigned_or_not_fits context cs x f = record {
    at = λ t. (
      (
        tt,
        λ _ e s. use_of (known.assign context x.codes f.adds.ready) s _ (λ y u k.
            assigned_fits cs x y t f (target_left (suc room) x (no_flaw (of is_assignment t) (target_flaw (suc room) x) e)) k),
      ),
      λ _. f,
    );
  }

  pub assign_fits : (context : Context) (cs : List FnCode) → Ready cs → Has (assign (suc room) below context cs) (FitsExpr (suc room) cs)
  unfolding assign assigned_or_not words.sound words.takes
  assign_fits context cs h = record { at = λ t. use_of (conditional_fits context cs h) t _ (λ x s f. (assigned_or_not_fits context cs x f).at s) }

  comma_fits : (context : Context) (cs : List FnCode) (x : Operand) → FitsExpr (suc room) cs x → Has (comma (suc room) below context x) (FitsExpr (suc room) cs)
  unfolding comma words.sound words.takes
  comma_fits context cs x f = record {
    at = λ t. (
      tt,
      λ _ q s. use_of (known.assign context x.codes f.adds.ready) s _ (λ y u k.
          above_fits room cs (e.Comma x.value y.value) x y f (level_left (suc room) x.depth (no_flaw (shows p.Comma t) (level_flaw (suc room) x.depth) q)) k (λ V a b. rw (e.outs-Comma x.value y.value) (a, b))),
    );
  }

  pub expr_fits : (context : Context) (cs : List FnCode) → Ready cs → Has (expr (suc room) below context cs) (FitsExpr (suc room) cs)
  unfolding expr
  expr_fits context cs h = record {
    at = λ t. use_of (assign_fits context cs h) t _ (λ x s f.
        kept Fine (λ _ u. shows p.Comma u) (comma (suc room) below context) x s _ (FitsExpr (suc room) cs) f (λ y u k. (comma_fits context cs y k).at u) (λ y u k. k));
  }

  -- ---- the first part of a `for` head

  lone_name_fits : (cs : List FnCode) → Ready cs → Has (lone_name cs) (FitsExpr (suc room) cs)
  unfolding lone_name words.sound
  lone_name_fits cs h = record { at = λ t. (tt, λ _ _ s. (tt, λ _. leaf_fits room below known cs t (e.Name (text t)) h (rw (e.outs-Name (text t)) tt))) }

  pub first_fits : (cs : List FnCode) → Ready cs → Has (first (suc room) below cs) (FitsExpr (suc room) cs)
  unfolding first
  first_fits cs h = record {
    at = λ t. cond_gives Fine (nat_le (suc room) 1) (lone_name cs) (below.expr first_context cs) t (λ x _. FitsExpr (suc room) cs x)
        ((lone_name_fits cs h).at t)
        (use_of (known.expr first_context cs h) t (λ x _. FitsExpr (suc room) cs x) (λ x s f. roomier (suc room) (omega arith) f));
  }
