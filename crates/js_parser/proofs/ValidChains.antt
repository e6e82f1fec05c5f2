-- Left-hand-side expressions are valid (ECMA-262 5.1, 11.2).
use Rattle.std.proofs.Common.{ℕ, suc, ◌<◌, Bool, List, [], length, Some, None, arith}
use Rattle.std.specs.Prelude.{All}
use Rattle.grammar.specs.Giving.{Gives}
use Rattle.grammar.specs.Grammar.{again}
use Rattle.grammar.proofs.Giving.{kept}
use Rattle.js_lexer.specs.declared.token.Kind.{Kind}
use Rattle.js_lexer.specs.declared.token.Kind.TheVariants as k
use Rattle.js_lexer.specs.declared.token.Punct.TheVariants as p
use Rattle.js_tree.specs.declared.code.FnCode.{FnCode}
use Rattle.js_tree.specs.declared.expr.Expr.{Expr, out-Expr}
use Rattle.js_tree.specs.declared.expr.Expr.TheVariants as e
use Rattle.js_tree.specs.Valid.{ExprNode, ValidExpr}
use Rattle.js_nodes.specs.declared.context.Closer.TheVariants as c
use Rattle.js_nodes.specs.declared.operand.Operand.{Operand}
use Rattle.js_nodes.specs.declared.operand.Row.{Row}
use Rattle.js_nodes.specs.Next.{Next, of, place, shows, text}
use Rattle.js_cursor.specs.Rules.{member_name}
use Rattle.js_nodes.specs.Operands.{nothing, both, raised, operand, over, above, row, row_more, context, level_flaw}
use Rattle.js_parser.specs.Levels.{Level}
use Rattle.js_parser.specs.Chains.{argument_more, some_arguments, arguments, index, call, link_kind, link_by, link, construction, callee, left}
use Rattle.js_nodes.specs.Classes.{is_access, is_link}
use Rattle.js_parser.proofs.ValidCodes.{Ready, adds_none, adds_both}
use Rattle.js_parser.proofs.ValidFits.{Fine, Has, use_of, no_flaw, level_left, left_height, right_height, both_height, FitsExpr, wider, node_fits, FitsRow, no_row, values_more, row_fits}
use Rattle.js_parser.proofs.ValidLevels.{Valid}
use Rattle.js_parser.proofs.ValidPrimary.{item_fits, primary_fits}
use Rattle.js_cursor.specs.Rules as rules
use Rattle.js_cursor.specs.Words as words
use Rattle.js_parser.specs.Chains as chains
use Rattle.js_parser.specs.Primary as primaries

-- A node on top of an operand fits where a level is left.
pub over_fits : (room : ℕ) (cs : List FnCode) (value : Expr) (x : Operand) → FitsExpr (suc room) cs x → x.depth.height < suc room → ExprNode (length x.codes) (ValidExpr x.depth.height (length x.codes)) (out-Expr value) → FitsExpr (suc room) cs (over value x)
over_fits room cs value x f l v = node_fits (suc room) cs x.codes value x.at x.depth f.adds l v

-- the same on top of two
pub above_fits : (room : ℕ) (cs : List FnCode) (value : Expr) (x y : Operand) → FitsExpr (suc room) cs x → x.depth.height < suc room → FitsExpr room x.codes y → ((V : Expr → Type 0) → V x.value → V y.value → ExprNode (length y.codes) V (out-Expr value)) → FitsExpr (suc room) cs (above value x y)
above_fits room cs value x y f l k v =
    let h = (both x.depth y.depth).height in
    node_fits (suc room) cs y.codes value x.at (both x.depth y.depth) (adds_both f.adds k.adds) (omega (arith, both_height x.depth y.depth room (omega arith) k.height))
    (v (ValidExpr h (length y.codes)) (wider f h y.codes (left_height x.depth y.depth) k.adds) (wider k h y.codes (right_height x.depth y.depth) (adds_none y.codes k.adds.ready)))

-- the same on top of one and a row
with_row : (room : ℕ) (cs : List FnCode) (value : Expr) (at : ℕ) (x : Operand) (r : Row) {more : ℕ} → FitsExpr more cs x → x.depth.height < suc room → FitsRow room x.codes r → ((V : Expr → Type 0) → V x.value → All V r.values → ExprNode (length r.codes) V (out-Expr value)) → FitsExpr (suc room) cs (operand value r.codes at (raised at (both x.depth r.depth)))
with_row room cs value at x r f l k v =
    let h = (both x.depth r.depth).height in
    node_fits (suc room) cs r.codes value at (both x.depth r.depth) (adds_both f.adds k.adds) (omega (arith, both_height x.depth r.depth room (omega arith) k.height))
    (v (ValidExpr h (length r.codes)) (wider f h r.codes (left_height x.depth r.depth) k.adds) (values_more r.depth.height h (length r.codes) (length r.codes) r.values (right_height x.depth r.depth) (omega arith) k.valid))

module _ (room : ℕ) (below : Level) (known : Valid room below) where
  -- ---- arguments

  some_arguments_fit : (cs : List FnCode) → Ready cs → Has (some_arguments below cs) (FitsRow room cs)
  unfolding some_arguments argument_more primaries.item words.sign
  some_arguments_fit cs h = record {
    at = λ t. use_of (known.assign (context c.Paren) cs h) t _ (λ y s k.
        kept Fine (λ _ u. shows p.Comma u) (argument_more below) (row_more (row [] cs nothing) y) s _ (FitsRow room cs) (row_fits (no_row room cs h) k)
        (λ r u f. λ _ _ v. item_fits room below known (context c.Paren) cs r f v)
        (λ r u f. λ _ _ _. f));
  }

  arguments_fit : (cs : List FnCode) → Ready cs → Has (arguments below cs) (FitsRow room cs)
  unfolding arguments words.sign
  arguments_fit cs h = record { at = λ t. (λ _ _ _. no_row room cs h, λ _. (some_arguments_fit cs h).at t) }

  -- ---- properties and calls

  index_fits : (cs : List FnCode) (x : Operand) → FitsExpr (suc room) cs x → x.depth.height < suc room → Has (index below x) (FitsExpr (suc room) cs)
  unfolding index rules.indexed words.sign
  index_fits cs x f l = record {
    at = λ t. use_of (known.expr (context c.Bracket) x.codes f.adds.ready) t _ (λ y s k. λ _ _ _.
        above_fits room cs (e.Index x.value y.value) x y f l k (λ V a b. rw (e.outs-Index x.value y.value) (a, b)));
  }

  call_fits : (cs : List FnCode) (x : Operand) → FitsExpr (suc room) cs x → x.depth.height < suc room → Has (call below x) (FitsExpr (suc room) cs)
  unfolding call
  call_fits cs x f l = record {
    at = λ t. use_of (arguments_fit x.codes f.adds.ready) t _ (λ r s k.
        with_row room cs (e.Call x.value r.values) x.at x r f l k (λ V a b. rw (e.outs-Call x.value r.values) (a, b)));
  }

  link_kind_fits : (cs : List FnCode) (x : Operand) (kind : Kind) → FitsExpr (suc room) cs x → x.depth.height < suc room → Has (link_kind below x kind) (FitsExpr (suc room) cs)
  unfolding member_name call index link_kind rules.indexed rules.member words.sign
  link_kind_fits cs x (k.Punct p.Dot) f l = record { at = λ t. λ _ _ _. over_fits room cs (e.Member x.value (text t)) x f l (rw (e.outs-Member x.value (text t)) f.valid) }
  link_kind_fits cs x (k.Punct p.LeftBracket) f l = index_fits cs x f l
  link_kind_fits cs x _ f l = call_fits cs x f l

  link_by_fits : (cs : List FnCode) (x : Operand) (t : Next) → FitsExpr (suc room) cs x → x.depth.height < suc room → Has (link_by below x t) (FitsExpr (suc room) cs)
  unfolding call index link_by link_kind rules.indexed rules.member words.sign
  link_by_fits cs x None f l = record { at = λ s. tt }
  link_by_fits cs x (Some t) f l = link_kind_fits cs x t.kind f l

  link_fits : (class : Kind → Bool) (cs : List FnCode) (x : Operand) → FitsExpr (suc room) cs x → Has (link class (suc room) below x) (FitsExpr (suc room) cs)
  unfolding link call index link_by link_kind rules.indexed rules.member words.sign words.sound words.takes
  link_fits class cs x f = record {
    at = λ t. (
      tt,
      λ _ e s.
          (link_by_fits cs x t f (level_left (suc room) x.depth (no_flaw (of class t) (level_flaw (suc room) x.depth) e))).at s,
    );
  }

  links_fit : (class : Kind → Bool) (cs : List FnCode) (x : Operand) → FitsExpr (suc room) cs x → (t : Next) → Gives Fine (again (λ _ u. of class u) (link class (suc room) below) x) t (λ v _. FitsExpr (suc room) cs v)
  links_fit class cs x f t = kept Fine (λ _ u. of class u) (link class (suc room) below) x t _ (FitsExpr (suc room) cs) f (λ y u k. (link_fits class cs y k).at u) (λ y u k. k)

  -- ---- `new`

  new_fits : (cs : List FnCode) (at : ℕ) (x : Operand) (r : Row) → FitsExpr room cs x → FitsRow room x.codes r → FitsExpr (suc room) cs (operand (e.New x.value r.values) r.codes at (raised at (both x.depth r.depth)))
  new_fits cs at x r f k = with_row room cs (e.New x.value r.values) at x r f (omega (arith, f.height)) k (λ V a b. rw (e.outs-New x.value r.values) (a, b))

  construction_fits : (cs : List FnCode) → Ready cs → Has (construction (suc room) below cs) (FitsExpr (suc room) cs)
  unfolding construction chains.new_arguments words.deeper words.sign words.sound
  construction_fits cs h = record {
    at = λ t. (
      tt,
      λ _ _ s. use_of (known.callee cs h) s _ (λ x u f. (
        λ _ _ v. use_of (arguments_fit x.codes f.adds.ready) v _ (λ r z k. new_fits cs (place t) x r f k),
        λ _. new_fits cs (place t) x (row [] x.codes nothing) f (no_row room x.codes f.adds.ready),
      )),
    );
  }

  -- ---- both

  pub callee_fits : (cs : List FnCode) → Ready cs → Has (callee (suc room) below cs) (FitsExpr (suc room) cs)
  unfolding callee chains.head
  callee_fits cs h = record {
    at = λ t. (
      use_of (construction_fits cs h) t _ (λ x s f. links_fit is_access cs x f s),
      use_of (primary_fits room below known cs h) t _ (λ x s f. links_fit is_access cs x f s),
    );
  }

  pub left_fits : (cs : List FnCode) → Ready cs → Has (left (suc room) below cs) (FitsExpr (suc room) cs)
  unfolding left chains.head
  left_fits cs h = record {
    at = λ t. (
      use_of (construction_fits cs h) t _ (λ x s f. links_fit is_link cs x f s),
      use_of (primary_fits room below known cs h) t _ (λ x s f. links_fit is_link cs x f s),
    );
  }
