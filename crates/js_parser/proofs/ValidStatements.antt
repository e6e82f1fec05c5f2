-- Statements are valid (ECMA-262 5.1, section 12).
use Rattle.std.proofs.Common.{◌≡◌, ℕ, suc, ◌≤◌, Bool, true, false, List, [], length, Option, Some, None, refl, arith}
use Rattle.std.specs.Prelude.{All, not, ◌&&◌}
use Rattle.grammar.specs.Giving.{Gives}
use Rattle.grammar.specs.Grammar.{done, again}
use Rattle.grammar.specs.Words.{◌>>=◌}
use Rattle.grammar.proofs.Giving.{kept}
use Rattle.js_lexer.specs.declared.token.Punct.TheVariants as p
use Rattle.js_lexer.specs.declared.token.Word.TheVariants as w
use Rattle.js_tree.specs.declared.code.FnCode.{FnCode}
use Rattle.js_tree.specs.declared.expr.Expr.{Expr}
use Rattle.js_tree.specs.declared.stmt.Stmt.{Stmt, out-Stmt}
use Rattle.js_tree.specs.declared.stmt.Stmt.TheVariants as s
use Rattle.js_tree.specs.declared.stmt.Handler.{Handler}
use Rattle.js_tree.specs.Valid.{AreDistinct, IfThere, ValidExpr, Surroundings, in_switch, counted, defaults, StmtNode, ValidStmt}
use Rattle.js_nodes.specs.declared.context.Closer.TheVariants as c
use Rattle.js_nodes.specs.declared.context.Context.{Context}
use Rattle.js_nodes.specs.declared.context.Inside.{Inside}
use Rattle.js_nodes.specs.declared.depth.Depth.{Depth}
use Rattle.js_nodes.specs.declared.operand.Operand.{Operand}
use Rattle.js_nodes.specs.declared.series.State.{State}
use Rattle.js_nodes.specs.declared.series.Said.{Said}
use Rattle.js_nodes.specs.declared.series.Series.{Series}
use Rattle.js_nodes.specs.declared.series.Decls.{Decls}
use Rattle.js_nodes.specs.declared.series.Cases.{Cases}
use Rattle.js_nodes.specs.Next.{Next, place, shows, says, text}
use Rattle.js_nodes.specs.Operands.{nothing, both, context}
use Rattle.js_cursor.specs.Words.{R}
use Rattle.js_parser.specs.Levels.{Level}
use Rattle.js_nodes.specs.Pieces.{state}
use Rattle.js_cursor.specs.Questions.{in_block}
use Rattle.js_nodes.specs.Pieces.{said, series, decls, cases, braces, before_else, turning, doing, choosing}
use Rattle.js_parser.specs.Statements.{series_more, statements, braced, block_statement, initial, decl_more, variables, var_statement, else_part, if_statement, do_statement, while_statement, return_statement, throw_statement, case_body, case_part, switch_cases, switch_statement, handler, finally_part, caught, catch_part, try_statement, expression_statement}
use Rattle.js_cursor.specs.Rules.{jump}
use Rattle.js_cursor.specs.Questions.{in_case, is_case}
use Rattle.js_parser.proofs.ValidCodes.{adds_length, Adds, adds_none, adds_both}
use Rattle.js_parser.proofs.ValidFits.{Fine, Has, use_of, left_height, right_height, both_height, FitsExpr, wider}
use Rattle.js_parser.proofs.ValidLevels.{around, FitsState, FitsSaid, FitsVar, Valid, stmts_more}
use Rattle.js_parser.proofs.ValidSeries.{said_fits, said_wider, after_said, FitsSeries, after_series, no_series, series_wider, series_fits, FitsDecls, no_decls, decls_fit, Counts, FitsCases, no_cases, cases_fit, cases_wider, cases_behind, cases_default}
use Rattle.js_cursor.specs.Rules as rules
use Rattle.js_cursor.specs.Words as words
use Rattle.js_parser.specs.Statements as statement_rules

-- what was added so far, with the codes behind an expression
pub after_expr : {room : ℕ} {added : State} {x : Operand} → FitsState added → FitsExpr room added.codes x → FitsState (state x.codes added.vars)
after_expr {room} {added} {x} f k = record { ready = k.adds.ready; vars = f.vars }

-- A `default` that is taken is the first.
seen_none : (a b : Bool) → (a && not b) ≡ true → b ≡ false
seen_none true true e = cc
seen_none true false e = refl
seen_none false b e = cc

module _ (room : ℕ) (below : Level) (known : Valid room below) where
  -- ---- blocks

  rows_fit : (inside : Inside) (cs : List FnCode) (y : Series) → FitsSeries room (around inside) cs y → Has (series_more inside below y) (FitsSeries room (around inside) cs)
  unfolding series_more
  rows_fit inside cs y f = record { at = λ t. use_of (known.statement inside y.state (after_series f)) t _ (λ x u k. series_fits f k) }

  statements_fit : (inside : Inside) (added : State) → FitsState added → Has (statements inside below added) (FitsSeries room (around inside) added.codes)
  unfolding statements series_more
  statements_fit inside added f = record {
    at = λ t. kept Fine (λ _ u. in_block u) (series_more inside below) (series [] added nothing) t _ (FitsSeries room (around inside) added.codes)
        (no_series room (around inside) added f)
        (λ y u k. (rows_fit inside added.codes y k).at u)
        (λ y u k. k);
  }

  pub block_fits : (inside : Inside) (added : State) (t : Next) → FitsState added → Has (block_statement below inside added t) (FitsSaid (suc room) (around inside) added.codes)
  unfolding block_statement statement_rules.block words.sign
  block_fits inside added t f = record {
    at = λ u. use_of (statements_fit (braces inside) added f) u _ (λ y r k. λ _ _ _.
        said_fits room (around inside) added.codes (s.Block y.stmts) y.state (place t) y.depth k.adds k.vars k.height (rw (s.outs-Block y.stmts) k.valid));
  }

  -- ---- `var`

  initial_fits : (x : Context) (n : List ℕ) (cs : List FnCode) (d : Decls) → FitsDecls room cs d → Has (initial (suc room) below x n d) (FitsDecls room cs)
  unfolding initial words.deeper words.name words.sound
  initial_fits x n cs d f = record {
    at = λ t. (
      (tt, λ _ _ u. use_of (known.assign x d.state.codes f.adds.ready) u _ (λ y r k. decls_fit f n (Some y.value) y.codes y.depth k.adds k.height k.valid)),
      λ _. decls_fit f n None d.state.codes nothing (adds_none d.state.codes f.adds.ready) (omega arith) tt,
    );
  }

  decl_more_fits : (x : Context) (cs : List FnCode) (d : Decls) → FitsDecls room cs d → Has (decl_more (suc room) below x d) (FitsDecls room cs)
  unfolding decl_more initial words.deeper words.name words.sign words.sound
  decl_more_fits x cs d f = record { at = λ t. λ _ _ u. (tt, λ _ _ v. (initial_fits x (text u) cs d f).at v) }

  var_fits : (q : Surroundings) (cs : List FnCode) (at : ℕ) (d : Decls) → FitsDecls room cs d → FitsVar (suc room) q cs (said (s.Var d.decls) d.state at d.depth)
  var_fits q cs at d f = record {
    fits = said_fits room q cs (s.Var d.decls) d.state at d.depth f.adds f.vars f.height (rw (s.outs-Var d.decls) f.valid);
    first = rw (s.outs-Var d.decls) refl;
  }

  decls_then : (x : Context) (at : ℕ) (q : Surroundings) (cs : List FnCode) (d : Decls) (t : Next) → FitsDecls room cs d → Gives Fine (again (λ _ u. shows p.Comma u) (decl_more (suc room) below x) d >>= (λ d. done (said (s.Var d.decls) d.state at d.depth))) t (λ v _. FitsVar (suc room) q cs v)
  decls_then x at q cs d t f = kept Fine (λ _ u. shows p.Comma u) (decl_more (suc room) below x) d t _ (FitsDecls room cs) f (λ y u k. (decl_more_fits x cs y k).at u) (λ y u k. var_fits q cs at y k)

  pub variables_fit : (x : Context) (at : ℕ) (n : List ℕ) (q : Surroundings) (added : State) → FitsState added → Has (variables (suc room) below x at n added) (FitsVar (suc room) q added.codes)
  unfolding variables initial words.deeper words.name words.sound
  variables_fit x at n q added f = record { at = λ t. use_of (initial_fits x n added.codes (decls [] added nothing) (no_decls room added f)) t _ (λ d u k. decls_then x at q added.codes d u k) }

  pub var_statement_fits : (inside : Inside) (added : State) (t : Next) → FitsState added → Has (var_statement (suc room) below inside added t) (FitsSaid (suc room) (around inside) added.codes)
  unfolding var_statement rules.semi words.name words.sign words.sound
  var_statement_fits inside added t f = record { at = λ u. (tt, λ _ _ r. use_of (variables_fit (context (c.Statement inside.after)) (place t) (text u) (around inside) added f) r _ (λ y v k. (λ _ _ _. k.fits, λ _. k.fits))) }

  -- ---- `if`, `do` and `while`

  else_fits : (inside : Inside) (cs : List FnCode) (t : Next) (x : Operand) (y : Said) → FitsExpr room cs x → FitsSaid room (around inside) x.codes y → Has (else_part below inside t x.value x.depth y) (FitsSaid (suc room) (around inside) cs)
  unfolding else_part statement_rules.other_part words.word
  else_fits inside cs t x y f k =
      let d = both x.depth y.depth in
      record {
        at = λ u. (
          λ _ _ r. use_of (known.statement inside y.state (after_said k)) r _ (λ z v m.
              let h = (both d z.depth).height in
              said_fits room (around inside) cs (s.If x.value y.stmt (Some z.stmt)) z.state (place t) (both d z.depth) (adds_both f.adds (adds_both k.adds m.adds)) m.vars (both_height d z.depth room (both_height x.depth y.depth room f.height k.height) m.height)
              (rw (s.outs-If x.value y.stmt (Some z.stmt)) (
                wider f h z.state.codes (omega (arith, left_height x.depth y.depth, left_height d z.depth)) (adds_both k.adds m.adds),
                said_wider k h z.state.codes (omega (arith, right_height x.depth y.depth, left_height d z.depth)) m.adds,
                said_wider m h z.state.codes (right_height d z.depth) (adds_none z.state.codes m.adds.ready),
              ))),
          λ _. said_fits room (around inside) cs (s.If x.value y.stmt None) y.state (place t) d (adds_both f.adds k.adds) k.vars (both_height x.depth y.depth room f.height k.height)
              (rw (s.outs-If x.value y.stmt None) (
                wider f d.height y.state.codes (left_height x.depth y.depth) k.adds,
                said_wider k d.height y.state.codes (right_height x.depth y.depth) (adds_none y.state.codes k.adds.ready),
                tt,
              )),
        );
      }

  pub if_fits : (inside : Inside) (added : State) (t : Next) → FitsState added → Has (if_statement below inside added t) (FitsSaid (suc room) (around inside) added.codes)
  unfolding if_statement else_part statement_rules.condition statement_rules.other_part words.sign words.word
  if_fits inside added t f = record {
    at = λ u. λ _ _ r. use_of (known.expr (context c.Paren) added.codes f.ready) r _ (λ x v k. λ _ _ z.
        use_of (known.statement (before_else inside) (state x.codes added.vars) (after_expr f k)) z _ (λ y o m. (else_fits inside added.codes t x y k m).at o));
  }

  pub do_fits : (inside : Inside) (added : State) (t : Next) → FitsState added → Has (do_statement below inside added t) (FitsSaid (suc room) (around inside) added.codes)
  unfolding do_statement rules.ended rules.semi statement_rules.condition statement_rules.repeated words.sign words.word
  do_fits inside added t f = record {
    at = λ u. use_of (known.statement (doing inside) added f) u _ (λ y r k. λ _ _ _. λ _ _ v. use_of (known.expr (context c.Paren) y.state.codes k.adds.ready) v _ (λ x z m. λ _ _ o.
        let h = (both y.depth x.depth).height in
        let fit = said_fits room (around inside) added.codes (s.DoWhile y.stmt x.value) (state x.codes y.state.vars) (place t) (both y.depth x.depth) (adds_both k.adds m.adds) k.vars (both_height y.depth x.depth room k.height m.height)
        (rw (s.outs-DoWhile y.stmt x.value) (
          said_wider k h x.codes (left_height y.depth x.depth) m.adds,
          wider m h x.codes (right_height y.depth x.depth) (adds_none x.codes m.adds.ready),
        )) in
        (λ _ _ _. fit, λ _. fit)));
  }

  pub while_fits : (inside : Inside) (added : State) (t : Next) → FitsState added → Has (while_statement below inside added t) (FitsSaid (suc room) (around inside) added.codes)
  unfolding while_statement statement_rules.condition words.sign
  while_fits inside added t f = record {
    at = λ u. λ _ _ r. use_of (known.expr (context c.Paren) added.codes f.ready) r _ (λ x v k. λ _ _ z.
        use_of (known.statement (turning inside) (state x.codes added.vars) (after_expr f k)) z _ (λ y o m.
        let h = (both x.depth y.depth).height in
        said_fits room (around inside) added.codes (s.While x.value y.stmt) y.state (place t) (both x.depth y.depth) (adds_both k.adds m.adds) m.vars (both_height x.depth y.depth room k.height m.height)
        (rw (s.outs-While x.value y.stmt) (
          wider k h y.state.codes (left_height x.depth y.depth) m.adds,
          said_wider m h y.state.codes (right_height x.depth y.depth) (adds_none y.state.codes m.adds.ready),
        ))));
  }

  -- ---- `continue`, `break`, `return` and `throw`

  pub jump_fits : (inside : Inside) (stmt : Stmt) (added : State) (t : Next) → FitsState added → StmtNode (ValidExpr 0 (length added.codes)) (ValidStmt 0 (length added.codes)) (around inside) (out-Stmt stmt) → Has (jump stmt added t) (FitsSaid (suc room) (around inside) added.codes)
  unfolding jump rules.ended rules.semi words.sign
  jump_fits inside stmt added t f node =
      let fit = said_fits room (around inside) added.codes stmt added (place t) nothing (adds_none added.codes f.ready) f.vars (omega arith) node in
      record { at = λ u. (tt, λ _. (λ _ _ _. fit, λ _. fit)) }

  -- a statement over one expression
  one_part : (inside : Inside) (stmt : Stmt) (added : State) (at : ℕ) (x : Operand) → FitsState added → FitsExpr room added.codes x → StmtNode (ValidExpr x.depth.height (length x.codes)) (ValidStmt x.depth.height (length x.codes)) (around inside) (out-Stmt stmt) → FitsSaid (suc room) (around inside) added.codes (said stmt (state x.codes added.vars) at x.depth)
  one_part inside stmt added at x f k node = said_fits room (around inside) added.codes stmt (state x.codes added.vars) at x.depth k.adds f.vars k.height node

  pub return_fits : (inside : Inside) (added : State) (t : Next) → FitsState added → inside.function ≡ true → Has (return_statement below inside added t) (FitsSaid (suc room) (around inside) added.codes)
  unfolding return_statement rules.ended rules.semi words.sign
  return_fits inside added t f e =
      let empty = said_fits room (around inside) added.codes (s.Return None) added (place t) nothing (adds_none added.codes f.ready) f.vars (omega arith) (rw (s.outs-Return None) (e, tt)) in
      record {
        at = λ u. (
          (λ _ _ _. empty, λ _. empty),
          λ _. use_of (known.expr (context (c.Statement inside.after)) added.codes f.ready) u _ (λ x r k.
              let fit = one_part inside (s.Return (Some x.value)) added (place t) x f k (rw (s.outs-Return (Some x.value)) (e, k.valid)) in
              (λ _ _ _. fit, λ _. fit)),
        );
      }

  pub throw_fits : (inside : Inside) (added : State) (t : Next) → FitsState added → Has (throw_statement below inside added t) (FitsSaid (suc room) (around inside) added.codes)
  unfolding throw_statement rules.ended rules.semi words.sign
  throw_fits inside added t f = record {
    at = λ u. (
      tt,
      λ _. λ _. use_of (known.expr (context (c.Statement inside.after)) added.codes f.ready) u _ (λ x r k.
          let fit = one_part inside (s.Throw x.value) added (place t) x f k (rw (s.outs-Throw x.value) k.valid) in
          (λ _ _ _. fit, λ _. fit)),
    );
  }

  pub expression_fits : (inside : Inside) (added : State) → FitsState added → Has (expression_statement below inside added) (FitsSaid (suc room) (around inside) added.codes)
  unfolding expression_statement rules.ended rules.semi words.sign
  expression_fits inside added f = record {
    at = λ u. use_of (known.expr (context (c.Statement inside.after)) added.codes f.ready) u _ (λ x r k.
        let fit = one_part inside (s.Expr x.value) added x.at x f k (rw (s.outs-Expr x.value) k.valid) in
        (tt, λ _. (λ _ _ _. fit, λ _. fit)));
  }

  -- ---- `switch`

  case_body_fits : (inside : Inside) (cs : List FnCode) (y : Cases) (test : Option Expr) → FitsCases room (around inside) cs y → IfThere (ValidExpr y.depth.height (length y.state.codes)) test → Counts (counted test (defaults y.cases)) y.has_default → Has (case_body below inside y test) (FitsCases room (around inside) cs)
  unfolding case_body series_more
  case_body_fits inside cs y test f v count = record {
    at = λ t.
        kept Fine (λ _ u. in_case u) (series_more (choosing inside) below) (series [] y.state nothing) t _ (FitsSeries room (around (choosing inside)) y.state.codes)
        (no_series room (around (choosing inside)) y.state (record { ready = f.adds.ready; vars = f.vars }))
        (λ z u k. (rows_fit (choosing inside) y.state.codes z k).at u)
        (λ z u k. cases_fit f test z v count k);
  }

  case_fits : (inside : Inside) (cs : List FnCode) (y : Cases) → FitsCases room (around inside) cs y → Has (case_part below inside y) (FitsCases room (around inside) cs)
  unfolding case_part statement_rules.case_clause statement_rules.default_clause words.sign words.word
  case_fits inside cs y f = record {
    at = λ t. (
      λ _ _ u. use_of (known.expr (context c.Case) y.state.codes f.adds.ready) u _ (λ x r k. λ _ _ v.
          let h = (both y.depth x.depth).height in
          (case_body_fits inside cs (cases y.cases (state x.codes y.state.vars) y.has_default (both y.depth x.depth)) (Some x.value) (cases_behind f k) (wider k h x.codes (right_height y.depth x.depth) (adds_none x.codes k.adds.ready)) f.count).at v),
      λ _ e u. λ _ _ v.
          let none = f.count.none (seen_none (says w.Default t) y.has_default e) in
          (case_body_fits inside cs (cases y.cases y.state true y.depth) None (cases_default f) tt (record { most = omega arith; none = λ h. cc })).at v,
    );
  }

  pub switch_fits : (inside : Inside) (added : State) (t : Next) → FitsState added → Has (switch_statement below inside added t) (FitsSaid (suc room) (around inside) added.codes)
  unfolding switch_statement switch_cases statement_rules.condition statement_rules.switch_parts words.sign
  switch_fits inside added t f = record {
    at = λ u. λ _ _ r. use_of (known.expr (context c.Paren) added.codes f.ready) r _ (λ x v k. λ _ _ z. λ _ _ o.
        kept Fine (λ _ u. is_case u) (case_part below inside) (cases [] (state x.codes added.vars) false nothing) o _ (FitsCases room (around inside) x.codes)
        (no_cases room (around inside) (state x.codes added.vars) (after_expr f k))
        (λ y u m. (case_fits inside x.codes y m).at u)
        (λ y u m. λ _ _ _.
        let h = (both x.depth y.depth).height in
        said_fits room (around inside) added.codes (s.Switch x.value y.cases) y.state (place t) (both x.depth y.depth) (adds_both k.adds m.adds) m.vars (both_height x.depth y.depth room k.height m.height)
        (rw (s.outs-Switch x.value y.cases) (
          wider k h y.state.codes (left_height x.depth y.depth) m.adds,
          m.count.most,
          cases_wider y.depth.height h (length y.state.codes) (length y.state.codes) (in_switch (around inside)) y.cases (right_height x.depth y.depth) (omega arith) m.valid,
        ))));
  }

  -- ---- `try`

  -- a block in its braces, and what stands behind it
  in_braces : {A : Type 0} (inside : Inside) (added : State) (g : Series → R A) (t : Next) (S : A → Next → Type 0) → FitsState added → ((y : Series) (u : Next) → FitsSeries room (around inside) added.codes y → Gives Fine (g y) u S) → Gives Fine (braced inside below added >>= g) t S
  unfolding braced statement_rules.block words.sign
  in_braces inside added g t S f k = λ _ _ u. use_of (statements_fit (braces inside) added f) u _ (λ y r m. λ _ _ v. k y v m)

  finally_fits : (inside : Inside) (cs : List FnCode) (t : Next) (y : Series) → FitsSeries room (around inside) cs y → Has (finally_part below inside t y) (FitsSaid (suc room) (around inside) cs)
  unfolding finally_part braced statement_rules.block words.sign words.word
  finally_fits inside cs t y f = record {
    at = λ u. λ _ _ r. in_braces inside y.state (λ v. done (said (s.Try y.stmts None (Some v.stmts)) v.state (place t) (both y.depth v.depth))) r (λ x _. FitsSaid (suc room) (around inside) cs x) (after_series f) (λ v z k.
        let h = (both y.depth v.depth).height in
        said_fits room (around inside) cs (s.Try y.stmts None (Some v.stmts)) v.state (place t) (both y.depth v.depth) (adds_both f.adds k.adds) k.vars (both_height y.depth v.depth room f.height k.height)
        (rw (s.outs-Try y.stmts None (Some v.stmts)) (
          refl,
          series_wider f h v.state.codes (left_height y.depth v.depth) k.adds,
          tt,
          series_wider k h v.state.codes (right_height y.depth v.depth) (adds_none v.state.codes k.adds.ready),
        )));
  }

  -- behind a block and a `catch` that are valid with so many levels and codes
  caught_fits : (inside : Inside) (cs : List FnCode) (t : Next) (stmts : List Stmt) (depth : Depth) (a : Handler) (added : State) → Adds cs added.codes → AreDistinct added.vars → depth.height ≤ room → All (ValidStmt depth.height (length added.codes) (around inside)) stmts → All (ValidStmt depth.height (length added.codes) (around inside)) a.body → Has (caught below inside t stmts depth a added) (FitsSaid (suc room) (around inside) cs)
  unfolding braced caught statement_rules.block words.sign words.word
  caught_fits inside cs t stmts depth a added adds vars l v b = record {
    at = λ u. (
      λ _ _ r. in_braces inside added (λ z. done (said (s.Try stmts (Some a) (Some z.stmts)) z.state (place t) (both depth z.depth))) r (λ x _. FitsSaid (suc room) (around inside) cs x) (record { ready = adds.ready; vars = vars }) (λ z o k.
          let g = depth.height in
          let h = (both depth z.depth).height in
          let old = length added.codes in
          let new = length z.state.codes in
          said_fits room (around inside) cs (s.Try stmts (Some a) (Some z.stmts)) z.state (place t) (both depth z.depth) (adds_both adds k.adds) k.vars (both_height depth z.depth room l k.height)
          (rw (s.outs-Try stmts (Some a) (Some z.stmts)) (
            refl,
            stmts_more g h old new (around inside) stmts (left_height depth z.depth) (adds_length k.adds) v,
            stmts_more g h old new (around inside) a.body (left_height depth z.depth) (adds_length k.adds) b,
            series_wider k h z.state.codes (right_height depth z.depth) (adds_none z.state.codes k.adds.ready),
          ))),
      λ _. said_fits room (around inside) cs (s.Try stmts (Some a) None) added (place t) depth adds vars l (rw (s.outs-Try stmts (Some a) None) (refl, v, b, tt)),
    );
  }

  catch_fits : (inside : Inside) (cs : List FnCode) (t : Next) (y : Series) → FitsSeries room (around inside) cs y → Has (catch_part below inside t y) (FitsSaid (suc room) (around inside) cs)
  unfolding catch_part braced caught statement_rules.block words.name words.sign words.sound words.word
  catch_fits inside cs t y f = record {
    at = λ u. λ _ _ r. λ _ _ v. (
      tt,
      λ _ _ o. λ _ _ m.
          in_braces inside y.state (λ z. caught below inside t y.stmts (both y.depth z.depth) (handler (text v) z) z.state) m (λ x _. FitsSaid (suc room) (around inside) cs x) (after_series f) (λ z i k.
          let h = (both y.depth z.depth).height in
          (caught_fits inside cs t y.stmts (both y.depth z.depth) (handler (text v) z) z.state (adds_both f.adds k.adds) k.vars (both_height y.depth z.depth room f.height k.height)
          (series_wider f h z.state.codes (left_height y.depth z.depth) k.adds)
          (series_wider k h z.state.codes (right_height y.depth z.depth) (adds_none z.state.codes k.adds.ready))).at i),
    );
  }

  pub try_statement_fits : (inside : Inside) (added : State) (t : Next) → FitsState added → Has (try_statement below inside added t) (FitsSaid (suc room) (around inside) added.codes)
  unfolding try_statement braced statement_rules.block words.sign
  try_statement_fits inside added t f = record {
    at = λ u. λ _ _ r. use_of (statements_fit (braces inside) added f) r _ (λ y v k. λ _ _ z.
        ((catch_fits inside added.codes t y k).at z, (finally_fits inside added.codes t y k).at z));
  }
