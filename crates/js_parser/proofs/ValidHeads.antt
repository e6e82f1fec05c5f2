-- `for` statements are valid (ECMA-262 5.1, 12.6.3 and 12.6.4).
use Rattle.std.proofs.Common.{◌≡◌, ℕ, suc, ◌-◌, ◌≤◌, true, List, length, Option, Some, None, refl, arith}
use Rattle.js_lexer.specs.declared.token.Punct.{Punct}
use Rattle.js_lexer.specs.declared.token.Punct.TheVariants as p
use Rattle.js_tree.specs.declared.code.FnCode.{FnCode}
use Rattle.js_tree.specs.declared.stmt.Stmt.{Stmt, out-Stmt}
use Rattle.js_tree.specs.declared.stmt.Stmt.TheVariants as s
use Rattle.js_tree.specs.Valid.{AreDistinct, IfThere, ValidExpr, first_shape, ValidStmt}
use Rattle.js_nodes.specs.declared.context.Closer.TheVariants as c
use Rattle.js_nodes.specs.declared.context.Closer.{Closer}
use Rattle.js_nodes.specs.declared.context.Inside.{Inside}
use Rattle.js_nodes.specs.declared.depth.Depth.{Depth}
use Rattle.js_nodes.specs.declared.operand.Operand.{Operand}
use Rattle.js_nodes.specs.declared.operand.Part.{Part}
use Rattle.js_nodes.specs.declared.series.State.{State}
use Rattle.js_nodes.specs.Next.{Next, place, shows, text}
use Rattle.js_nodes.specs.Operands.{nothing, both, raised, context, first_context, level_flaw, name_of}
use Rattle.js_parser.specs.Levels.{Level}
use Rattle.js_nodes.specs.Pieces.{state}
use Rattle.js_nodes.specs.Pieces.{declared, turning}
use Rattle.js_parser.specs.Heads.{head_part, for_rest, for_each, for_named, for_variables, for_expression, for_head, for_statement}
use Rattle.js_parser.proofs.ValidMore.{there_more, expr_more, stmt_more}
use Rattle.js_parser.proofs.ValidCodes.{Ready, Adds, adds_length, adds_none, adds_both}
use Rattle.js_parser.proofs.ValidFits.{Has, use_of, no_flaw, level_left, height_raised, left_height, right_height, both_height, FitsExpr, wider}
use Rattle.js_parser.proofs.ValidLevels.{around, FitsState, FitsSaid, Valid}
use Rattle.js_parser.proofs.ValidSeries.{said_fits, said_wider, once_differs}
use Rattle.js_cursor.specs.Words as words
use Rattle.js_parser.specs.Heads as heads

-- an expression that may be left out
pub record FitsPart (room : ℕ) (cs : List FnCode) (y : Part) : Type 0 where
  pub adds : Adds cs y.codes
  pub height : y.depth.height ≤ room
  pub valid : IfThere (ValidExpr y.depth.height (length y.codes)) y.value

-- It is valid with more levels and codes.
part_wider : {room : ℕ} {cs : List FnCode} {y : Part} → FitsPart room cs y → (h : ℕ) (ds : List FnCode) → y.depth.height ≤ h → Adds y.codes ds → IfThere (ValidExpr h (length ds)) y.value
part_wider {room} {cs} {y} f h ds l a = there_more (ValidExpr y.depth.height (length y.codes)) (ValidExpr h (length ds)) (λ x v. expr_more y.depth.height h (length y.codes) (length ds) x l (adds_length a) v) y.value f.valid

-- what the first part of a head may be as a statement
abbrev FirstStmt : ℕ → ℕ → Inside → Stmt → Type 0
FirstStmt h n inside x = (first_shape (out-Stmt x) ≡ true) × ValidStmt h n (around inside) x

-- the same of the first part
first_wider : (g h n m : ℕ) (inside : Inside) (o : Option Stmt) → g ≤ h → n ≤ m → IfThere (FirstStmt g n inside) o → IfThere (FirstStmt h m inside) o
first_wider g h n m inside o l k v = there_more (FirstStmt g n inside) (FirstStmt h m inside) (λ x w. (w.0, stmt_more g h n m (around inside) x l k w.1)) o v

module _ (room : ℕ) (below : Level) (known : Valid room below) where
  head_part_fits : (closer : Closer) (end : Punct) (cs : List FnCode) → Ready cs → Has (head_part below closer end cs) (FitsPart room cs)
  unfolding head_part words.sign
  head_part_fits closer end cs h = record {
    at = λ t. (
      λ _ _ _. record { adds = adds_none cs h; height = omega arith; valid = tt },
      λ _. use_of (known.expr (context closer) cs h) t _ (λ x u k. λ _ _ _. record { adds = k.adds; height = k.height; valid = k.valid }),
    );
  }

  rest_fits : (inside : Inside) (cs : List FnCode) (t : Next) (head : Option Stmt) (added : State) (depth : Depth) → Adds cs added.codes → AreDistinct added.vars → depth.height ≤ room → IfThere (FirstStmt depth.height (length added.codes) inside) head → Has (for_rest below inside t head added depth) (FitsSaid (suc room) (around inside) cs)
  unfolding for_rest heads.for_body
  rest_fits inside cs t head added depth a d l v = record {
    at = λ u.
        use_of (head_part_fits c.Semicolon p.Semicolon added.codes a.ready) u _ (λ y r k.
        use_of (head_part_fits c.Paren p.RightParen y.codes k.adds.ready) r _ (λ z o m.
        use_of (known.statement (turning inside) (state z.codes added.vars) (record { ready = m.adds.ready; vars = d })) o _ (λ x i n.
        let one = both depth y.depth in
        let two = both one z.depth in
        let all = both two x.depth in
        let h = all.height in
        let up : two.height ≤ h = left_height two x.depth in
        let over : one.height ≤ h = omega (arith, left_height one z.depth) in
        said_fits room (around inside) cs (s.For head y.value z.value x.stmt) x.state (place t) all (adds_both a (adds_both k.adds (adds_both m.adds n.adds))) n.vars
        (both_height two x.depth room (both_height one z.depth room (both_height depth y.depth room l k.height) m.height) n.height)
        (rw (s.outs-For head y.value z.value x.stmt) (
          first_wider depth.height h (length added.codes) (length x.state.codes) inside head (omega (arith, left_height depth y.depth)) (adds_length (adds_both k.adds (adds_both m.adds n.adds))) v,
          part_wider k h x.state.codes (omega (arith, right_height depth y.depth)) (adds_both m.adds n.adds),
          part_wider m h x.state.codes (omega (arith, right_height one z.depth)) n.adds,
          said_wider n h x.state.codes (right_height two x.depth) (adds_none x.state.codes n.adds.ready),
        )))));
  }

  each_fits : (inside : Inside) (cs : List FnCode) (t : Next) (n : List ℕ) (added : State) → Adds cs added.codes → AreDistinct added.vars → Has (for_each below inside t n added) (FitsSaid (suc room) (around inside) cs)
  unfolding for_each heads.each_body words.sign
  each_fits inside cs t n added a d = record {
    at = λ u. use_of (known.expr (context c.Paren) added.codes a.ready) u _ (λ x r k. λ _ _ o.
        use_of (known.statement (turning inside) (state x.codes added.vars) (record { ready = k.adds.ready; vars = d })) o _ (λ y i m.
        let h = (both x.depth y.depth).height in
        said_fits room (around inside) cs (s.ForIn n x.value y.stmt) y.state (place t) (both x.depth y.depth) (adds_both a (adds_both k.adds m.adds)) m.vars (both_height x.depth y.depth room k.height m.height)
        (rw (s.outs-ForIn n x.value y.stmt) (
          wider k h y.state.codes (left_height x.depth y.depth) m.adds,
          said_wider m h y.state.codes (right_height x.depth y.depth) (adds_none y.state.codes m.adds.ready),
        ))));
  }

  named_fits : (inside : Inside) (added : State) (t : Next) (at : ℕ) (n : List ℕ) → FitsState added → Has (for_named below inside t at added n) (FitsSaid (suc room) (around inside) added.codes)
  unfolding for_named heads.for_declared heads.for_listed words.sign words.word
  named_fits inside added t at n f = record {
    at = λ r. (
      λ _ _ o. (each_fits inside added.codes t n (declared added n) (adds_none added.codes f.ready) (once_differs added.vars n f.vars)).at o,
      λ _. use_of (known.variables first_context at n (around inside) added f) r _ (λ y o k. λ _ _ i.
          (rest_fits inside added.codes t (Some y.stmt) y.state y.depth k.fits.adds k.fits.vars k.fits.height (k.first, k.fits.valid)).at i),
    );
  }

  for_variables_fit : (inside : Inside) (added : State) (t : Next) (at : ℕ) → FitsState added → Has (for_variables below inside t at added) (FitsSaid (suc room) (around inside) added.codes)
  unfolding for_variables for_named heads.for_declared heads.for_listed words.name words.sign words.sound words.word
  for_variables_fit inside added t at f = record { at = λ r. (tt, λ _ _ o. (named_fits inside added t at (text r) f).at o) }

  first_stmt : (inside : Inside) (added : State) (x : Operand) → FitsState added → FitsExpr room added.codes x → FirstStmt (raised x.at x.depth).height (length x.codes) inside (s.Expr x.value)
  first_stmt inside added x f k =
      let fit = said_fits room (around inside) added.codes (s.Expr x.value) (state x.codes added.vars) x.at x.depth k.adds f.vars k.height (rw (s.outs-Expr x.value) k.valid) in
      (rw (s.outs-Expr x.value) refl, fit.valid)

  for_expression_fits : (inside : Inside) (added : State) (t : Next) (x : Operand) → FitsState added → FitsExpr room added.codes x → Has (for_expression (suc room) below inside t added.vars x) (FitsSaid (suc room) (around inside) added.codes)
  unfolding for_expression heads.for_first words.sound words.takes
  for_expression_fits inside added t x f k = record {
    at = λ u. (
      λ _ _ r. (each_fits inside added.codes t (name_of x.value) (state x.codes added.vars) k.adds f.vars).at r,
      (
        tt,
        λ _ e r.
            let l = level_left (suc room - 1) x.depth (no_flaw (shows p.Semicolon u) (level_flaw (suc room - 1) x.depth) e) in
            (rest_fits inside added.codes t (Some (s.Expr x.value)) (state x.codes added.vars) (raised x.at x.depth) k.adds f.vars (omega (arith, height_raised x.at x.depth)) (first_stmt inside added x f k)).at r,
      ),
    );
  }

  for_head_fits : (inside : Inside) (added : State) (t : Next) → FitsState added → Has (for_head (suc room) below inside t added) (FitsSaid (suc room) (around inside) added.codes)
  unfolding for_head words.sign
  for_head_fits inside added t f = record {
    at = λ u. (
      λ _ _ r. (rest_fits inside added.codes t None added nothing (adds_none added.codes f.ready) f.vars (omega arith) tt).at r,
      (
        λ _ _ r. (for_variables_fit inside added t (place u) f).at r,
        λ _. use_of (known.first added.codes f.ready) u _ (λ x r k. (for_expression_fits inside added t x f k).at r),
      ),
    );
  }

  pub for_fits : (inside : Inside) (added : State) (t : Next) → FitsState added → Has (for_statement (suc room) below inside added t) (FitsSaid (suc room) (around inside) added.codes)
  unfolding for_statement words.sign
  for_fits inside added t f = record { at = λ u. λ _ _ r. (for_head_fits inside added t f).at r }
