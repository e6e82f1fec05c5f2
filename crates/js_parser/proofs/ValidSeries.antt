-- What fits among statements: rows of them, declarations, and parts of a `switch`.
use Rattle.std.proofs.Common.{◌≡◌, ℕ, suc, ◌≤◌, ◌<◌, Bool, true, false, cond, List, [], ◌∷◌, ◌++◌, length, Option, Some, None, refl, subst, sym, ap, ◌∙◌, arith}
use Rattle.std.specs.Prelude.{All}
use Rattle.std.proofs.lemmas.List.Elements.{All-nil, All-push, All-weaker}
use Rattle.js_tree.specs.declared.code.FnCode.{FnCode}
use Rattle.js_tree.specs.declared.expr.Expr.{Expr}
use Rattle.js_tree.specs.declared.stmt.Stmt.{Stmt, out-Stmt}
use Rattle.js_tree.specs.declared.stmt.Case.{Case}
use Rattle.js_tree.specs.declared.stmt.Decl.{Decl}
use Rattle.js_tree.specs.Valid.{AreDistinct, IfThere, ValidExpr, Surroundings, in_switch, counted, defaults, StmtNode, ValidStmt}
use Rattle.js_nodes.specs.declared.depth.Depth.{Depth}
use Rattle.js_nodes.specs.declared.operand.Operand.{Operand}
use Rattle.js_nodes.specs.declared.series.State.{State}
use Rattle.js_nodes.specs.declared.series.Said.{Said}
use Rattle.js_nodes.specs.declared.series.Series.{Series}
use Rattle.js_nodes.specs.declared.series.Decls.{Decls}
use Rattle.js_nodes.specs.declared.series.Cases.{Cases}
use Rattle.js_nodes.specs.Operands.{nothing, both}
use Rattle.js_nodes.specs.Pieces.{has, state}
use Rattle.js_nodes.specs.Pieces.{said, series, decls, cases, once}
use Rattle.js_parser.specs.Statements.{decls_more}
use Rattle.js_parser.proofs.ValidMore.{there_more, expr_more, stmt_more, stmt_node}
use Rattle.js_parser.proofs.ValidCodes.{Adds, adds_length, adds_none, adds_both}
use Rattle.js_parser.proofs.ValidFits.{height_raised, left_height, right_height, both_height, FitsExpr}
use Rattle.js_parser.proofs.ValidLevels.{FitsState, FitsSaid, stmts_more}
use Rattle.js_parser.proofs.ValidFunctions.{distinct_push}
use Rattle.js_cursor.specs.Words as words

-- ---- statements

-- A statement over valid parts fits with one level more than they take.
pub said_fits : (room : ℕ) (p : Surroundings) (cs : List FnCode) (stmt : Stmt) (added : State) (at : ℕ) (d : Depth) → Adds cs added.codes → AreDistinct added.vars → d.height ≤ room → StmtNode (ValidExpr d.height (length added.codes)) (ValidStmt d.height (length added.codes)) p (out-Stmt stmt) → FitsSaid (suc room) p cs (said stmt added at d)
said_fits room p cs stmt added at d a v l node = record {
  adds = a;
  vars = v;
  height = omega (arith, height_raised at d);
  valid = subst (λ (n : ℕ). ValidStmt n (length added.codes) p stmt) (sym (height_raised at d)) (stmt_node d.height (length added.codes) p stmt node);
}

-- It is valid with more levels and codes.
pub said_wider : {room : ℕ} {p : Surroundings} {cs : List FnCode} {y : Said} → FitsSaid room p cs y → (h : ℕ) (ds : List FnCode) → y.depth.height ≤ h → Adds y.state.codes ds → ValidStmt h (length ds) p y.stmt
said_wider {room} {p} {cs} {y} f h ds l a = stmt_more y.depth.height h (length y.state.codes) (length ds) p y.stmt l (adds_length a) f.valid

-- What was added so far is ready behind a statement.
pub after_said : {room : ℕ} {p : Surroundings} {cs : List FnCode} {y : Said} → FitsSaid room p cs y → FitsState y.state
after_said {room} {p} {cs} {y} f = record { ready = f.adds.ready; vars = f.vars }

-- ---- rows

pub record FitsSeries (room : ℕ) (p : Surroundings) (cs : List FnCode) (y : Series) : Type 0 where
  pub adds : Adds cs y.state.codes
  pub vars : AreDistinct y.state.vars
  pub height : y.depth.height ≤ room
  pub valid : All (ValidStmt y.depth.height (length y.state.codes) p) y.stmts

-- the same behind a row
pub after_series : {room : ℕ} {p : Surroundings} {cs : List FnCode} {y : Series} → FitsSeries room p cs y → FitsState y.state
after_series {room} {p} {cs} {y} f = record { ready = f.adds.ready; vars = f.vars }

-- A row begins with nothing.
pub no_series : (room : ℕ) (p : Surroundings) (added : State) → FitsState added → FitsSeries room p added.codes (series [] added nothing)
no_series room p added f = record { adds = adds_none added.codes f.ready; vars = f.vars; height = omega arith; valid = All-nil (ValidStmt 0 (length added.codes) p) }

-- It is valid with more levels and codes.
pub series_wider : {room : ℕ} {p : Surroundings} {cs : List FnCode} {y : Series} → FitsSeries room p cs y → (h : ℕ) (ds : List FnCode) → y.depth.height ≤ h → Adds y.state.codes ds → All (ValidStmt h (length ds) p) y.stmts
series_wider {room} {p} {cs} {y} f h ds l a = stmts_more y.depth.height h (length y.state.codes) (length ds) p y.stmts l (adds_length a) f.valid

-- A row fits with one statement more.
pub series_fits : {room : ℕ} {p : Surroundings} {cs : List FnCode} {y : Series} {x : Said} → FitsSeries room p cs y → FitsSaid room p y.state.codes x → FitsSeries room p cs (series (y.stmts ++ x.stmt ∷ []) x.state (both y.depth x.depth))
series_fits {room} {p} {cs} {y} {x} f k =
    let h = (both y.depth x.depth).height in
    record {
      adds = adds_both f.adds k.adds;
      vars = k.vars;
      height = both_height y.depth x.depth room f.height k.height;
      valid = All-push (ValidStmt h (length x.state.codes) p) y.stmts x.stmt (series_wider f h x.state.codes (left_height y.depth x.depth) k.adds) (said_wider k h x.state.codes (right_height y.depth x.depth) (adds_none x.state.codes k.adds.ready));
    }

-- ---- declarations

-- A name is added once.
pub once_differs : (names : List (List ℕ)) (n : List ℕ) → AreDistinct names → AreDistinct (once names n)
once_differs names n d = go (has names n) refl
  where
    go : (b : Bool) → has names n ≡ b → AreDistinct (cond b names (names ++ n ∷ []))
    go true e = d
    go false e = distinct_push names n d e

pub record FitsDecls (room : ℕ) (cs : List FnCode) (d : Decls) : Type 0 where
  pub adds : Adds cs d.state.codes
  pub vars : AreDistinct d.state.vars
  pub height : d.depth.height ≤ room
  pub valid : All (λ (x : Decl). IfThere (ValidExpr d.depth.height (length d.state.codes)) x.value) d.decls

-- Declarations begin with nothing.
pub no_decls : (room : ℕ) (added : State) → FitsState added → FitsDecls room added.codes (decls [] added nothing)
no_decls room added f = record { adds = adds_none added.codes f.ready; vars = f.vars; height = omega arith; valid = All-nil (λ (x : Decl). IfThere (ValidExpr 0 (length added.codes)) x.value) }

-- Declarations fit with one more.
pub decls_fit : {room : ℕ} {cs : List FnCode} {d : Decls} → FitsDecls room cs d → (n : List ℕ) (value : Option Expr) (codes : List FnCode) (depth : Depth) → Adds d.state.codes codes → depth.height ≤ room → IfThere (ValidExpr depth.height (length codes)) value → FitsDecls room cs (decls_more d n value (state codes (once d.state.vars n)) depth)
unfolding words.name words.sound
decls_fit {room} {cs} {d} f n value codes depth a l v =
    let g = d.depth.height in
    let h = (both d.depth depth).height in
    let old = length d.state.codes in
    let new = length codes in
    record {
      adds = adds_both f.adds a;
      vars = once_differs d.state.vars n f.vars;
      height = both_height d.depth depth room f.height l;
      valid = All-push (λ (x : Decl). IfThere (ValidExpr h new) x.value) d.decls (record { name = n; value = value })
          (All-weaker (λ (x : Decl). IfThere (ValidExpr g old) x.value) (λ (x : Decl). IfThere (ValidExpr h new) x.value) (λ x. there_more (ValidExpr g old) (ValidExpr h new) (λ y w. expr_more g h old new y (left_height d.depth depth) (adds_length a) w) x.value) d.decls f.valid)
          (there_more (ValidExpr depth.height new) (ValidExpr h new) (λ y w. expr_more depth.height h new new y (right_height d.depth depth) (omega arith) w) value v);
    }

-- ---- parts of a `switch`

-- Parts are counted in any order.
counted_swap : (a b : Option Expr) (n : ℕ) → counted a (counted b n) ≡ counted b (counted a n)
counted_swap None None n = refl
counted_swap None (Some x) n = refl
counted_swap (Some x) None n = refl
counted_swap (Some x) (Some y) n = refl

-- A part more counts as it would in front.
defaults_push : (cs : List Case) (c : Case) → defaults (cs ++ c ∷ []) ≡ counted c.test (defaults cs)
defaults_push [] c = refl
defaults_push (d ∷ cs) c = ap (λ (n : ℕ). counted d.test n) (defaults_push cs c) ∙ counted_swap d.test c.test (defaults cs)

-- a part whose expression is valid by E, and whose statements by V
abbrev pub ValidCase : (Expr → Type 0) → (Stmt → Type 0) → Case → Type 0
ValidCase E V x = IfThere E x.test × All V x.body

-- Parts are valid with more levels and codes.
pub cases_wider : (g h n m : ℕ) (p : Surroundings) (xs : List Case) → g ≤ h → n ≤ m → All (ValidCase (ValidExpr g n) (ValidStmt g n p)) xs → All (ValidCase (ValidExpr h m) (ValidStmt h m p)) xs
cases_wider g h n m p xs l k all = All-weaker (ValidCase (ValidExpr g n) (ValidStmt g n p)) (ValidCase (ValidExpr h m) (ValidStmt h m p))
    (λ x v. (there_more (ValidExpr g n) (ValidExpr h m) (λ y w. expr_more g h n m y l k w) x.test v.0, stmts_more g h n m p x.body l k v.1)) xs all

-- So many parts of it have no expression: one at most, and none where none was seen.
pub record Counts (n : ℕ) (seen : Bool) : Type 0 where
  pub most : n < 2
  pub none : seen ≡ false → n ≡ 0

pub record FitsCases (room : ℕ) (p : Surroundings) (cs : List FnCode) (y : Cases) : Type 0 where
  pub adds : Adds cs y.state.codes
  pub vars : AreDistinct y.state.vars
  pub height : y.depth.height ≤ room
  pub count : Counts (defaults y.cases) y.has_default
  pub valid : All (ValidCase (ValidExpr y.depth.height (length y.state.codes)) (ValidStmt y.depth.height (length y.state.codes) (in_switch p))) y.cases

-- Parts begin with nothing.
pub no_cases : (room : ℕ) (p : Surroundings) (added : State) → FitsState added → FitsCases room p added.codes (cases [] added false nothing)
no_cases room p added f = record {
  adds = adds_none added.codes f.ready;
  vars = f.vars;
  height = omega arith;
  count = record { most = omega arith; none = λ _. refl };
  valid = All-nil (ValidCase (ValidExpr 0 (length added.codes)) (ValidStmt 0 (length added.codes) (in_switch p)));
}

-- the same behind the expression of one more
pub cases_behind : {room : ℕ} {p : Surroundings} {cs : List FnCode} {y : Cases} {x : Operand} → FitsCases room p cs y → FitsExpr room y.state.codes x → FitsCases room p cs (cases y.cases (state x.codes y.state.vars) y.has_default (both y.depth x.depth))
cases_behind {room} {p} {cs} {y} {x} f k = record {
  adds = adds_both f.adds k.adds;
  vars = f.vars;
  height = both_height y.depth x.depth room f.height k.height;
  count = f.count;
  valid = cases_wider y.depth.height (both y.depth x.depth).height (length y.state.codes) (length x.codes) (in_switch p) y.cases (left_height y.depth x.depth) (adds_length k.adds) f.valid;
}

-- the same behind a `default`
pub cases_default : {room : ℕ} {p : Surroundings} {cs : List FnCode} {y : Cases} → FitsCases room p cs y → FitsCases room p cs (cases y.cases y.state true y.depth)
cases_default {room} {p} {cs} {y} f = record { adds = f.adds; vars = f.vars; height = f.height; count = record { most = f.count.most; none = λ h. cc }; valid = f.valid }

-- one part more, whose expression is valid there, over what its statements are
pub cases_fit : {room : ℕ} {p : Surroundings} {cs : List FnCode} {y : Cases} → FitsCases room p cs y → (test : Option Expr) (z : Series) → IfThere (ValidExpr y.depth.height (length y.state.codes)) test → Counts (counted test (defaults y.cases)) y.has_default → FitsSeries room (in_switch p) y.state.codes z → FitsCases room p cs (cases (y.cases ++ record { test = test; body = z.stmts } ∷ []) z.state y.has_default (both y.depth z.depth))
cases_fit {room} {p} {cs} {y} f test z v count k =
    let g = y.depth.height in
    let h = (both y.depth z.depth).height in
    let old = length y.state.codes in
    let new = length z.state.codes in
    record {
      adds = adds_both f.adds k.adds;
      vars = k.vars;
      height = both_height y.depth z.depth room f.height k.height;
      count = subst (λ (n : ℕ). Counts n y.has_default) (sym (defaults_push y.cases (record { test = test; body = z.stmts }))) count;
      valid = All-push (ValidCase (ValidExpr h new) (ValidStmt h new (in_switch p))) y.cases (record { test = test; body = z.stmts })
          (cases_wider g h old new (in_switch p) y.cases (left_height y.depth z.depth) (adds_length k.adds) f.valid) (
            there_more (ValidExpr g old) (ValidExpr h new) (λ x w. expr_more g h old new x (left_height y.depth z.depth) (adds_length k.adds) w) test v,
            series_wider k h z.state.codes (right_height y.depth z.depth) (adds_none z.state.codes k.adds.ready),
          );
    }
