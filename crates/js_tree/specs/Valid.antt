-- Valid programs: what holds of every tree beyond its shape (ECMA-262 5.1, sections 11 to 14, in strict code; that
-- trees have at most 128 levels is this project's own).
use Rattle.std.specs.Prelude.{◌≡◌, ◌<◌, ◌⊎◌, ℕ, zero, suc, ℤ, Bool, true, false, not, ◌||◌, ◌&&◌, IsTrue, List, [], ◌∷◌, length, map, slice_get, Option, Some, None, All}
use Rattle.page_units.specs.Numbers.{IsNumber}
use Rattle.page_units.specs.declared.operator.BinOp.{BinOp}
use Rattle.page_units.specs.declared.operator.BinOp.TheVariants as b
use Rattle.page_units.specs.declared.operator.UnOp.{UnOp}
use Rattle.page_units.specs.declared.operator.UnOp.TheVariants as u
use Rattle.js_tree.specs.declared.expr.Expr.{Expr, out-Expr}
use Rattle.js_tree.specs.declared.expr.Expr.TheOpen.{Expr-F}
use Rattle.js_tree.specs.declared.expr.Expr.TheOpen as e
use Rattle.js_tree.specs.declared.expr.Entry.{Entry}
use Rattle.js_tree.specs.declared.stmt.Stmt.{Stmt, out-Stmt}
use Rattle.js_tree.specs.declared.stmt.Stmt.TheOpen.{Stmt-F}
use Rattle.js_tree.specs.declared.stmt.Stmt.TheOpen as s
use Rattle.js_tree.specs.declared.stmt.Decl.{Decl}
use Rattle.js_tree.specs.declared.stmt.Case.{Case}
use Rattle.js_tree.specs.declared.stmt.Handler.{Handler}
use Rattle.js_tree.specs.declared.code.FnCode.{FnCode}
use Rattle.js_tree.specs.declared.code.Program.{Program}
use Rattle.js_tree.specs.Shapes.{is_name, is_target}

-- ---- words

-- The name isn't among these.
abbrev pub IsNew : List ℕ → List (List ℕ) → Type 0
IsNew n names = All (λ (m : List ℕ). m ≡ n → ⊥) names

-- No two of the names are the same.
abbrev pub AreDistinct : List (List ℕ) → Type 0
AreDistinct [] = Unit {0}
AreDistinct (n ∷ names) = IsNew n names × AreDistinct names

-- It holds of what is there.
abbrev pub IfThere : {A : Type 0} → (A → Type 0) → Option A → Type 0
IfThere P None = Unit {0}
IfThere P (Some x) = P x

abbrev pub is_there : {A : Type 0} → Option A → Bool
is_there None = false
is_there (Some x) = true

-- ---- expressions

-- an operator that stands with `=` in an assignment (11.13)
abbrev pub assigns : BinOp → Bool
assigns b.Multiply = true
assigns b.Divide = true
assigns b.Remainder = true
assigns b.Add = true
assigns b.Subtract = true
assigns b.ShiftLeft = true
assigns b.ShiftRight = true
assigns b.ShiftRightUnsigned = true
assigns b.BitAnd = true
assigns b.BitXor = true
assigns b.BitOr = true
assigns _ = false

-- `delete` stands before no name (11.4.1).
abbrev pub Deletes : UnOp → Expr → Type 0
Deletes u.Delete x = is_name x ≡ false
Deletes _ x = Unit {0}

-- of a node whose parts are valid by V, where there are so many codes
abbrev pub ExprNode : ℕ → (Expr → Type 0) → Expr-F Expr Entry → Type 0
ExprNode codes V e.This = Unit {0}
ExprNode codes V (e.Name n) = Unit {0}
ExprNode codes V (e.Num z) = IsNumber z
ExprNode codes V (e.Str t) = Unit {0}
ExprNode codes V (e.Bool t) = Unit {0}
ExprNode codes V e.Null = Unit {0}
ExprNode codes V (e.Array xs) = All V xs
ExprNode codes V (e.Table entries) = AreDistinct (map (λ (entry : Entry). entry.key) entries) × All (λ (entry : Entry). V entry.value) entries
ExprNode codes V (e.Fun number) = number < codes
ExprNode codes V (e.Member x n) = V x
ExprNode codes V (e.Index x y) = V x × V y
ExprNode codes V (e.Call x ys) = V x × All V ys
ExprNode codes V (e.New x ys) = V x × All V ys
ExprNode codes V (e.Unary op x) = Deletes op x × V x
ExprNode codes V (e.Step op is_before x) = (is_target x ≡ true) × V x
ExprNode codes V (e.Binary op x y) = V x × V y
ExprNode codes V (e.And x y) = V x × V y
ExprNode codes V (e.Or x y) = V x × V y
ExprNode codes V (e.Cond x y z) = V x × V y × V z
ExprNode codes V (e.Assign x y) = (is_target x ≡ true) × V x × V y
ExprNode codes V (e.AssignOp op x y) = (assigns op ≡ true) × (is_target x ≡ true) × V x × V y
ExprNode codes V (e.Comma x y) = V x × V y

-- A valid expression of at most so many levels, where there are so many codes.
unfoldable pub ValidExpr : ℕ → ℕ → Expr → Type 0
ValidExpr zero codes x = ⊥
ValidExpr (suc levels) codes x = ExprNode codes (ValidExpr levels codes) (out-Expr x)

-- ---- statements

-- where `return`, `continue` and `break` may stand
pub record Surroundings : Type 0 where
  pub function : Bool
  pub turning : Bool
  pub leaving : Bool

abbrev pub in_loop : Surroundings → Surroundings
in_loop p = record { function = p.function; turning = true; leaving = true }

abbrev pub in_switch : Surroundings → Surroundings
in_switch p = record { function = p.function; turning = p.turning; leaving = true }

abbrev pub in_function : Surroundings
in_function = record { function = true; turning = false; leaving = false }

abbrev pub outside : Surroundings
outside = record { function = false; turning = false; leaving = false }

-- A `for` begins with a `var` or an expression.
abbrev pub first_shape : Stmt-F Stmt Case Handler → Bool
first_shape (s.Var decls) = true
first_shape (s.Expr x) = true
first_shape _ = false

-- one more, where there is no expression
abbrev pub counted : Option Expr → ℕ → ℕ
counted None n = suc n
counted (Some x) n = n

-- how many parts of a `switch` have no expression
abbrev pub defaults : List Case → ℕ
defaults [] = 0
defaults (part ∷ parts) = counted part.test (defaults parts)

-- of a node whose expressions are valid by E, and whose statements by V
abbrev pub StmtNode : (Expr → Type 0) → (Surroundings → Stmt → Type 0) → Surroundings → Stmt-F Stmt Case Handler → Type 0
StmtNode E V p (s.Block stmts) = All (V p) stmts
StmtNode E V p (s.Var decls) = All (λ (decl : Decl). IfThere E decl.value) decls
StmtNode E V p s.Empty = Unit {0}
StmtNode E V p (s.Expr x) = E x
StmtNode E V p (s.If x y z) = E x × V p y × IfThere (V p) z
StmtNode E V p (s.DoWhile x y) = V (in_loop p) x × E y
StmtNode E V p (s.While x y) = E x × V (in_loop p) y
StmtNode E V p (s.For x y z body) = IfThere (λ (first : Stmt). (first_shape (out-Stmt first) ≡ true) × V p first) x × IfThere E y × IfThere E z × V (in_loop p) body
StmtNode E V p (s.ForIn n x y) = E x × V (in_loop p) y
StmtNode E V p s.Continue = p.turning ≡ true
StmtNode E V p s.Break = p.leaving ≡ true
StmtNode E V p (s.Return x) = (p.function ≡ true) × IfThere E x
StmtNode E V p (s.Throw x) = E x
StmtNode E V p (s.Switch x cases) = E x × (defaults cases < 2) × All (λ (case : Case). IfThere E case.test × All (V (in_switch p)) case.body) cases
StmtNode E V p (s.Try block handler last) = ((is_there handler || is_there last) ≡ true) × All (V p) block × IfThere (λ (h : Handler). All (V p) h.body) handler × IfThere (All (V p)) last

-- A valid statement of at most so many levels that stands so, where there are so many codes.
unfoldable pub ValidStmt : ℕ → ℕ → Surroundings → Stmt → Type 0
ValidStmt zero codes p x = ⊥
ValidStmt (suc levels) codes p x = StmtNode (ValidExpr levels codes) (ValidStmt levels codes) p (out-Stmt x)

-- ---- programs

-- There is a code of this number, and it has a name.
abbrev pub IsNamed : List FnCode → ℕ → Type 0
IsNamed codes number = (code : FnCode) × (slice_get codes number ≡ Some code) × (is_there code.name ≡ true)

pub record ValidCode (codes : List FnCode) (code : FnCode) : Type 0 where
  pub params : AreDistinct code.params
  pub vars : AreDistinct code.vars
  pub funs : All (IsNamed codes) code.funs
  pub body : All (ValidStmt 128 (length codes) in_function) code.body

pub record IsValid (program : Program) : Type 0 where
  pub codes : All (ValidCode program.codes) program.codes
  pub vars : AreDistinct program.vars
  pub funs : All (IsNamed program.codes) program.funs
  pub body : All (ValidStmt 128 (length program.codes) outside) program.body
