-- Expressions from the postfix operators up (ECMA-262 5.1, 11.3 to 11.14).
use Rattle.std.specs.Prelude.{ℕ, zero, suc, ◌-◌, Bool, not, cond, ◌==◌, nat_le, List, Option, Some, None}
use Rattle.grammar.specs.Grammar.{done, or, again}
use Rattle.grammar.specs.Words.{◌>>=◌, ◌>>◌, next}
use Rattle.js_tree.specs.declared.code.FnCode.{FnCode}
use Rattle.js_tree.specs.declared.expr.Expr.{Expr}
use Rattle.js_nodes.specs.declared.depth.Depth.{Depth}
use Rattle.js_nodes.specs.declared.fault.Fault.{Fault}
use Rattle.js_nodes.specs.declared.context.Context.{Context}
use Rattle.js_nodes.specs.declared.operand.Operand.{Operand}
use Rattle.js_nodes.specs.Next.{Next, of, shows}
use Rattle.js_nodes.specs.Operators.{is_assignment, is_prefix, joined, assigned}
use Rattle.js_cursor.specs.Words.{R, takes, deeper, sign}
use Rattle.js_nodes.specs.Operands.{both, raised, operand, above, level_flaw, target_flaw, prefix_flaw, first_context, middle, binds}
use Rattle.js_parser.specs.Levels.{Level}
use Rattle.js_parser.specs.Chains.{left}
use Rattle.js_cursor.specs.Rules.{stepped_or_not, prefix_end, lone_name}
use Rattle.js_lexer.specs.declared.token.Punct.TheVariants as p
use Rattle.js_tree.specs.declared.expr.Expr.TheVariants as e

-- ---- postfix and prefix operators

-- PostfixExpression
unfoldable pub postfix : ℕ → Level → List FnCode → R Operand
postfix room below codes = do
  x ← left room below codes
  stepped_or_not room x

abbrev pub flaw_of_prefix : Next → Operand → Option Fault
flaw_of_prefix None x = None
flaw_of_prefix (Some t) x = prefix_flaw t.kind x

unfoldable pub prefix : ℕ → Level → Context → List FnCode → R Operand
prefix room below context codes = do
  t ← deeper room (of is_prefix)
  x ← below.binary context 0 codes
  prefix_end context t x (flaw_of_prefix t x)

-- UnaryExpression
unfoldable pub unary : ℕ → Level → Context → List FnCode → R Operand
unary room below context codes = or (prefix room below context codes) (postfix room below codes)

-- ---- operators between two operands

abbrev pub binds_at : Context → ℕ → Next → Bool
binds_at context n t = binds context t == n

abbrev pub joined_by : Next → Operand → Operand → Operand
joined_by None x y = x
joined_by (Some t) x y = above (joined t.kind x.value y.value) x y

-- one operator and operand more
unfoldable pub operation : ℕ → Level → Context → ℕ → Operand → R Operand
operation room below context n x = do
  t ← takes (binds_at context n) (level_flaw room x.depth)
  y ← below.binary context (n - 1) x.codes
  done (joined_by t x y)

-- operands whose operators bind at least so tightly, from left to right (11.5 to 11.11)
unfoldable pub binary : ℕ → Level → Context → ℕ → List FnCode → R Operand
binary room below context zero codes = unary room below context codes
binary room below context (suc n) codes = do
  x ← binary room below context n codes
  again (λ _ t. binds_at context (suc n) t) (operation room below context (suc n)) x

-- behind the `:`, with the levels of the test and of what stands before it
unfoldable pub other_branch : Level → Context → Expr → ℕ → Depth → Expr → List FnCode → R Operand
other_branch below context test at depth middle codes = do
  z ← below.assign context codes
  done (operand (e.Cond test middle z.value) z.codes at (raised at (both depth z.depth)))

-- behind the `?`
unfoldable pub branches : Level → Context → Operand → R Operand
branches below context x = do
  y ← below.assign (middle context) x.codes
  sign p.Colon
  other_branch below context x.value x.at (both x.depth y.depth) y.value y.codes

unfoldable pub chosen : ℕ → Level → Context → Operand → R Operand
chosen room below context x = or
    (do
      takes (shows p.Question) (level_flaw room x.depth)
      branches below context x)
    (do
      next (λ t. not (shows p.Question t))
      done x)

-- ConditionalExpression (11.12)
unfoldable pub conditional : ℕ → Level → Context → List FnCode → R Operand
conditional room below context codes = do
  x ← binary room below context 10 codes
  chosen room below context x

abbrev pub assigned_by : Next → Operand → Operand → Operand
assigned_by None x y = x
assigned_by (Some t) x y = above (assigned t.kind x.value y.value) x y

unfoldable pub assigned_or_not : ℕ → Level → Context → Operand → R Operand
assigned_or_not room below context x = or
    (do
      t ← takes (of is_assignment) (target_flaw room x)
      y ← below.assign context x.codes
      done (assigned_by t x y))
    (do
      next (λ t. not (of is_assignment t))
      done x)

-- AssignmentExpression (11.13)
unfoldable pub assign : ℕ → Level → Context → List FnCode → R Operand
assign room below context codes = do
  x ← conditional room below context codes
  assigned_or_not room below context x

unfoldable pub comma : ℕ → Level → Context → Operand → R Operand
comma room below context x = do
  takes (shows p.Comma) (level_flaw room x.depth)
  y ← below.assign context x.codes
  done (above (e.Comma x.value y.value) x y)

-- Expression (11.14)
unfoldable pub expr : ℕ → Level → Context → List FnCode → R Operand
expr room below context codes = do
  x ← assign room below context codes
  again (λ _ t. shows p.Comma t) (comma room below context) x

-- ---- the first part of a `for` head

-- the expression, whose statement has so many levels
unfoldable pub first : ℕ → Level → List FnCode → R Operand
first room below codes = cond (nat_le room 1) (lone_name codes) (below.expr first_context codes)
