-- The operators of expressions (ECMA-262 5.1, 11.3 to 11.13).
use Rattle.std.specs.Prelude.{ℕ, Bool, true, false, cond}
use Rattle.js_lexer.specs.declared.token.Kind.{Kind}
use Rattle.page_units.specs.declared.operator.BinOp.{BinOp}
use Rattle.page_units.specs.declared.operator.UnOp.{UnOp}
use Rattle.js_tree.specs.declared.operator.StepOp.{StepOp}
use Rattle.js_tree.specs.declared.expr.Expr.{Expr}
use Rattle.js_lexer.specs.declared.token.Kind.TheVariants as k
use Rattle.js_lexer.specs.declared.token.Punct.TheVariants as p
use Rattle.js_lexer.specs.declared.token.Word.TheVariants as w
use Rattle.page_units.specs.declared.operator.BinOp.TheVariants as b
use Rattle.page_units.specs.declared.operator.UnOp.TheVariants as u
use Rattle.js_tree.specs.declared.operator.StepOp.TheVariants as steps
use Rattle.js_tree.specs.declared.expr.Expr.TheVariants as e

-- how tightly an operator between two operands binds (11.5 to 11.11): the tightest 1, the loosest 10, and 0 for what is
-- none; whether `in` is one
unfoldable pub binds : Bool → Kind → ℕ
binds has_in (k.Punct p.Star) = 1
binds has_in (k.Punct p.Slash) = 1
binds has_in (k.Punct p.Percent) = 1
binds has_in (k.Punct p.Plus) = 2
binds has_in (k.Punct p.Minus) = 2
binds has_in (k.Punct p.ShiftLeft) = 3
binds has_in (k.Punct p.ShiftRight) = 3
binds has_in (k.Punct p.ShiftRightZero) = 3
binds has_in (k.Punct p.Less) = 4
binds has_in (k.Punct p.Greater) = 4
binds has_in (k.Punct p.LessEqual) = 4
binds has_in (k.Punct p.GreaterEqual) = 4
binds has_in (k.Word w.Instanceof) = 4
binds has_in (k.Word w.In) = cond has_in 4 0
binds has_in (k.Punct p.Equal) = 5
binds has_in (k.Punct p.NotEqual) = 5
binds has_in (k.Punct p.StrictEqual) = 5
binds has_in (k.Punct p.StrictNotEqual) = 5
binds has_in (k.Punct p.BitAnd) = 6
binds has_in (k.Punct p.BitXor) = 7
binds has_in (k.Punct p.BitOr) = 8
binds has_in (k.Punct p.And) = 9
binds has_in (k.Punct p.Or) = 10
binds has_in _ = 0

-- the operator between two operands that is spelled so
unfoldable pub binary_op : Kind → BinOp
binary_op (k.Punct p.Star) = b.Multiply
binary_op (k.Punct p.Slash) = b.Divide
binary_op (k.Punct p.Percent) = b.Remainder
binary_op (k.Punct p.Plus) = b.Add
binary_op (k.Punct p.Minus) = b.Subtract
binary_op (k.Punct p.ShiftLeft) = b.ShiftLeft
binary_op (k.Punct p.ShiftRight) = b.ShiftRight
binary_op (k.Punct p.ShiftRightZero) = b.ShiftRightUnsigned
binary_op (k.Punct p.Less) = b.Less
binary_op (k.Punct p.Greater) = b.Greater
binary_op (k.Punct p.LessEqual) = b.LessEqual
binary_op (k.Punct p.GreaterEqual) = b.GreaterEqual
binary_op (k.Word w.Instanceof) = b.InstanceOf
binary_op (k.Word w.In) = b.In
binary_op (k.Punct p.Equal) = b.Equal
binary_op (k.Punct p.NotEqual) = b.NotEqual
binary_op (k.Punct p.StrictEqual) = b.StrictEqual
binary_op (k.Punct p.StrictNotEqual) = b.StrictNotEqual
binary_op (k.Punct p.BitAnd) = b.BitAnd
binary_op (k.Punct p.BitXor) = b.BitXor
binary_op _ = b.BitOr

-- what such an operator makes of its operands
unfoldable pub joined : Kind → Expr → Expr → Expr
joined (k.Punct p.And) x y = e.And x y
joined (k.Punct p.Or) x y = e.Or x y
joined kind x y = e.Binary (binary_op kind) x y

-- an assignment (11.13)
unfoldable pub is_assignment : Kind → Bool
is_assignment (k.Punct p.Assign) = true
is_assignment (k.Punct p.PlusAssign) = true
is_assignment (k.Punct p.MinusAssign) = true
is_assignment (k.Punct p.StarAssign) = true
is_assignment (k.Punct p.SlashAssign) = true
is_assignment (k.Punct p.PercentAssign) = true
is_assignment (k.Punct p.ShiftLeftAssign) = true
is_assignment (k.Punct p.ShiftRightAssign) = true
is_assignment (k.Punct p.ShiftRightZeroAssign) = true
is_assignment (k.Punct p.BitAndAssign) = true
is_assignment (k.Punct p.BitXorAssign) = true
is_assignment (k.Punct p.BitOrAssign) = true
is_assignment _ = false

-- the operator of an assignment with one
unfoldable pub assignment_op : Kind → BinOp
assignment_op (k.Punct p.PlusAssign) = b.Add
assignment_op (k.Punct p.MinusAssign) = b.Subtract
assignment_op (k.Punct p.StarAssign) = b.Multiply
assignment_op (k.Punct p.SlashAssign) = b.Divide
assignment_op (k.Punct p.PercentAssign) = b.Remainder
assignment_op (k.Punct p.ShiftLeftAssign) = b.ShiftLeft
assignment_op (k.Punct p.ShiftRightAssign) = b.ShiftRight
assignment_op (k.Punct p.ShiftRightZeroAssign) = b.ShiftRightUnsigned
assignment_op (k.Punct p.BitAndAssign) = b.BitAnd
assignment_op (k.Punct p.BitXorAssign) = b.BitXor
assignment_op _ = b.BitOr

unfoldable pub assigned : Kind → Expr → Expr → Expr
assigned (k.Punct p.Assign) x y = e.Assign x y
assigned kind x y = e.AssignOp (assignment_op kind) x y

-- `++` or `--` (11.3, 11.4.4 and 11.4.5)
abbrev pub is_step : Kind → Bool
is_step (k.Punct p.Increment) = true
is_step (k.Punct p.Decrement) = true
is_step _ = false

abbrev pub step_op : Kind → StepOp
step_op (k.Punct p.Increment) = steps.Inc
step_op _ = steps.Dec

-- an operator before its operand (11.4)
unfoldable pub is_prefix : Kind → Bool
is_prefix (k.Word w.Delete) = true
is_prefix (k.Word w.Void) = true
is_prefix (k.Word w.Typeof) = true
is_prefix (k.Punct p.Increment) = true
is_prefix (k.Punct p.Decrement) = true
is_prefix (k.Punct p.Plus) = true
is_prefix (k.Punct p.Minus) = true
is_prefix (k.Punct p.BitNot) = true
is_prefix (k.Punct p.Not) = true
is_prefix _ = false

abbrev pub is_delete : Kind → Bool
is_delete (k.Word w.Delete) = true
is_delete _ = false

unfoldable pub unary_op : Kind → UnOp
unary_op (k.Word w.Delete) = u.Delete
unary_op (k.Word w.Void) = u.Void
unary_op (k.Word w.Typeof) = u.TypeOf
unary_op (k.Punct p.Plus) = u.Plus
unary_op (k.Punct p.Minus) = u.Minus
unary_op (k.Punct p.BitNot) = u.BitNot
unary_op _ = u.Not

abbrev pub prefix_value : Kind → Expr → Expr
prefix_value kind x = cond (is_step kind) (e.Step (step_op kind) true x) (e.Unary (unary_op kind) x)
