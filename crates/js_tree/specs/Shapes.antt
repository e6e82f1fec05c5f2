-- What an expression is, by its outermost node.
use Rattle.std.specs.Prelude.{Bool, true, false}
use Rattle.js_tree.specs.declared.expr.Expr.{Expr, out-Expr}
use Rattle.js_tree.specs.declared.expr.Entry.{Entry}
use Rattle.js_tree.specs.declared.expr.Expr.TheOpen.{Expr-F}
use Rattle.js_tree.specs.declared.expr.Expr.TheOpen as shapes

abbrev pub name_shape : Expr-F Expr Entry → Bool
name_shape (shapes.Name n) = true
name_shape _ = false

abbrev pub is_name : Expr → Bool
is_name x = name_shape (out-Expr x)

abbrev pub target_shape : Expr-F Expr Entry → Bool
target_shape (shapes.Name n) = true
target_shape (shapes.Member x n) = true
target_shape (shapes.Index x y) = true
target_shape _ = false

-- a name or a property: what may be assigned (ECMA-262 5.1, 11.13.1 and 8.7)
abbrev pub is_target : Expr → Bool
is_target x = target_shape (out-Expr x)
