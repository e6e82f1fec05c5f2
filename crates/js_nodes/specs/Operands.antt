-- What was read, with the levels that it takes. A piece takes as many levels as the deepest chain of nodes in it has
-- nodes; a pair of parentheses counts as one. `room` is how many levels are left for it, its own counted: a whole
-- script's statements have 128.
use Rattle.std.specs.Prelude.{ℕ, ◌+◌, nat_lt, nat_eq, Bool, true, false, not, cond, ◌||◌, ◌&&◌, List, [], ◌∷◌, ◌++◌, Option, Some, None}
use Rattle.js_lexer.specs.declared.token.Kind.{Kind}
use Rattle.js_tree.specs.declared.expr.Expr.{Expr, out-Expr}
use Rattle.js_tree.specs.declared.expr.Expr.TheOpen.{Expr-F}
use Rattle.js_tree.specs.declared.expr.Entry.{Entry}
use Rattle.js_tree.specs.declared.code.FnCode.{FnCode}
use Rattle.js_tree.specs.Shapes.{is_name, is_target}
use Rattle.js_nodes.specs.declared.fault.Fault.{Fault}
use Rattle.js_nodes.specs.declared.fault.Fault.TheVariants.{Nesting, Syntax}
use Rattle.js_nodes.specs.declared.context.Context.{Context}
use Rattle.js_nodes.specs.declared.context.Closer.{Closer}
use Rattle.js_nodes.specs.declared.depth.Depth.{Depth}
use Rattle.js_nodes.specs.declared.operand.Operand.{Operand}
use Rattle.js_nodes.specs.declared.operand.Row.{Row}
use Rattle.js_nodes.specs.declared.operand.Part.{Part}
use Rattle.js_nodes.specs.Next.{Next, of, place, shows, is_there, is_on_new_line}
use Rattle.js_nodes.specs.Operators.{is_assignment, is_step, is_delete}
use Rattle.js_lexer.specs.declared.token.Punct.TheVariants as p
use Rattle.js_tree.specs.declared.expr.Expr.TheOpen as shapes
use Rattle.js_nodes.specs.declared.context.Closer.TheVariants as c
use Rattle.js_nodes.specs.Operators as operators

-- ---- levels

abbrev pub nothing : Depth
nothing = record { height = 0; deepest = 0 }

-- of two pieces beside each other, the first in order
unfoldable pub both : Depth → Depth → Depth
both d e = cond (nat_lt d.height e.height) e d

-- a node, or a pair of parentheses, that begins here, over its parts
unfoldable pub raised : ℕ → Depth → Depth
raised at d = cond (nat_eq d.height 0) (record { height = 1; deepest = at }) (record { height = d.height + 1; deepest = d.deepest })

-- A level is left for one node more on top.
abbrev pub level_flaw : ℕ → Depth → Option Fault
level_flaw room d = cond (nat_lt d.height room) None (Some (Nesting d.deepest))

-- ---- operands

abbrev pub operand : Expr → List FnCode → ℕ → Depth → Operand
operand value codes at depth = record { value = value; codes = codes; at = at; depth = depth }

-- a node without parts
abbrev pub leaf : Expr → List FnCode → Next → Operand
leaf value codes t = operand value codes (place t) (raised (place t) nothing)

-- a node on top of an operand, which begins with it
abbrev pub over : Expr → Operand → Operand
over value x = operand value x.codes x.at (raised x.at x.depth)

-- a node on top of two, which begins with the first
abbrev pub above : Expr → Operand → Operand → Operand
above value x y = operand value y.codes x.at (raised x.at (both x.depth y.depth))

abbrev pub row : List Expr → List FnCode → Depth → Row
row values codes depth = record { values = values; codes = codes; depth = depth }

abbrev pub row_more : Row → Operand → Row
row_more r x = row (r.values ++ x.value ∷ []) x.codes (both r.depth x.depth)

abbrev pub part : Option Expr → List FnCode → Depth → Part
part value codes depth = record { value = value; codes = codes; depth = depth }

-- ---- tests of finished operands

-- what is assigned must be a name or a property, for which a level is left
abbrev pub target_flaw : ℕ → Operand → Option Fault
target_flaw room x = cond (is_target x.value) (level_flaw room x.depth) (Some (Syntax x.at))

-- a name without parentheses
abbrev pub is_bare_name : Operand → Bool
is_bare_name x = is_name x.value && nat_eq x.depth.height 1

abbrev pub name_shape : Expr-F Expr Entry → List ℕ
name_shape (shapes.Name n) = n
name_shape _ = []

abbrev pub name_of : Expr → List ℕ
name_of x = name_shape (out-Expr x)

-- what `++`, `--` and `delete` may not stand before
abbrev pub prefix_flaw : Kind → Operand → Option Fault
prefix_flaw kind x =
    cond (is_step kind && not (is_target x.value)) (Some (Syntax x.at))
    (cond (is_delete kind && is_name x.value) (Some (Syntax x.depth.deepest)) None)

-- ---- contexts

abbrev pub context : Closer → Context
context closer = record { closer = closer; has_in = true }

-- the first part of a `for` head, where `in` is no operator outside brackets
abbrev pub first_context : Context
first_context = record { closer = c.Semicolon; has_in = false }

-- between the `?` and the `:` of a conditional
abbrev pub middle : Context → Context
middle x = record { closer = c.Middle; has_in = x.has_in }

-- A semicolon is inserted before it, where it fits no rule (ECMA-262 5.1, 7.9.1).
abbrev pub inserted : Next → Bool
inserted t = not (shows p.Semicolon t) && (is_on_new_line t || (shows p.RightBrace t || not (is_there t)))

-- A statement ends before such a token, or with it.
abbrev pub ends : Next → Bool
ends t = shows p.Semicolon t || inserted t

abbrev pub is_middle : Closer → Bool
is_middle c.Middle = true
is_middle _ = false

-- how tightly the next token binds as an operator between two operands
unfoldable pub binds : Context → Next → ℕ
binds x None = 0
binds x (Some t) = operators.binds x.has_in t.kind

-- An expression goes on so behind a finished operand of a prefix operator.
unfoldable pub continues : Context → Next → Bool
continues x t =
    nat_lt 0 (binds x t) || (shows p.Question t || (of is_assignment t || (shows p.Comma t && not (is_middle x.closer))))
