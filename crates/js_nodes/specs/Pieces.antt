-- What was read of functions and statements, and what they stand in.
use Rattle.std.specs.Prelude.{ℕ, Bool, true, false, cond, List, [], ◌∷◌, ◌++◌, None, bytes_eq}
use Rattle.std.specs.List.{list_any}
use Rattle.js_tree.specs.declared.code.FnCode.{FnCode}
use Rattle.js_tree.specs.declared.stmt.Stmt.{Stmt}
use Rattle.js_nodes.specs.declared.context.After.{After}
use Rattle.js_nodes.specs.declared.context.Inside.{Inside}
use Rattle.js_nodes.specs.declared.depth.Depth.{Depth}
use Rattle.js_nodes.specs.declared.operand.Coded.{Coded}
use Rattle.js_nodes.specs.declared.series.State.{State}
use Rattle.js_nodes.specs.declared.series.Body.{Body}
use Rattle.js_tree.specs.declared.expr.Entry.{Entry}
use Rattle.js_nodes.specs.declared.operand.Entries.{Entries}
use Rattle.js_nodes.specs.Operands.{raised}
use Rattle.js_tree.specs.declared.stmt.Case.{Case}
use Rattle.js_tree.specs.declared.stmt.Decl.{Decl}
use Rattle.js_nodes.specs.declared.series.Said.{Said}
use Rattle.js_nodes.specs.declared.series.Series.{Series}
use Rattle.js_nodes.specs.declared.series.Decls.{Decls}
use Rattle.js_nodes.specs.declared.series.Cases.{Cases}

-- holds the place of a code until its body ends
abbrev pub blank : FnCode
blank = record { name = None; params = []; vars = []; funs = []; body = [] }

abbrev pub has : List (List ℕ) → List ℕ → Bool
has names n = list_any (λ m. bytes_eq m n) names

abbrev pub state : List FnCode → List (List ℕ) → State
state codes vars = record { codes = codes; vars = vars }

abbrev pub body : List Stmt → State → List ℕ → Depth → Body
body stmts added funs depth = record { stmts = stmts; state = added; funs = funs; depth = depth }

abbrev pub coded : List FnCode → Depth → Coded
coded codes depth = record { codes = codes; depth = depth }

abbrev pub entries : List Entry → List FnCode → Depth → Entries
entries es codes depth = record { entries = es; codes = codes; depth = depth }

abbrev pub has_key : List Entry → List ℕ → Bool
has_key es n = list_any (λ (entry : Entry). bytes_eq entry.key n) es

-- a statement that begins here, over its parts
abbrev pub said : Stmt → State → ℕ → Depth → Said
said stmt added at depth = record { stmt = stmt; state = added; depth = raised at depth }

abbrev pub series : List Stmt → State → Depth → Series
series stmts added depth = record { stmts = stmts; state = added; depth = depth }

abbrev pub decls : List Decl → State → Depth → Decls
decls ds added depth = record { decls = ds; state = added; depth = depth }

abbrev pub cases : List Case → State → Bool → Depth → Cases
cases cs added has_default depth = record { cases = cs; state = added; has_default = has_default; depth = depth }

-- a name among others, once
abbrev pub once : List (List ℕ) → List ℕ → List (List ℕ)
once names n = cond (has names n) names (names ++ n ∷ [])

abbrev pub declared : State → List ℕ → State
declared added n = state added.codes (once added.vars n)

-- ---- what a statement stands in, and what may follow it there (sections 12 to 14)

abbrev pub nothing_after : After
nothing_after = record {
  statement = false;
  declaration = false;
  brace = false;
  case = false;
  otherwise = false;
  repeat = false;
  end = false;
}

-- in a list of statements
abbrev pub statements_after : After
statements_after = record nothing_after { statement = true }

-- outside of functions
abbrev pub outside : Inside
outside = record {
  function = false;
  turning = false;
  leaving = false;
  after = record statements_after { declaration = true; end = true };
}

-- in a function, outside of its loops
abbrev pub called : Inside
called = record {
  function = true;
  turning = false;
  leaving = false;
  after = record statements_after { declaration = true; brace = true };
}

-- in a block
abbrev pub braces : Inside → Inside
braces inside = record inside { after = record statements_after { brace = true } }

-- in the first part of an `if`
abbrev pub before_else : Inside → Inside
before_else inside = record inside { after = record inside.after { otherwise = true } }

-- in a loop; what follows the loop follows its body
abbrev pub turning : Inside → Inside
turning inside = record inside { turning = true; leaving = true }

-- in the body of a `do`
abbrev pub doing : Inside → Inside
doing inside = record inside { turning = true; leaving = true; after = record nothing_after { repeat = true } }

-- in a `switch`
abbrev pub choosing : Inside → Inside
choosing inside = record inside { leaving = true; after = record statements_after { brace = true; case = true } }
