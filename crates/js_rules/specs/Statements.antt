-- Statements (ECMA-262 5.1, 12), each executed in a frame. How a statement ends is a flow, or a throw.
use Rattle.std.specs.Prelude.{ℕ, ◌+◌, List, [], ◌∷◌, Option, Some, None, Result, Ok, Err, if◌then◌else◌}
use Rattle.page_units.specs.declared.value.CellName.{CellName}
use Rattle.page_units.specs.declared.value.Value.{Value}
use Rattle.page_units.specs.declared.value.Value.TheVariants as v
use Rattle.cell_places.specs.declared.answer.Answer.TheVariants as a
use Rattle.js_ops.specs.Conversions.{truth}
use Rattle.js_tree.specs.declared.expr.Expr.{Expr}
use Rattle.js_tree.specs.declared.stmt.Stmt.{Stmt}
use Rattle.js_tree.specs.declared.stmt.Stmt.TheOpen.{Stmt-F}
use Rattle.js_tree.specs.declared.stmt.Stmt.TheOpen as st
use Rattle.js_tree.specs.declared.stmt.Decl.{Decl}
use Rattle.js_tree.specs.declared.stmt.Case.{Case}
use Rattle.js_tree.specs.declared.stmt.Handler.{Handler}
use Rattle.js_rules.specs.declared.flow.Flow.{Flow}
use Rattle.js_rules.specs.declared.flow.Flow.TheVariants as flow
use Rattle.js_rules.specs.Fixed.{Frame, in_scope}
use Rattle.js_rules.specs.Tasks.{Nothing, Flows, Selections, Eval, Exec, Each, Declare, DoLoop, WhileLoop, ForLoop, Visit, Select, RunCases, Guard, Find, SetBinding, HasProperty, ChainKeys, IsSame}
use Rattle.js_rules.specs.Prog.{Prog, Ret, Throw, ◌>>=◌, ◌>>◌, put, part, ends, done, bind, weight}
use Rattle.js_rules.specs.Tasks.{NewScope}

-- ---- lists of statements (12.1)

-- the rest, only after a statement that ends normally
abbrev pub then_rest : Frame → List Stmt → Flow → Prog Flows
then_rest f more flow.Normal = part (Each f more)
then_rest f more end = Ret end

abbrev pub each : Frame → List Stmt → Prog Flows
each f [] = Ret flow.Normal
each f (x ∷ more) = do
  end ← part (Exec f x)
  then_rest f more end

-- ---- variables (12.2)

-- a variable with an initialiser is assigned
abbrev pub declare : Frame → List Decl → Option Expr → List ℕ → Prog Nothing
declare f more None name = part (Declare f more)
declare f more (Some x) name = do
  b ← part (Find f.scope name)
  y ← part (Eval f x)
  part (SetBinding name b y)
  part (Declare f more)

abbrev pub declare_all : Frame → List Decl → Prog Nothing
declare_all f [] = done
declare_all f (x ∷ more) = declare f more x.value x.name

-- ---- loops (12.6)

-- what comes after a turn of a loop that ended so, unless it left the loop
abbrev pub goes_on : Flow → Prog Flows → Prog Flows
goes_on flow.Normal next = next
goes_on flow.Continue next = next
goes_on flow.Break next = Ret flow.Normal
goes_on (flow.Return x) next = Ret (flow.Return x)

-- do (12.6.1)
abbrev pub do_test : Frame → Stmt → Expr → Prog Flows
do_test f body test = do
  x ← part (Eval f test)
  if truth x then part (DoLoop f body test) else Ret flow.Normal

abbrev pub do_loop : Frame → Stmt → Expr → Prog Flows
do_loop f body test = do
  end ← part (Exec f body)
  goes_on end (do_test f body test)

-- while (12.6.2)
abbrev pub while_turn : Frame → Expr → Stmt → Prog Flows
while_turn f test body = do
  end ← part (Exec f body)
  goes_on end (part (WhileLoop f test body))

abbrev pub while_loop : Frame → Expr → Stmt → Prog Flows
while_loop f test body = do
  x ← part (Eval f test)
  if truth x then while_turn f test body else Ret flow.Normal

-- for (12.6.3)
abbrev pub for_next : Frame → Option Expr → Option Expr → Stmt → Prog Flows
for_next f test None body = part (ForLoop f test None body)
for_next f test (Some x) body = do
  part (Eval f x)
  part (ForLoop f test (Some x) body)

abbrev pub for_turn : Frame → Option Expr → Option Expr → Stmt → Prog Flows
for_turn f test update body = do
  end ← part (Exec f body)
  goes_on end (for_next f test update body)

abbrev pub for_loop : Frame → Option Expr → Option Expr → Stmt → Prog Flows
for_loop f None update body = for_turn f None update body
for_loop f (Some test) update body = do
  x ← part (Eval f test)
  if truth x then for_turn f (Some test) update body else Ret flow.Normal

abbrev pub for_first : Frame → Option Stmt → Option Expr → Option Expr → Stmt → Prog Flows
for_first f None test update body = part (ForLoop f test update body)
for_first f (Some x) test update body = do
  part (Exec f x)
  part (ForLoop f test update body)

-- for-in (12.6.4): the keys are listed at the start, and each is visited that is still there
abbrev pub visit_key : Frame → CellName → List ℕ → List ℕ → List (List ℕ) → Stmt → Prog Flows
visit_key f object name key more body = do
  b ← part (Find f.scope name)
  part (SetBinding name b (v.Str key))
  end ← part (Exec f body)
  goes_on end (part (Visit f object name more body))

abbrev pub visit : Frame → CellName → List ℕ → List (List ℕ) → Stmt → Prog Flows
visit f object name [] body = Ret flow.Normal
visit f object name (key ∷ more) body = do
  there ← part (HasProperty object key)
  if there then visit_key f object name key more body else part (Visit f object name more body)

abbrev pub for_in : Frame → List ℕ → Stmt → Value → Prog Flows
for_in f name body (v.Cell object) = do
  keys ← part (ChainKeys object)
  part (Visit f object name keys body)
for_in f name body _ = Ret flow.Normal

-- ---- switch (12.11)

-- the part that fits, with those after it; `default` fits nothing
abbrev pub select_if : Frame → Value → Case → List Case → Option Expr → Prog Selections
select_if f x c more None = part (Select f x more)
select_if f x c more (Some test) = do
  y ← part (Eval f test)
  same ← part (IsSame x y)
  if truth same then Ret (Some (c ∷ more)) else part (Select f x more)

abbrev pub select : Frame → Value → List Case → Prog Selections
select f x [] = Ret None
select f x (c ∷ more) = select_if f x c more c.test

-- from `default` on
abbrev pub or_later : Case → List Case → Option Expr → List Case → List Case
or_later c more None later = c ∷ more
or_later c more (Some test) later = later

abbrev pub from_default : List Case → List Case
from_default [] = []
from_default (c ∷ more) = or_later c more c.test (from_default more)

abbrev pub selected : List Case → Option (List Case) → List Case
selected cases None = from_default cases
selected cases (Some rest) = rest

abbrev pub next_case : Frame → List Case → Flow → Prog Flows
next_case f more flow.Normal = part (RunCases f more)
next_case f more end = Ret end

abbrev pub run_cases : Frame → List Case → Prog Flows
run_cases f [] = Ret flow.Normal
run_cases f (c ∷ more) = do
  end ← part (Each f c.body)
  next_case f more end

-- `break` leaves the switch
abbrev pub left : Flow → Flow
left flow.Break = flow.Normal
left end = end

abbrev pub switch : Frame → Expr → List Case → Prog Flows
switch f e cases = do
  x ← part (Eval f e)
  rest ← part (Select f x cases)
  end ← part (RunCases f (selected cases rest))
  Ret (left end)

-- ---- try (12.14)

-- what was thrown is bound in a scope of its own
abbrev pub caught : Frame → Handler → Result Flow Value → Prog Flows
caught f h (Ok end) = Ret end
caught f h (Err x) = do
  scope ← part (NewScope f.scope (1 + weight h.name))
  put (bind scope h.name) (a.One x)
  part (Each (in_scope scope f) h.body)

abbrev pub guard : Frame → List Stmt → Option Handler → Prog Flows
guard f block None = part (Each f block)
guard f block (Some h) = ends (Each f block) (caught f h)

-- an abrupt end of `finally` replaces the earlier end
abbrev pub as_before : Result Flow Value → Prog Flows
as_before (Ok end) = Ret end
as_before (Err x) = Throw x

abbrev pub at_last : Result Flow Value → Flow → Prog Flows
at_last before flow.Normal = as_before before
at_last before end = Ret end

abbrev pub finally : Frame → List Stmt → Result Flow Value → Prog Flows
finally f last before = do
  end ← part (Each f last)
  at_last before end

abbrev pub try_statement : Frame → List Stmt → Option Handler → Option (List Stmt) → Prog Flows
try_statement f block handler None = part (Guard f block handler)
try_statement f block handler (Some last) = ends (Guard f block handler) (finally f last)

-- ---- all statements

abbrev pub otherwise : Frame → Option Stmt → Prog Flows
otherwise f None = Ret flow.Normal
otherwise f (Some x) = part (Exec f x)

abbrev pub return_value : Frame → Option Expr → Prog Flows
return_value f None = Ret (flow.Return v.Undefined)
return_value f (Some x) = do
  y ← part (Eval f x)
  Ret (flow.Return y)

-- a statement by its outermost node
abbrev pub statement : Frame → Stmt-F Stmt Case Handler → Prog Flows
statement f (st.Block stmts) = part (Each f stmts)
statement f (st.Var decls) = do
  part (Declare f decls)
  Ret flow.Normal
statement f st.Empty = Ret flow.Normal
statement f (st.Expr x) = do
  part (Eval f x)
  Ret flow.Normal
statement f (st.If x y z) = do
  test ← part (Eval f x)
  if truth test then part (Exec f y) else otherwise f z
statement f (st.DoWhile body test) = part (DoLoop f body test)
statement f (st.While test body) = part (WhileLoop f test body)
statement f (st.For first test update body) = for_first f first test update body
statement f (st.ForIn name x body) = do
  object ← part (Eval f x)
  for_in f name body object
statement f st.Continue = Ret flow.Continue
statement f st.Break = Ret flow.Break
statement f (st.Return x) = return_value f x
statement f (st.Throw x) = do
  y ← part (Eval f x)
  Throw y
statement f (st.Switch x cases) = switch f x cases
statement f (st.Try block handler last) = try_statement f block handler last
