-- What may be evaluated, each with a rule of its own, and what it gives (ECMA-262 5.1, WHATWG DOM, and this project's
-- own).
use Rattle.std.specs.Prelude.{ℕ, ℤ, Bool, List, Option, Result}
use Rattle.page_units.specs.declared.value.CellName.{CellName}
use Rattle.page_units.specs.declared.value.Value.{Value}
use Rattle.page_units.specs.declared.operator.BinOp.{BinOp}
use Rattle.cell_places.specs.declared.answer.Answer.{Answer}
use Rattle.cell_places.specs.declared.kind.CellKind.{CellKind}
use Rattle.cell_places.specs.declared.kind.FaultName.{FaultName}
use Rattle.js_tree.specs.declared.expr.Expr.{Expr}
use Rattle.js_tree.specs.declared.expr.Entry.{Entry}
use Rattle.js_tree.specs.declared.operator.StepOp.{StepOp}
use Rattle.js_tree.specs.declared.stmt.Stmt.{Stmt}
use Rattle.js_tree.specs.declared.stmt.Decl.{Decl}
use Rattle.js_tree.specs.declared.stmt.Case.{Case}
use Rattle.js_tree.specs.declared.stmt.Handler.{Handler}
use Rattle.js_rules.specs.declared.flow.Flow.{Flow}
use Rattle.js_rules.specs.declared.built_in.BuiltIn.{BuiltIn}
use Rattle.page_units.specs.declared.event.PageEvent.{PageEvent}
use Rattle.page_units.specs.declared.event.Response.{Response}
use Rattle.cell_places.specs.declared.answer.Listener.{Listener}
use Rattle.cell_places.specs.declared.answer.Timer.{Timer}
use Rattle.js_rules.specs.Arguments.{Conversion, Wanted}
use Rattle.js_rules.specs.NodeKeys.{NodeKey}
use Rattle.js_rules.specs.JsonTrees.{Json, JsonList, JsonEntries}
use Rattle.js_rules.specs.Fixed.{Frame, Coded}

-- What a built-in function gives: a value, or a text that it makes.
pub data Outcome : Type 0 where
  plain : Value → Outcome
  made : List ℕ → Outcome

-- The node that was found, if any, and how many elements were asked for their id.
pub record FoundNode : Type 0 where
  pub node : Option CellName
  pub visited : ℕ

-- The kinds of results.
pub data Kind : Type 0 where
  Values Nothing Flows Truths Numbers Texts Keys Lists Pairs Maybes : Kind
  Bindings References Selections : Kind
  Counts Integers Outcomes MaybeTexts FoundNodes Both Path Timers Objects Scopes : Kind
  Answers CellKinds CellNames : Kind

abbrev pub Of : Kind → Type 0
Of Values = Value
Of Nothing = Unit {0}
Of Flows = Flow
Of Truths = Bool
Of Numbers = ℤ
Of Texts = List ℕ
Of Keys = List (List ℕ)
Of Lists = List Value
Of Pairs = Value × Value
Of Maybes = Option Value
-- the scope that binds a name, and the value there
Of Bindings = Option (CellName × Value)
-- an object or another value, and the key of a property of it
Of References = Value × List ℕ
-- the parts of a `switch` from the one that fits on
Of Selections = Option (List Case)
Of Counts = ℕ
Of Integers = List ℤ
Of Outcomes = Outcome
Of MaybeTexts = Option (List ℕ)
Of FoundNodes = FoundNode
Of Both = Bool × Bool
Of Path = List CellName
Of Timers = Option Timer
-- a cell that is an object, and one that is a scope
Of Objects = CellName
Of Scopes = CellName
-- what single acts give: an answer, the kind of a cell, a cell that was made
Of Answers = Answer
Of CellKinds = CellKind
Of CellNames = CellName

-- which primitive value is wanted of an object (8.12.8)
pub data Hint : Type 0 where
  to_number to_text : Hint

-- What a rule evaluates, by the parts of the standards that speak of it. A number of a code is one of all
-- programs, and a number of a declared function (`functions`) is one within the program whose first code is
-- `first`.
pub data Task : Kind → Type 0 where
  -- expressions (11)
  Eval : (f : Frame) (expr : Expr) → Task Values
  Arguments : (f : Frame) (exprs : List Expr) → Task Lists
  Reference : (f : Frame) (expr : Expr) → Task References
  Callee : (f : Frame) (expr : Expr) → Task Pairs
  FillArray : (f : Frame) (list : CellName) (index : ℕ) (exprs : List Expr) → Task Nothing
  FillTable : (f : Frame) (object : CellName) (entries : List Entry) → Task Nothing
  TypeOfName : (f : Frame) (name : List ℕ) → Task Values
  DeleteReference : (f : Frame) (expr : Expr) → Task Values
  -- names (10.2)
  Find : (scope : CellName) (name : List ℕ) → Task Bindings
  SetBinding : (name : List ℕ) (binding : Option (CellName × Value)) (value : Value) → Task Values
  -- properties (8.7, 8.12, 15.4.5)
  GetValue : (base : Value) (key : List ℕ) → Task Values
  PutValue : (base : Value) (key : List ℕ) (value : Value) → Task Nothing
  DeleteValue : (base : Value) (key : List ℕ) → Task Values
  HasProperty : (object : CellName) (key : List ℕ) → Task Truths
  GetProperty : (object : CellName) (key : List ℕ) → Task Maybes
  OwnProperty : (object : CellName) (key : List ℕ) → Task Maybes
  PutProperty : (object : CellName) (key : List ℕ) (value : Value) → Task Nothing
  SetLength : (list : CellName) (number : ℤ) → Task Nothing
  DropIndices : (list : CellName) (indices : List (List ℕ)) → Task Nothing
  DeleteProperty : (object : CellName) (key : List ℕ) → Task Values
  OwnKeys : (object : CellName) → Task Keys
  ChainKeys : (object : CellName) → Task Keys
  InChain : (object : CellName) (wanted : Value) → Task Truths
  -- new objects
  NewObject : (kind : CellKind) (prototype : Value) → Task Objects
  NewScope : (outer : CellName) (weight : ℕ) → Task Scopes
  NewFault : (name : FaultName) (message : List ℕ) → Task Values
  Closure : (code : ℕ) (scope : CellName) → Task Values
  -- conversions (9) and operators (11.4 to 11.11)
  ToPrimitive : (hint : Hint) (value : Value) → Task Values
  DefaultValue : (object : CellName) (methods : List (List ℕ)) → Task Values
  TryMethod : (method : Value) (object : CellName) → Task Maybes
  ToNumber : (value : Value) → Task Values
  NumberOf : (primitive : Value) → Task Values
  ToText : (value : Value) → Task Texts
  TextOf : (primitive : Value) → Task Texts
  IsSame : (left right : Value) → Task Values
  Operate : (op : BinOp) (left right : Value) → Task Values
  Stepped : (op : StepOp) (value : Value) → Task Pairs
  -- calls (13.2)
  Call : (callee this : Value) (arguments : List Value) → Task Values
  Apply : (callee this : Value) (arguments : List Value) → Task Values
  Construct : (callee : Value) (arguments : List Value) → Task Values
  RunCode : (code : Option Coded) (scope : CellName) (this : Value) (arguments : List Value) →
      Task Values
  BindParameters : (scope : CellName) (names : List (List ℕ)) (arguments : List Value) →
      Task Nothing
  BindFunctions : (scope : CellName) (first : ℕ) (functions : List ℕ) → Task Nothing
  BindVars : (scope : CellName) (names : List (List ℕ)) → Task Nothing
  -- statements (12)
  Exec : (f : Frame) (stmt : Stmt) → Task Flows
  Each : (f : Frame) (stmts : List Stmt) → Task Flows
  Declare : (f : Frame) (decls : List Decl) → Task Nothing
  DoLoop : (f : Frame) (body : Stmt) (test : Expr) → Task Flows
  WhileLoop : (f : Frame) (test : Expr) (body : Stmt) → Task Flows
  ForLoop : (f : Frame) (test update : Option Expr) (body : Stmt) → Task Flows
  Visit : (f : Frame) (object : CellName) (name : List ℕ) (keys : List (List ℕ)) (body : Stmt) →
      Task Flows
  Select : (f : Frame) (value : Value) (cases : List Case) → Task Selections
  RunCases : (f : Frame) (cases : List Case) → Task Flows
  Guard : (f : Frame) (block : List Stmt) (handler : Option Handler) → Task Flows
  -- scripts (10.5, 14)
  Script : (number : ℕ) → Task Values
  DeclareFunctions : (first : ℕ) (functions : List ℕ) → Task Nothing
  DeclareVars : (names : List (List ℕ)) → Task Nothing
  -- built-in functions (15)
  Native : (which : ℕ) (this : Value) (arguments : List Value) → Task Values
  This : (wanted : Wanted) (this : Value) → Task Values
  Convert : (conversions : List Conversion) (arguments : List Value) → Task Lists
  TickTexts : (arguments : List Value) → Task Nothing
  Perform : (function : BuiltIn) (this : Value) (arguments : List Value) → Task Outcomes
  Plain : (function : BuiltIn) (this : Value) (arguments : List Value) → Task Outcomes
  NeedFunction : (value : Value) → Task Nothing
  ToInteger : (otherwise : ℤ) (primitive : Value) → Task Numbers
  AllIntegers : (arguments : List Value) → Task Integers
  AllNumbers : (arguments : List Value) → Task Integers
  -- built-in functions of lists (15.4)
  ListLength : (list : CellName) → Task Counts
  ListItems : (list : CellName) (indices : List ℕ) → Task Lists
  ItemTexts : (list : CellName) (indices : List ℕ) → Task Keys
  LookFor : (list : CellName) (value : Value) (indices : List ℕ) → Task Values
  PutItems : (list : CellName) (index : ℕ) (values : List Value) → Task Nothing
  PutPieces : (list : CellName) (index : ℕ) (texts : List (List ℕ)) → Task Nothing
  PlaceItem : (list : CellName) (index : ℕ) (value : Option Value) → Task Nothing
  MoveItems : (list : CellName) (moves : List (ℕ × ℕ)) → Task Nothing
  ReverseItems : (list : CellName) (pairs : List (ℕ × ℕ)) → Task Nothing
  CopyItems : (list : CellName) (indices : List ℕ) (to : CellName) (index : ℕ) → Task Nothing
  EndLength : (list : CellName) (number : ℕ) → Task Nothing
  ConcatAll : (to : CellName) (index : ℕ) (values : List Value) → Task Counts
  ForEach : (callback this : Value) (list : CellName) (indices : List ℕ) → Task Nothing
  MapItems : (callback this : Value) (list : CellName) (indices : List ℕ) (to : CellName) →
      Task Nothing
  FilterItems : (callback this : Value) (list : CellName) (indices : List ℕ) (to : CellName) (index : ℕ) → Task Nothing
  SomeItem : (callback this : Value) (list : CellName) (indices : List ℕ) → Task Truths
  EveryItem : (callback this : Value) (list : CellName) (indices : List ℕ) → Task Truths
  Reduce : (callback : Value) (list : CellName) (indices : List ℕ) (so_far : Option Value) →
      Task Maybes
  -- JSON (15.12)
  BuildJson : (tree : Json) → Task Values
  BuildItems : (list : CellName) (index : ℕ) (items : JsonList) → Task Nothing
  BuildEntries : (object : CellName) (entries : JsonEntries) → Task Nothing
  WriteJson : (value : Value) (inside : List CellName) → Task MaybeTexts
  WriteItems : (list : CellName) (indices : List ℕ) (inside : List CellName) → Task Keys
  WriteEntries : (object : CellName) (keys : List (List ℕ)) (inside : List CellName) → Task Keys
  -- nodes
  NeedNode : (value : Value) → Task Nothing
  IsAncestor : (node below : CellName) → Task Truths
  AnyElement : (nodes : List CellName) → Task Truths
  FirstElement : (nodes : List CellName) → Task Values
  InsertNode : (parent child : CellName) (other : Option CellName) → Task Nothing
  RemoveNode : (parent child : CellName) → Task Nothing
  NewText : (text : List ℕ) → Task Objects
  SetText : (node : CellName) (text : List ℕ) → Task Nothing
  TextBelow : (nodes : List CellName) → Task Texts
  TextContent : (node : CellName) → Task Values
  SetAttribute : (node : CellName) (name text : List ℕ) → Task Nothing
  DropAttribute : (node : CellName) (name : List ℕ) → Task Nothing
  FindElement : (id : List ℕ) → Task FoundNodes
  ElementById : (id : List ℕ) (visited : ℕ) (nodes : List CellName) → Task FoundNodes
  NodeProperty : (node : CellName) (key : NodeKey) → Task Values
  PutNodeProperty : (node : CellName) (key : NodeKey) (value : Value) → Task Nothing
  -- listeners and events
  Third : (value : Value) → Task Both
  Listen : (node : CellName) (type : List ℕ) (callback : CellName) (options : Bool × Bool) →
      Task Nothing
  Unlisten : (node : CellName) (type : List ℕ) (callback : CellName) (capture : Bool) → Task Nothing
  PathOf : (node : CellName) → Task Path
  WalkPath : (event target : CellName) (type : List ℕ) (stops : List (CellName × Bool)) →
      Task Nothing
  RunListeners : (event node : CellName) (type : List ℕ) (capture : Bool) (listeners : List Listener) → Task Nothing
  Dispatch : (event : PageEvent) → Task Truths
  -- timers and guesses
  SmallNumber : (value : Value) → Task Numbers
  AddTimer : (callback : CellName) (ms : ℤ) → Task Numbers
  DropTimer : (id : ℤ) → Task Nothing
  NextDue : (until : ℤ) → Task Timers
  IsCallable : (value : Value) → Task Truths
  -- what the host begins, and its reports
  ReportEnd : (is_listener : Bool) (end : Result Value Value) → Task Nothing
  RunScript : (number : ℕ) → Task Nothing
  Fire : (callback : CellName) → Task Nothing
  Answered : (callback : CellName) (got : Option Response) → Task Nothing
  -- how values are shown
  Show : (value : Value) → Task Texts
  ShowAll : (values : List Value) → Task Texts
