-- The rules of the language, one for each task (ECMA-262 5.1, WHATWG DOM, and this project's own, as the files
-- of these rules say). A rule knows only what its acts carry. It compares the names of cells for equality
-- alone, with each other and with cells of the start.
use Rattle.js_tree.specs.declared.expr.Expr.{out-Expr}
use Rattle.js_tree.specs.declared.stmt.Stmt.{out-Stmt}
use Rattle.js_rules.specs.Fixed.{Fixed}
use Rattle.js_rules.specs.Tasks as t
use Rattle.js_rules.specs.Tasks.{Kind, Task}
use Rattle.js_rules.specs.Prog.{Prog}
use Rattle.js_rules.specs.Names.{find, set_binding}
use Rattle.js_rules.specs.Objects.{new_object, new_fault, closure}
use Rattle.js_rules.specs.Properties.{get_value, put_value, delete_value, has_property, get_property, own_property, put_property, set_length, drop_indices, delete_property, own_keys, chain_keys, in_chain}
use Rattle.js_rules.specs.Operators.{to_primitive, default_value, try_method, number_of_any, number_of_primitive, same, text_of_any, text_of_primitive, operate, stepped}
use Rattle.js_rules.specs.Calls.{call, apply, construct, run_code, bind_parameters, bind_functions, bind_vars}
use Rattle.js_rules.specs.Expressions.{node, expression, arguments, reference, callee, fill_array, fill_table, type_of_name, delete_reference}
use Rattle.js_rules.specs.Statements.{statement, each, declare_all, do_loop, while_loop, for_loop, visit, select, run_cases, guard}
use Rattle.js_rules.specs.Scripts.{script, declare_functions, declare_vars}
use Rattle.js_rules.specs.Natives.{native, this_value, convert, tick_texts}
use Rattle.js_rules.specs.NativeTable.{perform, plain_one}
use Rattle.js_rules.specs.Integers.{to_integer, all_integers, all_numbers}
use Rattle.js_rules.specs.Shows.{show, show_all}
use Rattle.js_rules.specs.ListItems.{concat_all, copy_items, end_length, item_texts, list_items, list_length, look_for, move_items, need_function, place_item, put_items, put_pieces, reverse_items}
use Rattle.js_rules.specs.ListCallbacks.{every_item, filter_items, for_each, map_items, reduce, some_item}
use Rattle.js_rules.specs.Json.{build, build_entries, build_items, write_entries, write_items, write_json}
use Rattle.js_rules.specs.NodeFunctions.{find_element, need_node}
use Rattle.js_rules.specs.NodeTree.{has_element, insert, is_ancestor, new_text, remove, set_text, text_below, text_content}
use Rattle.js_rules.specs.NodeProperties.{first_element_in, node_property, put_node_property}
use Rattle.js_rules.specs.Nodes.{drop_attribute, search, set_attribute}
use Rattle.js_rules.specs.Listeners.{listen, third, unlisten}
use Rattle.js_rules.specs.Dispatch.{dispatch, path_of, run_listeners, walk_path}
use Rattle.js_rules.specs.HostTasks.{report_end}
use Rattle.js_rules.specs.Timers.{add_timer, drop_timer, next_due, small_number}
use Rattle.js_rules.specs.Guesses.{is_callable}
use Rattle.js_rules.specs.HostTasks.{answered, fire, reported_script}
use Rattle.js_rules.specs.Objects.{new_scope}

abbrev pub rule : Fixed → {K : Kind} → Task K → Prog K
-- expressions
rule fixed (t.Eval f x) = node (expression fixed f x (out-Expr x))
rule fixed (t.Arguments f exprs) = arguments f exprs
rule fixed (t.Reference f x) = reference f (out-Expr x)
rule fixed (t.Callee f x) = callee f x (out-Expr x)
rule fixed (t.FillArray f list index exprs) = fill_array f list index exprs
rule fixed (t.FillTable f object entries) = fill_table f object entries
rule fixed (t.TypeOfName f name) = node (type_of_name f name)
rule fixed (t.DeleteReference f x) = node (delete_reference f x)
-- names
rule fixed (t.Find scope name) = find scope name
rule fixed (t.SetBinding name binding value) = set_binding fixed name binding value
-- properties
rule fixed (t.GetValue base key) = get_value base key
rule fixed (t.PutValue base key value) = put_value base key value
rule fixed (t.DeleteValue base key) = delete_value base key
rule fixed (t.HasProperty object key) = has_property object key
rule fixed (t.GetProperty object key) = get_property object key
rule fixed (t.OwnProperty object key) = own_property object key
rule fixed (t.PutProperty object key value) = put_property object key value
rule fixed (t.SetLength list number) = set_length list number
rule fixed (t.DropIndices list indices) = drop_indices list indices
rule fixed (t.DeleteProperty object key) = delete_property object key
rule fixed (t.OwnKeys object) = own_keys object
rule fixed (t.ChainKeys object) = chain_keys object
rule fixed (t.InChain object wanted) = in_chain object wanted
-- new objects
rule fixed (t.NewObject kind prototype) = new_object kind prototype
rule fixed (t.NewScope outer weight) = new_scope outer weight
rule fixed (t.NewFault name message) = new_fault name message
rule fixed (t.Closure code scope) = closure code scope
-- conversions and operators
rule fixed (t.ToPrimitive hint value) = to_primitive hint value
rule fixed (t.DefaultValue object methods) = default_value object methods
rule fixed (t.TryMethod method object) = try_method method object
rule fixed (t.ToNumber value) = number_of_any value
rule fixed (t.NumberOf primitive) = number_of_primitive primitive
rule fixed (t.ToText value) = text_of_any value
rule fixed (t.TextOf primitive) = text_of_primitive primitive
rule fixed (t.IsSame left right) = same left right
rule fixed (t.Operate op left right) = operate op left right
rule fixed (t.Stepped op value) = stepped op value
-- calls
rule fixed (t.Call callee this args) = call callee this args
rule fixed (t.Apply callee this args) = apply fixed callee this args
rule fixed (t.Construct callee args) = construct callee args
rule fixed (t.RunCode code scope this args) = run_code fixed code scope this args
rule fixed (t.BindParameters scope names args) = bind_parameters scope names args
rule fixed (t.BindFunctions scope first functions) = bind_functions fixed scope first functions
rule fixed (t.BindVars scope names) = bind_vars scope names
-- statements
rule fixed (t.Exec f x) = node (statement f (out-Stmt x))
rule fixed (t.Each f stmts) = each f stmts
rule fixed (t.Declare f decls) = declare_all f decls
rule fixed (t.DoLoop f body test) = do_loop f body test
rule fixed (t.WhileLoop f test body) = while_loop f test body
rule fixed (t.ForLoop f test update body) = for_loop f test update body
rule fixed (t.Visit f object name keys body) = visit f object name keys body
rule fixed (t.Select f value cases) = select f value cases
rule fixed (t.RunCases f cases) = run_cases f cases
rule fixed (t.Guard f block handler) = guard f block handler
-- scripts
rule fixed (t.Script number) = script fixed number
rule fixed (t.DeclareFunctions first functions) = declare_functions fixed first functions
rule fixed (t.DeclareVars names) = declare_vars names
-- built-in functions
rule fixed (t.Native which this args) = native which this args
rule fixed (t.This wanted this) = this_value wanted this
rule fixed (t.Convert conversions args) = convert conversions args
rule fixed (t.TickTexts args) = tick_texts args
rule fixed (t.Perform function this args) = perform function this args
rule fixed (t.Plain function this args) = plain_one fixed function this args
rule fixed (t.NeedFunction value) = need_function value
rule fixed (t.ToInteger otherwise primitive) = to_integer otherwise primitive
rule fixed (t.AllIntegers args) = all_integers args
rule fixed (t.AllNumbers args) = all_numbers args
-- built-in functions of lists
rule fixed (t.ListLength list) = list_length list
rule fixed (t.ListItems list indices) = list_items list indices
rule fixed (t.ItemTexts list indices) = item_texts list indices
rule fixed (t.LookFor list value indices) = look_for list value indices
rule fixed (t.PutItems list index values) = put_items list index values
rule fixed (t.PutPieces list index texts) = put_pieces list index texts
rule fixed (t.PlaceItem list index value) = place_item list index value
rule fixed (t.MoveItems list moves) = move_items list moves
rule fixed (t.ReverseItems list pairs) = reverse_items list pairs
rule fixed (t.CopyItems list indices to index) = copy_items list indices to index
rule fixed (t.EndLength list number) = end_length list number
rule fixed (t.ConcatAll to index values) = concat_all to index values
rule fixed (t.ForEach callback this list indices) = for_each callback this list indices
rule fixed (t.MapItems callback this list indices to) = map_items callback this list indices to
rule fixed (t.FilterItems callback this list indices to index) =
    filter_items callback this list indices to index
rule fixed (t.SomeItem callback this list indices) = some_item callback this list indices
rule fixed (t.EveryItem callback this list indices) = every_item callback this list indices
rule fixed (t.Reduce callback list indices so_far) = reduce callback list indices so_far
-- JSON
rule fixed (t.BuildJson tree) = build tree
rule fixed (t.BuildItems list index items) = build_items list index items
rule fixed (t.BuildEntries object entries) = build_entries object entries
rule fixed (t.WriteJson value inside) = write_json value inside
rule fixed (t.WriteItems list indices inside) = write_items list indices inside
rule fixed (t.WriteEntries object keys inside) = write_entries object keys inside
-- nodes
rule fixed (t.NeedNode value) = need_node value
rule fixed (t.IsAncestor node below) = is_ancestor node below
rule fixed (t.AnyElement nodes) = has_element nodes
rule fixed (t.FirstElement nodes) = first_element_in nodes
rule fixed (t.InsertNode parent child other) = insert parent child other
rule fixed (t.RemoveNode parent child) = remove parent child
rule fixed (t.NewText text) = new_text text
rule fixed (t.SetText node text) = set_text node text
rule fixed (t.TextBelow nodes) = text_below nodes
rule fixed (t.TextContent node) = text_content node
rule fixed (t.SetAttribute node name text) = set_attribute node name text
rule fixed (t.DropAttribute node name) = drop_attribute node name
rule fixed (t.FindElement id) = find_element id
rule fixed (t.ElementById id visited nodes) = search id visited nodes
rule fixed (t.NodeProperty node key) = node_property node key
rule fixed (t.PutNodeProperty node key value) = put_node_property node key value
-- listeners and events
rule fixed (t.Third value) = third value
rule fixed (t.Listen node type callback options) = listen node type callback options
rule fixed (t.Unlisten node type callback capture) = unlisten node type callback capture
rule fixed (t.PathOf node) = path_of node
rule fixed (t.WalkPath event target type stops) = walk_path event target type stops
rule fixed (t.RunListeners event node type capture listeners) =
    run_listeners event node type capture listeners
rule fixed (t.Dispatch event) = dispatch fixed event
-- timers and guesses
rule fixed (t.SmallNumber value) = small_number value
rule fixed (t.AddTimer callback ms) = add_timer callback ms
rule fixed (t.DropTimer id) = drop_timer id
rule fixed (t.NextDue until) = next_due until
rule fixed (t.IsCallable value) = is_callable value
-- what the host begins
rule fixed (t.ReportEnd is_listener end) = report_end is_listener end
rule fixed (t.RunScript number) = reported_script fixed number
rule fixed (t.Fire callback) = fire fixed callback
rule fixed (t.Answered callback got) = answered fixed callback got
-- shows
rule fixed (t.Show value) = show value
rule fixed (t.ShowAll values) = show_all values
