-- The table of the built-in functions (ECMA-262 5.1, 15, WHATWG DOM, and this project's own).
use Rattle.std.specs.Prelude.{List, [], ◌++◌, map}
use Rattle.page_units.specs.declared.value.Value.{Value}
use Rattle.page_units.specs.declared.value.Value.TheVariants as v
use Rattle.cell_places.specs.declared.kind.FaultName.TheVariants as fault
use Rattle.cell_places.specs.Outward.{line}
use Rattle.js_ops.specs.Conversions.{truth}
use Rattle.js_ops.specs.TextNumbers.{trimmed}
use Rattle.js_rules.specs.declared.built_in.BuiltIn.{BuiltIn}
use Rattle.js_rules.specs.declared.built_in.BuiltIn.TheVariants as n
use Rattle.js_rules.specs.Arguments.{arg, text_in}
use Rattle.js_rules.specs.Fixed.{Fixed}
use Rattle.js_rules.specs.Json.{parse, stringify}
use Rattle.js_rules.specs.ListItems.{answers, undefined}
use Rattle.js_rules.specs.Tasks.{Outcomes, made, Plain, ShowAll}
use Rattle.js_rules.specs.Prog.{Prog, Ret, ◌>>=◌, ◌>>◌, charge, write, part, not_a_function, weight}
use Rattle.js_rules.specs.ObjectFunctions.{object_of, object_keys, object_create, object_prototype_of, has_own, is_prototype_of, object_to_string, object_value_of, apply_function, call_function, fault_with, error_to_string}
use Rattle.js_rules.specs.StringFunctions.{on_text, string_of, from_char_code, char_at, char_code_at, text_index_of, text_last_index_of, text_slice, substring, split, all_texts, own_text}
use Rattle.js_rules.specs.NumberFunctions.{number_from, own_number, number_to_string, own_truth, boolean_to_string, absolute, floor_of, greatest, least, power, parse_int}
use Rattle.js_rules.specs.Texts.{lower_unit, replaced, upper_unit}
use Rattle.js_rules.specs.ListFunctions.{array, concat, every_of, filter_of, for_each_of, list_index_of, is_array, join, list_last_index_of, map_of, pop, push, reduce_of, reverse_list, shift, slice, some_of, splice, unshift}
use Rattle.js_rules.specs.NodeFunctions.{append_child, create_element, create_text_node, get_attribute, get_element_by_id, has_attribute, insert_before, remove_attribute, remove_child, set_attribute_of}
use Rattle.js_rules.specs.Listeners.{add_event_listener, prevent_default, remove_event_listener, stop_immediate_propagation, stop_propagation}
use Rattle.js_rules.specs.Requests.{net_get, net_post}
use Rattle.js_rules.specs.Guesses.{clock, forget, guess}
use Rattle.js_rules.specs.Timers.{clear_timeout, set_timeout}

-- console.log: shows without cut, joined by one space (this project's own)
abbrev pub log : List Value → Prog Outcomes
log args = do
  t ← part (ShowAll args)
  charge (weight t)
  write (line t)
  undefined

-- what the functions do that call no function of the page
abbrev pub plain_one : Fixed → BuiltIn → Value → List Value → Prog Outcomes
plain_one fixed n.Object this args = object_of (arg 0 args)
plain_one fixed n.ObjectKeys this args = object_keys (arg 0 args)
plain_one fixed n.ObjectCreate this args = object_create (arg 0 args)
plain_one fixed n.ObjectGetPrototypeOf this args = object_prototype_of (arg 0 args)
plain_one fixed n.HasOwnProperty this args = has_own this (text_in (arg 0 args))
plain_one fixed n.IsPrototypeOf this args = is_prototype_of this (arg 0 args)
plain_one fixed n.ObjectToString this args = object_to_string this
plain_one fixed n.ObjectValueOf this args = object_value_of this
plain_one fixed n.Array this args = array args
plain_one fixed n.ArrayIsArray this args = is_array (arg 0 args)
plain_one fixed n.Push this args = push this args
plain_one fixed n.Pop this args = pop this
plain_one fixed n.Shift this args = shift this
plain_one fixed n.Unshift this args = unshift this args
plain_one fixed n.Slice this args = slice this args
plain_one fixed n.Splice this args = splice this args
plain_one fixed n.Concat this args = concat this args
plain_one fixed n.Reverse this args = reverse_list this
plain_one fixed n.IndexOf this args = list_index_of this args
plain_one fixed n.LastIndexOf this args = list_last_index_of this args
plain_one fixed n.String this args = string_of args
plain_one fixed n.FromCharCode this args = from_char_code args
plain_one fixed n.CharAt this args = on_text this (char_at args)
plain_one fixed n.CharCodeAt this args = on_text this (char_code_at args)
plain_one fixed n.TextIndexOf this args = on_text this (text_index_of args)
plain_one fixed n.TextLastIndexOf this args = on_text this (text_last_index_of args)
plain_one fixed n.TextSlice this args = on_text this (text_slice args)
plain_one fixed n.Substring this args = on_text this (substring args)
plain_one fixed n.Split this args = on_text this (split args)
plain_one fixed n.Trim this args = on_text this λ t. Ret (made (trimmed t))
plain_one fixed n.ToLowerCase this args = on_text this λ t. Ret (made (map lower_unit t))
plain_one fixed n.ToUpperCase this args = on_text this λ t. Ret (made (map upper_unit t))
plain_one fixed n.Replace this args = on_text this λ t.
    Ret (made (replaced (text_in (arg 0 args)) (text_in (arg 1 args)) t))
plain_one fixed n.TextConcat this args = on_text this λ t. Ret (made (t ++ all_texts args))
plain_one fixed n.TextToString this args = own_text this
plain_one fixed n.TextValueOf this args = own_text this
plain_one fixed n.Number this args = number_from args
plain_one fixed n.NumberToString this args = number_to_string this
plain_one fixed n.NumberValueOf this args = own_number this
plain_one fixed n.Boolean this args = answers (v.Bool (truth (arg 0 args)))
plain_one fixed n.BooleanToString this args = boolean_to_string this
plain_one fixed n.BooleanValueOf this args = own_truth this
plain_one fixed n.Abs this args = absolute args
plain_one fixed n.Floor this args = floor_of args
plain_one fixed n.Max this args = greatest args
plain_one fixed n.Min this args = least args
plain_one fixed n.Pow this args = power args
plain_one fixed n.ParseInt this args = parse_int args
plain_one fixed n.Error this args = fault_with fault.Error args
plain_one fixed n.TypeError this args = fault_with fault.TypeError args
plain_one fixed n.RangeError this args = fault_with fault.RangeError args
plain_one fixed n.ReferenceError this args = fault_with fault.ReferenceError args
plain_one fixed n.SyntaxError this args = fault_with fault.SyntaxError args
plain_one fixed n.JsonParse this args = parse (arg 0 args)
plain_one fixed n.JsonStringify this args = stringify (arg 0 args)
plain_one fixed n.ConsoleLog this args = log args
plain_one fixed n.NetGet this args = net_get fixed args
plain_one fixed n.NetPost this args = net_post fixed args
plain_one fixed n.CromGuess this args =
    guess fixed (arg 0 args) (arg 1 args) (arg 2 args) (arg 3 args) (arg 4 args)
plain_one fixed n.CromForget this args = forget args
plain_one fixed n.CromClock this args = clock
plain_one fixed n.SetTimeout this args = set_timeout args
plain_one fixed n.ClearTimeout this args = clear_timeout args
plain_one fixed n.GetElementById this args = get_element_by_id (arg 0 args)
plain_one fixed n.CreateElement this args = create_element (arg 0 args)
plain_one fixed n.CreateTextNode this args = create_text_node (arg 0 args)
plain_one fixed n.AppendChild this args = append_child this (arg 0 args)
plain_one fixed n.InsertBefore this args = insert_before this (arg 0 args) (arg 1 args)
plain_one fixed n.RemoveChild this args = remove_child this (arg 0 args)
plain_one fixed n.GetAttribute this args = get_attribute this (arg 0 args)
plain_one fixed n.SetAttribute this args = set_attribute_of this (arg 0 args) (arg 1 args)
plain_one fixed n.RemoveAttribute this args = remove_attribute this (arg 0 args)
plain_one fixed n.HasAttribute this args = has_attribute this (arg 0 args)
plain_one fixed n.AddEventListener this args = add_event_listener this args
plain_one fixed n.RemoveEventListener this args = remove_event_listener this args
plain_one fixed n.PreventDefault this args = prevent_default this
plain_one fixed n.StopPropagation this args = stop_propagation this
plain_one fixed n.StopImmediatePropagation this args = stop_immediate_propagation this
plain_one fixed _ this args = not_a_function

-- what the functions do that may call one; all others are plain
abbrev pub perform : BuiltIn → Value → List Value → Prog Outcomes
perform n.FunctionCall this args = call_function this args
perform n.FunctionApply this args = apply_function this args
perform n.Join this args = join this args
perform n.ForEach this args = for_each_of this args
perform n.Map this args = map_of this args
perform n.Filter this args = filter_of this args
perform n.Some this args = some_of this args
perform n.Every this args = every_of this args
perform n.Reduce this args = reduce_of this args
perform n.ArrayToString this args = join this []
perform n.ErrorToString this args = error_to_string this
perform f this args = part (Plain f this args)
