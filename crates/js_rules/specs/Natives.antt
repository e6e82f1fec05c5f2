-- A call of a built-in function (ECMA-262 5.1, 15): what comes before what it does, and what is made of its
-- result. The order and the steps are this project's own.
use Rattle.std.specs.Prelude.{ℕ, Bool, List, [], ◌∷◌, Option, Some, None, if◌then◌else◌}
use Rattle.page_units.specs.declared.value.Value.{Value}
use Rattle.page_units.specs.declared.value.Value.TheVariants as v
use Rattle.cell_places.specs.declared.kind.CellKind.{CellKind}
use Rattle.cell_places.specs.Kinds.{is_document, is_element, is_event, is_node, is_parent}
use Rattle.js_rules.specs.declared.built_in.BuiltIn.{BuiltIn}
use Rattle.js_rules.specs.BuiltIns.{built_in}
use Rattle.js_rules.specs.Arguments.{Conversion, as_it_is, as_text, as_number, conversions, Wanted, any_this, text_this, document_this, node_this, element_this, target_this, event_this, wanted}
use Rattle.js_rules.specs.Tasks.{Values, Nothing, Lists as ListsK, Outcome, plain, made, to_number, This, Convert, Perform, TickTexts, ToPrimitive, ToText}
use Rattle.js_rules.specs.Prog.{Prog, Ret, ◌>>=◌, ◌>>◌, look, tick, part, done, not_a_function, bad_argument, too_long, steps}
use Rattle.js_rules.specs.Stages.{is_built}
use Rattle.js_rules.specs.Prog.{not_built, bad_node, make_text, is_too_long}

-- an object of this kind, which the function is called on
abbrev pub need_kind : (CellKind → Bool) → Value → Prog Values
need_kind is_wanted (v.Cell c) = do
  kind ← look c
  if is_wanted kind then Ret (v.Cell c) else bad_node
need_kind is_wanted _ = bad_node

abbrev pub this_text : Value → Prog Values
this_text v.Undefined = bad_argument
this_text v.Null = bad_argument
this_text x = do
  t ← part (ToText x)
  Ret (v.Str t)

abbrev pub this_value : Wanted → Value → Prog Values
this_value any_this x = Ret x
this_value text_this x = this_text x
this_value document_this x = need_kind is_document x
this_value node_this x = need_kind is_node x
this_value element_this x = need_kind is_element x
this_value target_this x = need_kind is_parent x
this_value event_this x = need_kind is_event x

-- arguments are made what they have to be, in their order; a missing one counts as undefined
abbrev pub convert_one : List Conversion → List Value → Conversion → Value → Prog ListsK
convert_one cs args as_it_is x = do
  xs ← part (Convert cs args)
  Ret (x ∷ xs)
convert_one cs args as_text x = do
  t ← part (ToText x)
  xs ← part (Convert cs args)
  Ret (v.Str t ∷ xs)
convert_one cs args as_number x = do
  y ← part (ToPrimitive to_number x)
  xs ← part (Convert cs args)
  Ret (y ∷ xs)

abbrev pub convert : List Conversion → List Value → Prog ListsK
convert [] args = Ret args
convert (c ∷ cs) [] = convert_one cs [] c v.Undefined
convert (c ∷ cs) (x ∷ args) = convert_one cs args c x

-- each argument that is a text takes its steps
abbrev pub tick_texts : List Value → Prog Nothing
tick_texts [] = done
tick_texts (v.Str t ∷ more) = do
  tick (steps t)
  part (TickTexts more)
tick_texts (x ∷ more) = part (TickTexts more)

-- a text that is made has its steps and its weight, and one that is handed on has its steps; neither may be too long
abbrev pub result : Outcome → Prog Values
result (plain (v.Str t)) = if is_too_long t then too_long else (do
  tick (steps t)
  Ret (v.Str t))
result (plain x) = Ret x
result (made t) = make_text t

-- what it is called on comes first, then the conversions of the arguments, then the steps of their texts
abbrev pub run : BuiltIn → Value → List Value → Prog Values
run f this args = do
  x ← part (This (wanted f) this)
  xs ← part (Convert (conversions f args) args)
  part (TickTexts xs)
  y ← part (Perform f x xs)
  result y

-- a function that isn't built yet throws before all this
abbrev pub run_built_in : Option BuiltIn → Value → List Value → Prog Values
run_built_in None this args = not_a_function
run_built_in (Some f) this args = if is_built f then run f this args else not_built

-- a call of a built-in function by its number
abbrev pub native : ℕ → Value → List Value → Prog Values
native which this args = run_built_in (built_in which) this args
