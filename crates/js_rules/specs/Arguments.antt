-- The arguments of the built-in functions, and what they are called on (ECMA-262 5.1, 15, WHATWG DOM): what
-- each is made before the function begins, which is this project's own.
use Rattle.std.specs.Prelude.{ℕ, ℤ, pos, List, [], ◌∷◌, length, map, take, slice_get, nat_lt, if◌then◌else◌}
use Rattle.page_units.specs.declared.value.Value.{Value}
use Rattle.page_units.specs.declared.value.Value.TheVariants as v
use Rattle.js_rules.specs.declared.built_in.BuiltIn.{BuiltIn}
use Rattle.js_rules.specs.declared.built_in.BuiltIn.TheVariants as n
use Rattle.std.specs.Prelude.{unwrap_or}

-- ---- arguments

-- the argument at a place; a missing one is undefined
abbrev pub arg : ℕ → List Value → Value
arg n args = unwrap_or (slice_get args n) v.Undefined

-- the units of an argument that was made a text, and the number of one that was made a number
abbrev pub text_in : Value → List ℕ
text_in (v.Str t) = t
text_in _ = []

abbrev pub number_in : Value → ℤ
number_in (v.Num z) = z
number_in _ = pos 0

-- What an argument is made before the function begins: it stays as it is, it is made a text, or it is made a
-- primitive value, of which the function takes the number.
pub data Conversion : Type 0 where
  as_it_is as_text as_number : Conversion

-- all arguments alike
abbrev pub all_as : Conversion → List Value → List Conversion
all_as c args = map (λ _. c) args

-- nothing where the argument is undefined
abbrev pub if_defined : Value → List Conversion → List Conversion
if_defined v.Undefined cs = []
if_defined _ cs = cs

-- the conversions of a function's arguments, in order; further arguments stay as they are
abbrev pub conversions : BuiltIn → List Value → List Conversion
conversions n.HasOwnProperty args = as_text ∷ []
conversions n.Slice args = as_number ∷ as_number ∷ []
conversions n.Splice args = take (length args) (as_number ∷ as_number ∷ [])
conversions n.Join args = if_defined (arg 0 args) (as_text ∷ [])
conversions n.IndexOf args = as_it_is ∷ as_number ∷ []
conversions n.LastIndexOf args =
    if nat_lt 1 (length args) then (as_it_is ∷ as_number ∷ []) else []
conversions n.String args = take (length args) (as_text ∷ [])
conversions n.FromCharCode args = all_as as_number args
conversions n.CharAt args = as_number ∷ []
conversions n.CharCodeAt args = as_number ∷ []
conversions n.TextIndexOf args = as_text ∷ as_number ∷ []
conversions n.TextLastIndexOf args = as_text ∷ as_number ∷ []
conversions n.TextSlice args = as_number ∷ as_number ∷ []
conversions n.Substring args = as_number ∷ as_number ∷ []
conversions n.Split args = if_defined (arg 0 args) (as_text ∷ [])
conversions n.Replace args = as_text ∷ as_text ∷ []
conversions n.TextConcat args = all_as as_text args
conversions n.Number args = take (length args) (as_number ∷ [])
conversions n.Abs args = as_number ∷ []
conversions n.Floor args = as_number ∷ []
conversions n.Max args = all_as as_number args
conversions n.Min args = all_as as_number args
conversions n.Pow args = as_number ∷ as_number ∷ []
conversions n.ParseInt args = as_text ∷ as_number ∷ []
conversions n.Error args = if_defined (arg 0 args) (as_text ∷ [])
conversions n.TypeError args = if_defined (arg 0 args) (as_text ∷ [])
conversions n.RangeError args = if_defined (arg 0 args) (as_text ∷ [])
conversions n.ReferenceError args = if_defined (arg 0 args) (as_text ∷ [])
conversions n.SyntaxError args = if_defined (arg 0 args) (as_text ∷ [])
conversions n.JsonParse args = as_text ∷ []
conversions n.NetGet args = as_text ∷ []
conversions n.NetPost args = as_text ∷ as_text ∷ []
conversions n.CromForget args = as_number ∷ []
conversions n.SetTimeout args = as_it_is ∷ as_number ∷ []
conversions n.ClearTimeout args = as_number ∷ []
conversions n.GetElementById args = as_text ∷ []
conversions n.CreateElement args = as_text ∷ []
conversions n.CreateTextNode args = as_text ∷ []
conversions n.GetAttribute args = as_text ∷ []
conversions n.SetAttribute args = as_text ∷ as_text ∷ []
conversions n.RemoveAttribute args = as_text ∷ []
conversions n.HasAttribute args = as_text ∷ []
conversions n.AddEventListener args = as_text ∷ []
conversions n.RemoveEventListener args = as_text ∷ []
conversions _ args = []

-- ---- what `this` has to be

-- What a function has to be called on.
pub data Wanted : Type 0 where
  -- anything
  any_this : Wanted
  -- anything but undefined and null, of which the text is made (15.5.4)
  text_this : Wanted
  -- the document; a node; an element; an element or the document; an event: any other value is a bad
  -- node, before anything else
  document_this node_this element_this target_this event_this : Wanted

abbrev pub wanted : BuiltIn → Wanted
wanted n.CharAt = text_this
wanted n.CharCodeAt = text_this
wanted n.TextIndexOf = text_this
wanted n.TextLastIndexOf = text_this
wanted n.TextSlice = text_this
wanted n.Substring = text_this
wanted n.Split = text_this
wanted n.Trim = text_this
wanted n.ToLowerCase = text_this
wanted n.ToUpperCase = text_this
wanted n.Replace = text_this
wanted n.TextConcat = text_this
wanted n.GetElementById = document_this
wanted n.CreateElement = document_this
wanted n.CreateTextNode = document_this
wanted n.AppendChild = node_this
wanted n.InsertBefore = node_this
wanted n.RemoveChild = node_this
wanted n.GetAttribute = element_this
wanted n.SetAttribute = element_this
wanted n.RemoveAttribute = element_this
wanted n.HasAttribute = element_this
wanted n.AddEventListener = target_this
wanted n.RemoveEventListener = target_this
wanted n.PreventDefault = event_this
wanted n.StopPropagation = event_this
wanted n.StopImmediatePropagation = event_this
wanted _ = any_this
