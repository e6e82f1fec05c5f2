-- The built-in functions by their numbers, whose order is this project's own, and which of them work with `new`
-- (ECMA-262 5.1, 15).
use Rattle.std.specs.Prelude.{ℕ, List, [], ◌∷◌, Option, slice_get, Bool, true, false}
use Rattle.js_rules.specs.declared.built_in.BuiltIn.{BuiltIn}
use Rattle.js_rules.specs.declared.built_in.BuiltIn.TheVariants as n

-- all of them, in the order of their numbers
abbrev pub built_ins : List BuiltIn
built_ins =
    n.Object ∷ n.ObjectKeys ∷ n.ObjectCreate ∷ n.ObjectGetPrototypeOf ∷ n.HasOwnProperty ∷
    n.IsPrototypeOf ∷ n.ObjectToString ∷ n.ObjectValueOf ∷ n.FunctionCall ∷ n.FunctionApply ∷
    n.Array ∷ n.ArrayIsArray ∷ n.Push ∷ n.Pop ∷ n.Shift ∷ n.Unshift ∷ n.Slice ∷ n.Splice ∷
    n.Concat ∷ n.Join ∷ n.Reverse ∷ n.IndexOf ∷ n.LastIndexOf ∷ n.ForEach ∷ n.Map ∷ n.Filter ∷
    n.Some ∷ n.Every ∷ n.Reduce ∷ n.ArrayToString ∷ n.String ∷ n.FromCharCode ∷ n.CharAt ∷
    n.CharCodeAt ∷ n.TextIndexOf ∷ n.TextLastIndexOf ∷ n.TextSlice ∷ n.Substring ∷ n.Split ∷
    n.Trim ∷ n.ToLowerCase ∷ n.ToUpperCase ∷ n.Replace ∷ n.TextConcat ∷ n.TextToString ∷
    n.TextValueOf ∷ n.Number ∷ n.NumberToString ∷ n.NumberValueOf ∷ n.Boolean ∷
    n.BooleanToString ∷ n.BooleanValueOf ∷ n.Abs ∷ n.Floor ∷ n.Max ∷ n.Min ∷ n.Pow ∷
    n.ParseInt ∷ n.Error ∷ n.TypeError ∷ n.RangeError ∷ n.ReferenceError ∷ n.SyntaxError ∷
    n.ErrorToString ∷ n.JsonParse ∷ n.JsonStringify ∷ n.ConsoleLog ∷ n.NetGet ∷ n.NetPost ∷
    n.CromGuess ∷ n.CromForget ∷ n.CromClock ∷ n.SetTimeout ∷ n.ClearTimeout ∷
    n.GetElementById ∷ n.CreateElement ∷ n.CreateTextNode ∷ n.AppendChild ∷ n.InsertBefore ∷
    n.RemoveChild ∷ n.GetAttribute ∷ n.SetAttribute ∷ n.RemoveAttribute ∷ n.HasAttribute ∷
    n.AddEventListener ∷ n.RemoveEventListener ∷ n.PreventDefault ∷ n.StopPropagation ∷
    n.StopImmediatePropagation ∷ []

-- the one of a number
abbrev pub built_in : ℕ → Option BuiltIn
built_in which = slice_get built_ins which

-- the built-in functions that work with `new`
abbrev pub makes_objects : BuiltIn → Bool
makes_objects n.Object = true
makes_objects n.Array = true
makes_objects n.Error = true
makes_objects n.TypeError = true
makes_objects n.RangeError = true
makes_objects n.ReferenceError = true
makes_objects n.SyntaxError = true
makes_objects _ = false
