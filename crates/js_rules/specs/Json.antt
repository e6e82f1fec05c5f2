-- JSON: values made of trees, and the texts of values (ECMA-262 5.1, 15.12, without revivers and replacers; the
-- limit of 128 levels and the order of the acts are this project's own).
use Prim.Native.Char.{code}
use Rattle.std.specs.Prelude.{ℕ, ◌+◌, ◌-◌, ◌/◌, ◌%◌, ◌==◌, nat_lt, nat_le, List, [], ◌∷◌, ◌++◌, length, Option, Some, None, codes, if◌then◌else◌}
use Rattle.page_units.specs.declared.value.CellName.{CellName}
use Rattle.page_units.specs.declared.value.Value.{Value}
use Rattle.page_units.specs.declared.value.Value.TheVariants as v
use Rattle.cell_places.specs.declared.kind.CellKind.{CellKind}
use Rattle.cell_places.specs.declared.kind.CellKind.TheVariants as k
use Rattle.cell_places.specs.declared.kind.FaultName.TheVariants as fault
use Rattle.cell_places.specs.Kinds.{is_list, is_function}
use Rattle.js_ops.specs.Conversions.{text as text_of}
use Rattle.js_rules.specs.Arguments.{text_in}
use Rattle.cell_places.specs.Known.{list_prototype, object_prototype}
use Rattle.js_rules.specs.Indices.{key_of}
use Rattle.js_rules.specs.ListItems.{answers, indices, joined_texts}
use Rattle.js_rules.specs.Nodes.{among}
use Rattle.js_rules.specs.JsonTrees.{Json, JsonList, JsonEntries, scalar, string, list, object, no_items, one_item, no_entries, one_entry, read_json}
use Rattle.js_rules.specs.Tasks.{Values, Nothing, Keys, MaybeTexts, Outcomes, Outcome, plain, made, BuildJson, BuildItems, BuildEntries, WriteJson, WriteItems, WriteEntries, NewObject, GetProperty, PutProperty, OwnKeys, ListLength}
use Rattle.js_rules.specs.Prog.{Prog, Ret, ◌>>=◌, ◌>>◌, look, charge, tick, part, done, raise, type_error, too_long, weight}
use Rattle.std.specs.Prelude.{unwrap_or}

-- ---- from a tree to a value: a step each, in the order of the text (15.12.2)

abbrev pub build : Json → Prog Values
build (scalar x) = tick 1 >> Ret x
build (string t) = do
  tick 1
  charge (weight t)
  Ret (v.Str t)
build (list items) = do
  tick 1
  c ← part (NewObject k.List (v.Cell list_prototype))
  part (BuildItems c 0 items)
  Ret (v.Cell c)
build (object entries) = do
  tick 1
  c ← part (NewObject k.Plain (v.Cell object_prototype))
  part (BuildEntries c entries)
  Ret (v.Cell c)

abbrev pub build_items : CellName → ℕ → JsonList → Prog Nothing
build_items c i no_items = done
build_items c i (one_item x more) = do
  y ← part (BuildJson x)
  part (PutProperty c (key_of i) y)
  part (BuildItems c (i + 1) more)

abbrev pub build_entries : CellName → JsonEntries → Prog Nothing
build_entries c no_entries = done
build_entries c (one_entry key x more) = do
  y ← part (BuildJson x)
  part (PutProperty c key y)
  part (BuildEntries c more)

-- the whole text is read before anything is made
abbrev pub parse_read : Option Json → Prog Outcomes
parse_read None = raise fault.SyntaxError (codes "JSON")
parse_read (Some j) = do
  x ← part (BuildJson j)
  answers x

-- ---- from a value to its text (15.12.3)

abbrev pub hex_digit : ℕ → ℕ
hex_digit n = if nat_lt n 10 then code "0" + n else code "a" + (n - 10)

-- Quote (15.12.3)
abbrev pub quoted_unit : ℕ → List ℕ
quoted_unit c =
    if c == code "\"" then codes "\\\""
    else if c == code "\\" then codes "\\\\"
    else if c == code "\u{8}" then codes "\\b"
    else if c == code "\u{c}" then codes "\\f"
    else if c == code "\n" then codes "\\n"
    else if c == code "\r" then codes "\\r"
    else if c == code "\t" then codes "\\t"
    else if nat_lt c 32 then codes "\\u00" ++ hex_digit (c / 16) ∷ hex_digit (c % 16) ∷ []
    else c ∷ []

abbrev pub quoted_units : List ℕ → List ℕ
quoted_units [] = []
quoted_units (c ∷ cs) = quoted_unit c ++ quoted_units cs

abbrev pub quoted : List ℕ → List ℕ
quoted t = codes "\"" ++ (quoted_units t ++ codes "\"")

abbrev pub comma : List ℕ
comma = codes ","

abbrev pub write_list : CellName → List CellName → Prog MaybeTexts
write_list c inside = do
  n ← part (ListLength c)
  ts ← part (WriteItems c (indices 0 n) inside)
  Ret (Some (codes "[" ++ joined_texts comma ts ++ codes "]"))

abbrev pub write_object : CellName → List CellName → Prog MaybeTexts
write_object c inside = do
  keys ← part (OwnKeys c)
  ts ← part (WriteEntries c keys inside)
  Ret (Some (codes "{" ++ joined_texts comma ts ++ codes "}"))

-- no cell stands inside itself
abbrev pub write_cell : CellName → CellKind → List CellName → Prog MaybeTexts
write_cell c kind inside =
    if is_function kind then Ret None
    else if among c inside then type_error (codes "cyclic JSON")
    else if nat_le 128 (length inside) then too_long
    else if is_list kind then write_list c (c ∷ inside)
    else write_object c (c ∷ inside)

-- The text of a value inside these cells, from the innermost outwards; None for undefined and functions.
abbrev pub write_json : Value → List CellName → Prog MaybeTexts
write_json v.Undefined inside = tick 1 >> Ret None
write_json (v.Str t) inside = tick 1 >> Ret (Some (quoted t))
write_json (v.Cell c) inside = do
  tick 1
  kind ← look c
  write_cell c kind inside
write_json x inside = tick 1 >> Ret (Some (text_of x))

abbrev pub null_if_none : Option (List ℕ) → List ℕ
null_if_none None = codes "null"
null_if_none (Some t) = t

abbrev pub write_items : CellName → List ℕ → List CellName → Prog Keys
write_items c [] inside = Ret []
write_items c (i ∷ more) inside = do
  x ← part (GetProperty c (key_of i))
  t ← part (WriteJson (unwrap_or x v.Undefined) inside)
  ts ← part (WriteItems c more inside)
  Ret (null_if_none t ∷ ts)

abbrev pub entry : List ℕ → Option (List ℕ) → List (List ℕ) → List (List ℕ)
entry key None ts = ts
entry key (Some t) ts = (quoted key ++ codes ":" ++ t) ∷ ts

abbrev pub write_entries : CellName → List (List ℕ) → List CellName → Prog Keys
write_entries c [] inside = Ret []
write_entries c (key ∷ more) inside = do
  x ← part (GetProperty c key)
  t ← part (WriteJson (unwrap_or x v.Undefined) inside)
  ts ← part (WriteEntries c more inside)
  Ret (entry key t ts)

abbrev pub written : Option (List ℕ) → Outcome
written None = plain v.Undefined
written (Some t) = made t

-- JSON.stringify (15.12.3)
abbrev pub stringify : Value → Prog Outcomes
stringify x = do
  t ← part (WriteJson x [])
  Ret (written t)

-- JSON.parse (15.12.2)
abbrev pub parse : Value → Prog Outcomes
parse x = parse_read (read_json (text_in x))
