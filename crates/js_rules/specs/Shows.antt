-- How values are shown in lines and ends (this project's own).
use Rattle.std.specs.Prelude.{ℕ, List, [], ◌∷◌, ◌++◌, length, take, nat_eq, nat_le, codes, if◌then◌else◌}
use Rattle.page_units.specs.declared.value.CellName.{CellName}
use Rattle.page_units.specs.declared.value.Value.{Value}
use Rattle.page_units.specs.declared.value.Value.TheVariants as v
use Rattle.cell_places.specs.declared.answer.Answer.{Answer}
use Rattle.cell_places.specs.declared.answer.Answer.TheVariants as a
use Rattle.cell_places.specs.declared.kind.CellKind.{CellKind}
use Rattle.cell_places.specs.declared.kind.CellKind.TheVariants as k
use Rattle.cell_places.specs.declared.kind.FaultName.{FaultName}
use Rattle.cell_places.specs.declared.kind.FaultName.TheVariants as fault
use Rattle.js_ops.specs.Conversions.{text as text_of}
use Rattle.cell_places.specs.Known.{math_object, json_object}
use Rattle.js_rules.specs.Tasks.{Texts, Show, ShowAll}
use Rattle.js_rules.specs.Prog.{Prog, Ret, ◌>>=◌, ask, look, part, own}

abbrev pub fault_text : FaultName → List ℕ
fault_text fault.Error = codes "Error"
fault_text fault.TypeError = codes "TypeError"
fault_text fault.RangeError = codes "RangeError"
fault_text fault.ReferenceError = codes "ReferenceError"
fault_text fault.SyntaxError = codes "SyntaxError"
fault_text fault.HierarchyRequestError = codes "HierarchyRequestError"
fault_text fault.NotFoundError = codes "NotFoundError"

-- [[Class]] (8.6.2)
abbrev pub class_of_kind : CellKind → List ℕ
class_of_kind k.List = codes "Array"
class_of_kind (k.Fault name) = codes "Error"
class_of_kind (k.Fun code scope) = codes "Function"
class_of_kind (k.Native which) = codes "Function"
class_of_kind k.Document = codes "Node"
class_of_kind (k.Element name) = codes "Node"
class_of_kind k.Chars = codes "Node"
class_of_kind k.Event = codes "Event"
class_of_kind _ = codes "Object"

abbrev pub class_of : CellName → CellKind → List ℕ
class_of c kind =
    if nat_eq c.0 math_object.0 then codes "Math"
    else if nat_eq c.0 json_object.0 then codes "JSON"
    else class_of_kind kind

-- the text of an object of a class (15.2.4.2)
abbrev pub class_text : List ℕ → List ℕ
class_text name = codes "[object " ++ name ++ codes "]"

abbrev pub object_text : CellName → CellKind → List ℕ
object_text c kind = class_text (class_of c kind)

-- a fault by its name, with its message if that is a text and not empty
abbrev pub with_message : List ℕ → Answer → List ℕ
with_message name (a.One (v.Str [])) = name
with_message name (a.One (v.Str (c ∷ cs))) = name ++ codes ": " ++ (c ∷ cs)
with_message name _ = name

abbrev pub show_object : CellName → CellKind → Prog Texts
show_object c (k.Fault name) = do
  message ← ask (own c (codes "message"))
  Ret (with_message (fault_text name) message)
show_object c kind = Ret (object_text c kind)

-- any value
abbrev pub show : Value → Prog Texts
show (v.Cell c) = do
  kind ← look c
  show_object c kind
show x = Ret (text_of x)

-- shows, joined by one space
abbrev pub show_more : List ℕ → List Value → Prog Texts
show_more t [] = Ret t
show_more t (x ∷ more) = do
  rest ← part (ShowAll (x ∷ more))
  Ret (t ++ codes " " ++ rest)

abbrev pub show_all : List Value → Prog Texts
show_all [] = Ret []
show_all (x ∷ more) = do
  t ← part (Show x)
  show_more t more

-- what is shown in reports is cut to 1,000 units
abbrev pub cut : List ℕ → List ℕ
cut t = if nat_le (length t) 1000 then t else (take 1000 t ++ codes "...")
