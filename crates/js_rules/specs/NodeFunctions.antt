-- The built-in functions of nodes (WHATWG DOM, 4.2 to 4.9; which names may be given, and what is thrown for
-- anything but a node, are this project's own).
use Prim.Native.Char.{code}
use Rattle.std.specs.Prelude.{ℕ, ◌==◌, nat_le, Bool, false, ◌&&◌, ◌||◌, List, [], ◌∷◌, map, Option, Some, None, if◌then◌else◌}
use Rattle.std.specs.List.{list_all}
use Rattle.page_units.specs.declared.value.CellName.{CellName}
use Rattle.page_units.specs.declared.value.Value.{Value}
use Rattle.page_units.specs.declared.value.Value.TheVariants as v
use Rattle.cell_places.specs.declared.place.Slot.TheVariants as s
use Rattle.cell_places.specs.declared.kind.CellKind.TheVariants as k
use Rattle.cell_places.specs.Kinds.{is_node}
use Rattle.cell_places.specs.Heap.{place, cells_in}
use Rattle.cell_places.specs.Known.{document_cell, node_prototype}
use Rattle.js_rules.specs.Texts.{lower_unit}
use Rattle.js_rules.specs.Arguments.{text_in as text_units}
use Rattle.js_rules.specs.ListItems.{answers, undefined}
use Rattle.js_rules.specs.Tasks.{Nothing, FoundNodes, Outcomes, InsertNode, RemoveNode, SetAttribute, DropAttribute, NewText, ElementById, FindElement, NeedNode, NewObject}
use Rattle.js_rules.specs.Prog.{Prog, Ret, ◌>>=◌, ◌>>◌, ask, look, tick, part, done, bad_argument}
use Rattle.js_rules.specs.Nodes.{cell_or_null}
use Rattle.js_rules.specs.Prog.{bad_node}
use Rattle.js_rules.specs.Prog.{is_put}
use Rattle.js_rules.specs.Prog.{or_null}

-- a name of an element or an attribute (this project's own)
abbrev pub is_letter : ℕ → Bool
is_letter c = (nat_le (code "A") c && nat_le c (code "Z")) || (nat_le (code "a") c && nat_le c (code "z"))

abbrev pub is_name_unit : ℕ → Bool
is_name_unit c = is_letter c || (nat_le (code "0") c && nat_le c (code "9")) || c == code "-"

abbrev pub is_node_name : List ℕ → Bool
is_node_name [] = false
is_node_name (c ∷ cs) = is_letter c && list_all is_name_unit cs

abbrev pub lowered : List ℕ → List ℕ
lowered t = map lower_unit t

-- what is done with a name, lowered
abbrev pub with_node_name : Value → (List ℕ → Prog Outcomes) → Prog Outcomes
with_node_name (v.Str t) m = if is_node_name t then m (lowered t) else bad_argument
with_node_name _ m = bad_argument

abbrev pub on_cell : Value → (CellName → Prog Outcomes) → Prog Outcomes
on_cell (v.Cell c) m = m c
on_cell _ m = bad_node

-- an argument that must be a node
abbrev pub need_node : Value → Prog Nothing
need_node (v.Cell c) = do
  kind ← look c
  if is_node kind then done else bad_node
need_node _ = bad_node

-- the first element of this id in tree order; the empty text finds none
abbrev pub find_element : List ℕ → Prog FoundNodes
find_element [] = Ret (record { node = None; visited = 0 })
find_element (d ∷ ds) = do
  cs ← ask (place document_cell s.Children)
  part (ElementById (d ∷ ds) 0 (cells_in cs))

-- getElementById (4.5): its steps come after the search, one for each element whose id was asked
abbrev pub get_element_by_id : Value → Prog Outcomes
get_element_by_id id = do
  r ← part (FindElement (text_units id))
  tick r.visited
  answers (cell_or_null r.node)

abbrev pub create_element : Value → Prog Outcomes
create_element name = with_node_name name λ t.
    part (NewObject (k.Element t) (v.Cell node_prototype)) >>= λ c. answers (v.Cell c)

abbrev pub create_text_node : Value → Prog Outcomes
create_text_node t = do
  c ← part (NewText (text_units t))
  answers (v.Cell c)

abbrev pub append_child : Value → Value → Prog Outcomes
append_child this child = on_cell this λ p. do
  part (NeedNode child)
  on_cell child λ c. do
    part (InsertNode p c None)
    answers child

abbrev pub insert_it : CellName → CellName → Option CellName → Prog Outcomes
insert_it p c b = do
  part (InsertNode p c b)
  answers (v.Cell c)

abbrev pub insert_at : CellName → CellName → Value → Prog Outcomes
insert_at p c v.Undefined = insert_it p c None
insert_at p c v.Null = insert_it p c None
insert_at p c other = do
  part (NeedNode other)
  on_cell other λ b. insert_it p c (Some b)

abbrev pub insert_before : Value → Value → Value → Prog Outcomes
insert_before this child other = on_cell this λ p. do
  part (NeedNode child)
  on_cell child λ c. insert_at p c other

abbrev pub remove_child : Value → Value → Prog Outcomes
remove_child this child = on_cell this λ p. do
  part (NeedNode child)
  on_cell child λ c. do
    part (RemoveNode p c)
    answers child

abbrev pub get_attribute : Value → Value → Prog Outcomes
get_attribute this name = on_cell this λ c. with_node_name name λ t. do
  x ← ask (place c (s.Attr t))
  answers (or_null x)

abbrev pub set_attribute_of : Value → Value → Value → Prog Outcomes
set_attribute_of this name x = on_cell this λ c. with_node_name name λ t. do
  part (SetAttribute c t (text_units x))
  undefined

abbrev pub remove_attribute : Value → Value → Prog Outcomes
remove_attribute this name = on_cell this λ c. with_node_name name λ t. do
  part (DropAttribute c t)
  undefined

abbrev pub has_attribute : Value → Value → Prog Outcomes
has_attribute this name = on_cell this λ c. with_node_name name λ t. do
  x ← ask (place c (s.Attr t))
  answers (v.Bool (is_put x))
