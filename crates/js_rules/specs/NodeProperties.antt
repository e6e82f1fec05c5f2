-- The built-in properties of nodes, read and written (WHATWG DOM, 4.4, 4.9 and 4.10; that `value` is an
-- attribute is this project's own).
use Rattle.std.specs.Prelude.{ℕ, ℤ, pos, List, [], ◌∷◌, Option, Some, None, if◌then◌else◌}
use Rattle.page_units.specs.declared.value.CellName.{CellName}
use Rattle.page_units.specs.declared.value.Value.{Value}
use Rattle.page_units.specs.declared.value.Value.TheVariants as v
use Rattle.cell_places.specs.declared.place.Slot.TheVariants as s
use Rattle.cell_places.specs.declared.kind.CellKind.{CellKind}
use Rattle.cell_places.specs.declared.kind.CellKind.TheVariants as k
use Rattle.cell_places.specs.Kinds.{is_element}
use Rattle.cell_places.specs.Heap.{place, cells_in}
use Rattle.js_rules.specs.NodeKeys.{NodeKey, parent_node, first_child, last_child, next_sibling, previous_sibling, node_type, text_content_key, tag_name, document_element, data_key, attribute}
use Rattle.js_rules.specs.Tasks.{Values, Nothing, SetAttribute, SetText, TextContent, FirstElement, ToText}
use Rattle.js_rules.specs.Prog.{Prog, Ret, ◌>>=◌, ask, look, part, read_only, number}
use Rattle.js_rules.specs.Nodes.{cell_or_null, first_of, last_of, sibling_after, sibling_before}
use Rattle.js_rules.specs.Prog.{hand_on}
use Rattle.cell_places.specs.Heap.{text_in}
use Rattle.cell_places.specs.Heap.{cell_in}

-- the first or the last child; a text node has none
abbrev pub child_value : (List CellName → Option CellName) → CellName → CellKind → Prog Values
child_value pick c k.Chars = Ret v.Null
child_value pick c kind = do
  cs ← ask (place c s.Children)
  Ret (cell_or_null (pick (cells_in cs)))

abbrev pub sibling_of : (List CellName → Option CellName) → Option CellName → Prog Values
sibling_of pick None = Ret v.Null
sibling_of pick (Some p) = do
  cs ← ask (place p s.Children)
  Ret (cell_or_null (pick (cells_in cs)))

abbrev pub sibling : (List CellName → Option CellName) → CellName → Prog Values
sibling pick c = do
  p ← ask (place c s.Parent)
  sibling_of pick (cell_in p)

abbrev pub type_number : CellKind → ℤ
type_number k.Document = pos 9
type_number k.Chars = pos 3
type_number _ = pos 1

abbrev pub tag_of : CellKind → List ℕ
tag_of (k.Element name) = name
tag_of _ = []

abbrev pub first_element_in : List CellName → Prog Values
first_element_in [] = Ret v.Null
first_element_in (c ∷ cs) = do
  kind ← look c
  if is_element kind then Ret (v.Cell c) else part (FirstElement cs)

abbrev pub node_property_in : CellName → CellKind → NodeKey → Prog Values
node_property_in c kind parent_node = do
  p ← ask (place c s.Parent)
  Ret (cell_or_null (cell_in p))
node_property_in c kind first_child = child_value first_of c kind
node_property_in c kind last_child = child_value last_of c kind
node_property_in c kind next_sibling = sibling (sibling_after c) c
node_property_in c kind previous_sibling = sibling (sibling_before c) c
node_property_in c kind node_type = Ret (number (type_number kind))
node_property_in c kind text_content_key = part (TextContent c)
node_property_in c kind tag_name = hand_on (tag_of kind)
node_property_in c kind document_element = do
  cs ← ask (place c s.Children)
  part (FirstElement (cells_in cs))
node_property_in c kind data_key = do
  t ← ask (place c s.Chars)
  hand_on (text_in t)
node_property_in c kind (attribute name) = do
  t ← ask (place c (s.Attr name))
  hand_on (text_in t)

-- a property is read
abbrev pub node_property : CellName → NodeKey → Prog Values
node_property c key = do
  kind ← look c
  node_property_in c kind key

-- a property is written; the value is made a text first
abbrev pub put_node_property : CellName → NodeKey → Value → Prog Nothing
put_node_property c text_content_key x = do
  t ← part (ToText x)
  part (SetText c t)
put_node_property c data_key x = do
  t ← part (ToText x)
  part (SetText c t)
put_node_property c (attribute name) x = do
  t ← part (ToText x)
  part (SetAttribute c name t)
put_node_property c _ x = read_only
