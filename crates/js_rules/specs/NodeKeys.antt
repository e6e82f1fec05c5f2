-- The built-in properties of nodes (WHATWG DOM, 4.4, 4.9 and 4.10; that they are never own ones is this
-- project's own).
use Rattle.std.specs.Prelude.{ℕ, Bool, List, Option, Some, None, codes, if◌then◌else◌}
use Rattle.std.specs.Str.{bytes_eq}
use Rattle.cell_places.specs.declared.kind.CellKind.{CellKind}
use Rattle.cell_places.specs.declared.kind.CellKind.TheVariants as k

-- a built-in property of a node
pub data NodeKey : Type 0 where
  parent_node first_child last_child next_sibling previous_sibling : NodeKey
  node_type text_content_key : NodeKey
  tag_name document_element data_key : NodeKey
  -- an attribute of this name
  attribute : List ℕ → NodeKey

abbrev pub is : List ℕ → List ℕ → Bool
is t u = bytes_eq t u

-- those of every node
abbrev pub common_key : List ℕ → Option NodeKey
common_key key =
    if is key (codes "parentNode") then Some parent_node
    else if is key (codes "firstChild") then Some first_child
    else if is key (codes "lastChild") then Some last_child
    else if is key (codes "nextSibling") then Some next_sibling
    else if is key (codes "previousSibling") then Some previous_sibling
    else if is key (codes "nodeType") then Some node_type
    else if is key (codes "textContent") then Some text_content_key
    else None

abbrev pub or_key : Option NodeKey → Option NodeKey → Option NodeKey
or_key None other = other
or_key (Some x) other = Some x

-- those of elements alone
abbrev pub element_key : List ℕ → Option NodeKey
element_key key =
    if is key (codes "tagName") then Some tag_name
    else if is key (codes "id") then Some (attribute (codes "id"))
    else if is key (codes "value") then Some (attribute (codes "value"))
    else if is key (codes "className") then Some (attribute (codes "class"))
    else None

-- the built-in property that a key names on a node of this kind, if it names one
abbrev pub node_key : CellKind → List ℕ → Option NodeKey
node_key (k.Element name) key = or_key (common_key key) (element_key key)
node_key k.Document key =
    or_key (common_key key)
    (if is key (codes "documentElement") then Some document_element else None)
node_key k.Chars key =
    or_key (common_key key) (if is key (codes "data") then Some data_key else None)
node_key _ key = None
