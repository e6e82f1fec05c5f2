-- Classes of kinds.
use Rattle.std.specs.Prelude.{Bool, true, false, ◌||◌}
use Rattle.cell_places.specs.declared.kind.CellKind.{CellKind}
use Rattle.cell_places.specs.declared.kind.CellKind.TheVariants.{Scope, List as ListKind, Fun, Native, Page, Document, Element, Chars, Event}

abbrev pub is_scope : CellKind → Bool
is_scope (Scope outer) = true
is_scope _ = false

abbrev pub is_page : CellKind → Bool
is_page Page = true
is_page _ = false

abbrev pub is_list : CellKind → Bool
is_list ListKind = true
is_list _ = false

abbrev pub is_event : CellKind → Bool
is_event Event = true
is_event _ = false

abbrev pub is_document : CellKind → Bool
is_document Document = true
is_document _ = false

abbrev pub is_element : CellKind → Bool
is_element (Element name) = true
is_element _ = false

-- a text node
abbrev pub is_chars : CellKind → Bool
is_chars Chars = true
is_chars _ = false

-- what can be called
abbrev pub is_function : CellKind → Bool
is_function (Fun code scope) = true
is_function (Native which) = true
is_function _ = false

-- what a value can be, and what has ordinary properties: all but scopes and the page
abbrev pub is_object : CellKind → Bool
is_object (Scope outer) = false
is_object Page = false
is_object _ = true

-- what can stand among children
abbrev pub is_child : CellKind → Bool
is_child k = is_element k || is_chars k

-- what can have children
abbrev pub is_parent : CellKind → Bool
is_parent k = is_element k || is_document k

abbrev pub is_node : CellKind → Bool
is_node k = is_parent k || is_chars k
