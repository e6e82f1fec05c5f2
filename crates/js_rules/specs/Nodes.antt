-- Lists of nodes, attributes, and elements by their ids (WHATWG DOM, 4.2, 4.5 and 4.9; the order of the acts is this
-- project's own).
use Rattle.std.specs.Prelude.{ℕ, ◌+◌, nat_eq, Bool, not, List, [], ◌∷◌, ◌++◌, filter, Option, Some, None, codes, if◌then◌else◌}
use Rattle.std.specs.List.{list_any}
use Rattle.page_units.specs.declared.value.CellName.{CellName}
use Rattle.page_units.specs.declared.value.Value.{Value}
use Rattle.page_units.specs.declared.value.Value.TheVariants as v
use Rattle.cell_places.specs.declared.place.Slot.TheVariants as s
use Rattle.cell_places.specs.declared.answer.Answer.{Answer}
use Rattle.cell_places.specs.declared.answer.Answer.TheVariants as a
use Rattle.cell_places.specs.declared.kind.CellKind.{CellKind}
use Rattle.cell_places.specs.declared.kind.CellKind.TheVariants as k
use Rattle.cell_places.specs.Heap.{place, cells_in, names_in}
use Rattle.js_rules.specs.Indices.{without}
use Rattle.js_rules.specs.Tasks.{Nothing, FoundNodes, FoundNode, ElementById}
use Rattle.js_rules.specs.Prog.{Prog, Ret, ◌>>=◌, ◌>>◌, ask, look, put, charge, part, done, weight}
use Rattle.cell_places.specs.Heap.{is_text}

-- ---- lists of nodes

abbrev pub is_cell : CellName → CellName → Bool
is_cell c d = nat_eq c.0 d.0

abbrev pub among : CellName → List CellName → Bool
among c cs = list_any (λ d. is_cell c d) cs

-- the list without a node
abbrev pub but : CellName → List CellName → List CellName
but c cs = filter (λ d. not (is_cell c d)) cs

abbrev pub cell_or_null : Option CellName → Value
cell_or_null None = v.Null
cell_or_null (Some c) = v.Cell c

abbrev pub first_of : List CellName → Option CellName
first_of [] = None
first_of (c ∷ cs) = Some c

abbrev pub last_of : List CellName → Option CellName
last_of [] = None
last_of (c ∷ []) = Some c
last_of (c ∷ d ∷ cs) = last_of (d ∷ cs)

-- the sibling after a node, and the one before it
abbrev pub sibling_after : CellName → List CellName → Option CellName
sibling_after c [] = None
sibling_after c (d ∷ cs) = if is_cell c d then first_of cs else sibling_after c cs

abbrev pub sibling_before : CellName → List CellName → Option CellName
sibling_before c [] = None
sibling_before c (d ∷ []) = None
sibling_before c (d ∷ e ∷ cs) = if is_cell c e then Some d else sibling_before c (e ∷ cs)

-- ---- attributes

abbrev pub set_over : CellName → List ℕ → List ℕ → Answer → Prog Nothing
set_over c name t (a.One x) = put (place c (s.Attr name)) (a.One (v.Str t))
set_over c name t _ = do
  names ← ask (place c s.AttrNames)
  charge (weight name)
  put (place c (s.Attr name)) (a.One (v.Str t))
  put (place c s.AttrNames) (a.Names (names_in names ++ name ∷ []))

-- an attribute is set; a new one comes last
abbrev pub set_attribute : CellName → List ℕ → List ℕ → Prog Nothing
set_attribute c name t = do
  old ← ask (place c (s.Attr name))
  set_over c name t old

abbrev pub drop_there : CellName → List ℕ → Answer → Prog Nothing
drop_there c name (a.One x) = do
  names ← ask (place c s.AttrNames)
  put (place c (s.Attr name)) a.Absent
  put (place c s.AttrNames) (a.Names (without name (names_in names)))
drop_there c name _ = done

-- an attribute is removed, if it is there
abbrev pub drop_attribute : CellName → List ℕ → Prog Nothing
drop_attribute c name = do
  old ← ask (place c (s.Attr name))
  drop_there c name old

-- ---- elements by id

abbrev pub found : CellName → ℕ → FoundNode
found c n = record { node = Some c; visited = n }

-- An element of this id, or else what lies below it and what comes after it, in tree order; n elements were
-- asked before.
abbrev pub search_in : List ℕ → ℕ → CellName → List CellName → CellKind → Prog FoundNodes
search_in id n c more (k.Element name) = do
  x ← ask (place c (s.Attr (codes "id")))
  if is_text id x then Ret (found c (n + 1)) else (do
    cs ← ask (place c s.Children)
    part (ElementById id (n + 1) (cells_in cs ++ more)))
search_in id n c more kind = part (ElementById id n more)

abbrev pub search : List ℕ → ℕ → List CellName → Prog FoundNodes
search id n [] = Ret (record { node = None; visited = n })
search id n (c ∷ more) = do
  kind ← look c
  search_in id n c more kind
