-- The tree of nodes: insertion, removal, and the text below a node (WHATWG DOM, 4.2.3 and 4.4; the order of the
-- tests and of the acts is this project's own).
use Rattle.std.specs.Prelude.{ℕ, Bool, true, false, List, [], ◌∷◌, ◌++◌, Option, Some, None, if◌then◌else◌}
use Rattle.page_units.specs.declared.value.CellName.{CellName}
use Rattle.page_units.specs.declared.value.Value.TheVariants as v
use Rattle.cell_places.specs.declared.place.Slot.TheVariants as s
use Rattle.cell_places.specs.declared.answer.Answer.{Answer}
use Rattle.cell_places.specs.declared.answer.Answer.TheVariants as a
use Rattle.cell_places.specs.declared.kind.CellKind.{CellKind}
use Rattle.cell_places.specs.declared.kind.CellKind.TheVariants as k
use Rattle.cell_places.specs.declared.kind.FaultName.TheVariants as fault
use Rattle.cell_places.specs.Kinds.{is_element}
use Rattle.cell_places.specs.Heap.{place, cells_in, text_in as chars_in}
use Rattle.cell_places.specs.Known.{node_prototype}
use Rattle.js_rules.specs.Tasks.{Kind, Values, Objects, Nothing, Truths, Texts, AnyElement, IsAncestor, NewText, TextBelow}
use Rattle.js_rules.specs.Prog.{Prog, Ret, ◌>>=◌, ◌>>◌, ask, look, put, make, charge, tick, part, raise, done}
use Rattle.js_rules.specs.Nodes.{is_cell, among, but, sibling_after}
use Rattle.js_rules.specs.Prog.{make_text}

-- ---- insertion and removal (4.2.3)

abbrev pub wrong_hierarchy : {K : Kind} → Prog K
wrong_hierarchy = raise fault.HierarchyRequestError []

abbrev pub not_found : {K : Kind} → Prog K
not_found = raise fault.NotFoundError []

abbrev pub ancestor_above : CellName → Answer → Prog Truths
ancestor_above child (a.One (v.Cell p)) = part (IsAncestor child p)
ancestor_above child _ = Ret false

-- whether a node is another one or an ancestor of it
abbrev pub is_ancestor : CellName → CellName → Prog Truths
is_ancestor child c = if is_cell child c then Ret true else (do
  p ← ask (place c s.Parent)
  ancestor_above child p)

abbrev pub has_element : List CellName → Prog Truths
has_element [] = Ret false
has_element (c ∷ cs) = do
  kind ← look c
  if is_element kind then Ret true else part (AnyElement cs)

-- a list with one node more, before another of it or at the end
abbrev pub put_before : Option CellName → CellName → List CellName → List CellName
put_before None child cs = cs ++ child ∷ []
put_before (Some b) child [] = child ∷ []
put_before (Some b) child (c ∷ cs) =
    if is_cell b c then (child ∷ c ∷ cs) else (c ∷ put_before (Some b) child cs)

-- where the child itself is named, its next sibling stands for it
abbrev pub other_than : CellName → Option CellName → List CellName → Option CellName
other_than child None cs = None
other_than child (Some b) cs = if is_cell b child then sibling_after child cs else Some b

abbrev pub put_child : CellName → CellName → Option CellName → List CellName → Prog Nothing
put_child p child b cs = do
  put (place p s.Children) (a.Cells (put_before b child cs))
  put (place child s.Parent) (a.One (v.Cell p))

-- a child without a parent; and one that has a parent, out of whose children it goes first
abbrev pub put_new : CellName → CellName → Option CellName → List CellName → Prog Nothing
put_new p child b cs = do
  charge 1
  put_child p child b cs

abbrev pub put_moved : CellName → CellName → Option CellName → List CellName → CellName →
    Prog Nothing
put_moved p child b cs old = do
  others ← ask (place old s.Children)
  charge 1
  put (place old s.Children) (a.Cells (but child (cells_in others)))
  put (place child s.Parent) (a.One v.Null)
  put_child p child b (if is_cell old p then but child cs else cs)

abbrev pub insert_from : CellName → CellName → Option CellName → List CellName → Answer →
    Prog Nothing
insert_from p child b cs (a.One (v.Cell old)) = put_moved p child (other_than child b cs) cs old
insert_from p child b cs _ = put_new p child (other_than child b cs) cs

abbrev pub insert_allowed : CellName → CellName → Option CellName → List CellName → Prog Nothing
insert_allowed p child b cs = do
  old ← ask (place child s.Parent)
  insert_from p child b cs old

-- the document has one element and no text; the document is no child
abbrev pub insert_third : CellName → CellName → Option CellName → List CellName → CellKind →
    CellKind → Prog Nothing
insert_third p child b cs k.Document kind = wrong_hierarchy
insert_third p child b cs k.Chars k.Document = wrong_hierarchy
insert_third p child b cs _ k.Document = do
  full ← part (AnyElement cs)
  if full then wrong_hierarchy else insert_allowed p child b cs
insert_third p child b cs _ _ = insert_allowed p child b cs

abbrev pub is_child_of : Option CellName → List CellName → Bool
is_child_of None cs = true
is_child_of (Some b) cs = among b cs

abbrev pub insert_second : CellName → CellName → Option CellName → CellKind → Prog Nothing
insert_second p child b kind = do
  cs ← ask (place p s.Children)
  if is_child_of b (cells_in cs)
      then (look child >>= λ c. insert_third p child b (cells_in cs) c kind)
      else not_found

abbrev pub insert_first : CellName → CellName → Option CellName → CellKind → Prog Nothing
insert_first p child b k.Chars = wrong_hierarchy
insert_first p child b kind = do
  above ← part (IsAncestor child p)
  if above then wrong_hierarchy else insert_second p child b kind

-- Pre-insert (4.2.3), with its three tests in this project's order
abbrev pub insert : CellName → CellName → Option CellName → Prog Nothing
insert p child b = do
  kind ← look p
  insert_first p child b kind

abbrev pub remove_from : CellName → CellName → List CellName → Prog Nothing
remove_from p child cs = if among child cs then (do
  put (place p s.Children) (a.Cells (but child cs))
  put (place child s.Parent) (a.One v.Null)) else not_found

abbrev pub remove_in : CellName → CellName → CellKind → Prog Nothing
remove_in p child k.Chars = not_found
remove_in p child _ = do
  cs ← ask (place p s.Children)
  remove_from p child (cells_in cs)

-- Pre-remove (4.2.3)
abbrev pub remove : CellName → CellName → Prog Nothing
remove p child = do
  kind ← look p
  remove_in p child kind

-- ---- texts

-- a text node (4.11)
abbrev pub new_text : List ℕ → Prog Objects
new_text t = do
  charge 1
  c ← make k.Chars
  put (place c s.Proto) (a.One (v.Cell node_prototype))
  put (place c s.Chars) (a.One (v.Str t))
  Ret c

-- The old children lose their parent one after another, and then the node has the new one, or none. It is one text
-- and no loop of tasks, since the links of children and parents fit together again only at its end.
abbrev pub replace_children : CellName → Option CellName → List CellName → Prog Nothing
replace_children c new (old ∷ more) = do
  put (place old s.Parent) (a.One v.Null)
  replace_children c new more
replace_children c None [] = put (place c s.Children) (a.Cells [])
replace_children c (Some t) [] = do
  put (place c s.Children) (a.Cells (t ∷ []))
  put (place t s.Parent) (a.One (v.Cell c))

-- Replace all (4.2.3): with one text, or with nothing for the empty text.
abbrev pub fill : CellName → List ℕ → List CellName → Prog Nothing
fill c [] cs = replace_children c None cs
fill c (d ∷ ds) cs = do
  t ← part (NewText (d ∷ ds))
  charge 1
  replace_children c (Some t) cs

abbrev pub set_text_of : CellName → List ℕ → CellKind → Prog Nothing
set_text_of c t k.Chars = put (place c s.Chars) (a.One (v.Str t))
set_text_of c t (k.Element name) = do
  cs ← ask (place c s.Children)
  fill c t (cells_in cs)
set_text_of c t _ = done

abbrev pub set_text : CellName → List ℕ → Prog Nothing
set_text c t = do
  kind ← look c
  set_text_of c t kind

abbrev pub text_of_node : CellName → List CellName → CellKind → Prog Texts
text_of_node c more k.Chars = do
  t ← ask (place c s.Chars)
  rest ← part (TextBelow more)
  Ret (chars_in t ++ rest)
text_of_node c more kind = do
  cs ← ask (place c s.Children)
  part (TextBelow (cells_in cs ++ more))

-- the texts of nodes and below them, in tree order
abbrev pub text_below : List CellName → Prog Texts
text_below [] = Ret []
text_below (c ∷ more) = do
  tick 1
  kind ← look c
  text_of_node c more kind

-- textContent (4.4)
abbrev pub text_content_of : CellName → CellKind → Prog Values
text_content_of c k.Document = Ret v.Null
text_content_of c kind = do
  t ← part (TextBelow (c ∷ []))
  make_text t

abbrev pub text_content : CellName → Prog Values
text_content c = do
  kind ← look c
  text_content_of c kind
