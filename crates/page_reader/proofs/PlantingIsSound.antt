-- Trees are planted node by node, each put behind the children of its parent: the heap stays sound.
use Rattle.std.proofs.Common.{◌≡◌, ◌≢◌, ℕ, ◌+◌, ◌<◌, ◌≤◌, length, slice_get, Some, List, [], ◌∷◌, ◌++◌, Bool, true, refl, ap, sym, ◌∙◌, subst, arith, append_assoc}
use Rattle.std.proofs.lemmas.Bool.{lt-ltb}
use Rattle.std.proofs.lemmas.List.{append-nil}
use Rattle.std.proofs.lemmas.Option.{slice_get_within}
use Rattle.page_units.specs.declared.value.CellName.{CellName}
use Rattle.page_units.specs.declared.value.Value.TheVariants as v
use Rattle.cell_places.specs.declared.place.Place.{Place}
use Rattle.cell_places.specs.declared.place.Slot.{Slot}
use Rattle.cell_places.specs.declared.place.Slot.TheVariants as s
use Rattle.cell_places.specs.declared.answer.Answer.{Answer}
use Rattle.cell_places.specs.declared.answer.Answer.TheVariants as a
use Rattle.cell_places.specs.declared.kind.CellKind.{CellKind}
use Rattle.cell_places.specs.declared.kind.CellKind.TheVariants as kind
use Rattle.cell_places.specs.Lists.{Every, Distinct}
use Rattle.cell_places.specs.Places.{slot_rank}
use Rattle.cell_places.specs.Kinds.{is_child, is_object, is_node, is_parent}
use Rattle.cell_places.specs.Heap.{Heap, cell, place, or_plain, next, weight_left, cells_in, children_at}
use Rattle.cell_places.specs.Within.{NameIn, KindIn, is_below}
use Rattle.cell_places.specs.Acts.{Act, made, placed, moved, after}
use Rattle.cell_places.specs.Valid.{CanAskIn, CanPutIn}
use Rattle.cell_places.specs.Start.{document_cell, node_prototype}
use Rattle.cell_places.specs.Sound.{KindIsSound, IsSound}
use Rattle.cell_places.proofs.SamePlace.{put_at-same, put_at-other}
use Rattle.cell_places.proofs.Grown.{slice_get-last, length-grown, slice_get-grown, below_more, absent_past, count-start, kind-start}
use Rattle.cell_places.proofs.KeepsSound.{sound_made, IsSound-put_quiet}
use Rattle.cell_places.proofs.NextChild.{linked, other_slot, other_cell, CanLink, IsSound-linked}
use Rattle.cell_places.proofs.Spared.{put_at-twice, Spares, after-append, after-swap, after-spares, after-kind}
use Rattle.tree_shape.specs.Trees.{Trees, Attribute, HaveNamesOnce, none, text, element}
use Rattle.page_reader.specs.Planting.{node_count, root_names, node_acts, attribute_acts, children_acts, trees_acts, planted}
use Rattle.page_reader.proofs.AttributesPut.{names_of, attributes_spare, attributes_sound}
use Rattle.page_reader.proofs.TreesActs.{kind_new, with_node, with_element, with_text, with_inner, element_after, element_kinds, element_weight, children_length, trees_length, children_puts, trees_spare, trees_weight, children_weight}

-- the heap with these children of p, where there are any
abbrev pub listed : CellName → List CellName → Heap → Heap
listed p cs H = after H (children_acts p cs)

-- ---- lists of children are put before or after other acts

-- a list with a last name is put
last_listed : (p : CellName) (cs : List CellName) (n : CellName) (H : Heap) → listed p (cs ++ n ∷ []) H ≡ moved H (placed (place p s.Children) (a.Cells (cs ++ n ∷ [])))
last_listed p [] n H = refl
last_listed p (c ∷ cs) n H = refl

-- a list may be put before acts that spare its place, or after them
listed_swap : (p : CellName) (cs : List CellName) (H : Heap) (acts : List Act) → Spares (place p s.Children) acts → after (listed p cs H) acts ≡ listed p cs (after H acts)
listed_swap p [] H acts h = refl
listed_swap p (c ∷ cs) H acts h = after-swap H (place p s.Children) (a.Cells (c ∷ cs)) acts h

listed_twice : (p : CellName) (cs : List CellName) (n : CellName) (H : Heap) → listed p (cs ++ n ∷ []) (listed p cs H) ≡ listed p (cs ++ n ∷ []) H
listed_twice p [] n H = refl
listed_twice p (c ∷ cs) n H = ap (λ (f : Place → Answer). record H { at = f }) (put_at-twice H.at (place p s.Children) (a.Cells (c ∷ cs)) (a.Cells (c ∷ (cs ++ n ∷ []))))

-- ---- kinds of nodes

-- what can stand among children
pub record IsNodeKind (k : CellKind) : Type 0 where
  pub child : is_child k ≡ true
  pub object : is_object k ≡ true
  pub node : is_node k ≡ true
  pub names : (D : ℕ → Bool) → KindIn D k
  pub sound : (codes : ℕ) (kinds : List CellKind) → KindIsSound codes kinds k

-- elements and text nodes are such
pub node_kind : (k : CellKind) → is_child k ≡ true → IsNodeKind k
node_kind (kind.Scope outer) h = absurd (cc)
node_kind kind.Plain h = absurd (cc)
node_kind kind.List h = absurd (cc)
node_kind (kind.Fault name) h = absurd (cc)
node_kind (kind.Fun code scope) h = absurd (cc)
node_kind (kind.Native which) h = absurd (cc)
node_kind kind.Page h = absurd (cc)
node_kind kind.Document h = absurd (cc)
node_kind (kind.Element name) h = record { child = refl; object = refl; node = refl; names = λ D. tt; sound = λ codes kinds. tt }
node_kind kind.Chars h = record { child = refl; object = refl; node = refl; names = λ D. tt; sound = λ codes kinds. tt }
node_kind kind.Event h = absurd (cc)

parent_object : (k : CellKind) → is_parent k ≡ true → is_object k ≡ true
parent_object (kind.Scope outer) h = absurd (cc)
parent_object kind.Plain h = refl
parent_object kind.List h = refl
parent_object (kind.Fault name) h = refl
parent_object (kind.Fun code scope) h = refl
parent_object (kind.Native which) h = refl
parent_object kind.Page h = absurd (cc)
parent_object kind.Document h = refl
parent_object (kind.Element name) h = refl
parent_object kind.Chars h = refl
parent_object kind.Event h = refl

-- ---- a leaf is put behind the children of a parent

-- the heap with a new cell and its prototype
abbrev with_cell : Heap → CellKind → Heap
with_cell H k = moved (moved H (made (next H) k)) (placed (place (next H) s.Proto) (a.One (v.Cell node_prototype)))

-- the kinds with one more
abbrev pub grown : Heap → CellKind → List CellKind
grown H k = H.kinds ++ k ∷ []

-- the new cell can have the prototype of nodes
pub can_proto : (H : Heap) (k : CellKind) → IsNodeKind k → node_prototype.0 < length H.kinds → CanPutIn (grown H k) (place (next H) s.Proto) (a.One (v.Cell node_prototype))
can_proto H k is there =
    let l = length-grown H.kinds k in
    record {
      there = (k, slice_get-last H.kinds k, is.object);
      suits = refl;
      names = lt-ltb 14 (length (grown H k)) (omega arith);
      numbers = tt;
    }

-- and a parent that can have children
pub can_parent : (H : Heap) (k : CellKind) (p : CellName) → IsNodeKind k → CanAskIn H.kinds (place p s.Children) → CanPutIn (grown H k) (place (next H) s.Parent) (a.One (v.Cell p))
can_parent H k p is parent =
    let l = length-grown H.kinds k in
    let within = slice_get_within H.kinds p.0 parent.0 parent.1 in
    record {
      there = (k, slice_get-last H.kinds k, is.node);
      suits = refl;
      names = lt-ltb p.0 (length (grown H k)) (omega arith);
      numbers = tt;
    }

one_more_name : (n m : ℕ) (cs : List CellName) → n < m → Every (NameIn (is_below n)) cs → Every (NameIn (is_below m)) (cs ++ cell n ∷ [])
one_more_name n m [] lt h = (lt-ltb n m lt, tt)
one_more_name n m (c ∷ cs) lt h = (below_more n m (omega arith) c h.0, one_more_name n m cs lt h.1)

can_children : (H : Heap) (k : CellKind) (p : CellName) (cs : List CellName) → CanAskIn H.kinds (place p s.Children) → Every (NameIn (is_below (length H.kinds))) cs → CanPutIn (grown H k) (place p s.Children) (a.Cells (cs ++ next H ∷ []))
can_children H k p cs parent names =
    let l = length-grown H.kinds k in
    record {
      there = (parent.0, slice_get-grown H.kinds k p.0 parent.0 parent.1, parent.2);
      suits = refl;
      names = one_more_name (length H.kinds) (length (grown H k)) cs (omega arith) names;
      numbers = tt;
    }

kept_cell : (H : Heap) (k : CellKind) (n : CellName) (slot : Slot) → (2 ≡ slot_rank slot → ⊥) → (with_cell H k).at (place n slot) ≡ H.at (place n slot)
kept_cell H k n slot apart = put_at-other H.at (place (next H) s.Proto) (place n slot) (a.One (v.Cell node_prototype)) (other_slot (next H) n s.Proto slot apart)

can_link : (codes : ℕ) (H : Heap) (k : CellKind) (p : CellName) (cs : List CellName) → IsNodeKind k → IsSound codes H → children_at H p ≡ cs → CanAskIn H.kinds (place p s.Children) → CanLink (with_cell H k) (next H) p cs
can_link codes H k p cs is sound siblings parent =
    let within = slice_get_within H.kinds p.0 parent.0 parent.1 in
    record {
      apart = λ e. let same = ap (λ (n : CellName). n.0) e in absurd (omega arith);
      siblings = ap cells_in (kept_cell H k p s.Children (λ e. cc)) ∙ siblings;
      leaf = ap cells_in (kept_cell H k (next H) s.Children (λ e. cc) ∙ absent_past H sound.valid (place (next H) s.Children) (omega arith));
      orphan = λ x h. let none = kept_cell H k (next H) s.Parent (λ e. cc) ∙ absent_past H sound.valid (place (next H) s.Parent) (omega arith) in cc;
      child = ap (λ o. is_child (or_plain o)) (slice_get-last H.kinds k) ∙ is.child;
    }

cell_sound : (codes : ℕ) (H : Heap) (k : CellKind) → IsNodeKind k → IsSound codes H → length H.kinds + 1 + weight_left H ≤ 3999999999 → IsSound codes (with_cell H k)
cell_sound codes H k is sound room =
    IsSound-put_quiet codes (moved H (made (next H) k)) (place (next H) s.Proto) (a.One (v.Cell node_prototype))
    (sound_made codes H k sound room (is.names (is_below (length H.kinds))) (is.sound codes H.kinds)) refl refl (can_proto H k is (let many = count-start H.kinds sound.start in omega arith))
    (ap (λ o. is_object (or_plain o)) (slice_get-grown H.kinds k 14 kind.Plain (kind-start H.kinds sound.start 14 kind.Plain refl)))

leaf_sound : (codes : ℕ) (H : Heap) (k : CellKind) (p : CellName) (cs : List CellName) → IsNodeKind k → IsSound codes H → children_at H p ≡ cs → Every (NameIn (is_below (length H.kinds))) cs → CanAskIn H.kinds (place p s.Children)
    → length H.kinds + 1 + weight_left H ≤ 3999999999 → IsSound codes (linked (with_cell H k) (next H) p cs)
leaf_sound codes H k p cs is sound siblings names parent room =
    IsSound-linked codes (with_cell H k) (next H) p cs (cell_sound codes H k is sound room) (can_link codes H k p cs is sound siblings parent)
    (can_parent H k p is parent) (can_children H k p cs parent names)
    (ap (λ o. is_object (or_plain o)) (slice_get-grown H.kinds k p.0 parent.0 parent.1) ∙ parent_object parent.0 parent.2)

-- ---- siblings are put behind one another

-- With these children of p the heap is sound, it has n cells, and p can have children.
record Grows (codes : ℕ) (H : Heap) (p : CellName) (cs : List CellName) (n : ℕ) : Type 0 where
  sound : IsSound codes (listed p cs H)
  count : length H.kinds ≡ n
  siblings : children_at (listed p cs H) p ≡ cs
  names : Every (NameIn (is_below n)) cs
  parent : CanAskIn H.kinds (place p s.Children)

parent_below : (codes : ℕ) (H : Heap) (p : CellName) (cs : List CellName) (n : ℕ) → Grows codes H p cs n → p.0 < n
parent_below codes H p cs n g = let within = slice_get_within H.kinds p.0 g.parent.0 g.parent.1 in let count = g.count in omega arith

-- a node behind them
abbrev behind : Heap → CellKind → CellName → List CellName → ℕ → Heap
behind K k p cs n = moved (after K (node_acts n k p)) (placed (place p s.Children) (a.Cells (cs ++ cell n ∷ [])))

behind_listed : (H : Heap) (k : CellKind) (p : CellName) (cs : List CellName) (n : ℕ) → behind (listed p cs H) k p cs n ≡ listed p (cs ++ cell n ∷ []) (with_node H n k p)
behind_listed H k p cs n =
    sym (last_listed p cs (cell n) (after (listed p cs H) (node_acts n k p)))
    ∙ (ap (listed p (cs ++ cell n ∷ [])) (listed_swap p cs H (node_acts n k p) (tt, (other_slot p (cell n) s.Children s.Proto (λ e. cc), (other_slot p (cell n) s.Children s.Parent (λ e. cc), tt))))
    ∙ listed_twice p cs (cell n) (with_node H n k p))

node_sound : (codes : ℕ) (H : Heap) (k : CellKind) (p : CellName) (cs : List CellName) (n : ℕ) → IsNodeKind k → Grows codes H p cs n → n + 1 + weight_left H ≤ 3999999999 → IsSound codes (listed p (cs ++ cell n ∷ []) (with_node H n k p))
node_sound codes H k p cs n is g room =
    let K = listed p cs H in
    let kinds : K.kinds ≡ H.kinds = children_length H p cs in
    let count : length K.kinds ≡ n = ap (λ (ks : List CellKind). length ks) kinds ∙ g.count in
    let weight = children_weight H p cs in
    let names : Every (NameIn (is_below (length K.kinds))) cs = subst (λ (m : ℕ). Every (NameIn (is_below m)) cs) (sym count) g.names in
    let parent : CanAskIn K.kinds (place p s.Children) = subst (λ (ks : List CellKind). CanAskIn ks (place p s.Children)) (sym kinds) g.parent in
    let leaf : IsSound codes (behind K k p cs (length K.kinds)) = leaf_sound codes K k p cs is g.sound g.siblings names parent (omega arith) in
    subst (IsSound codes) (ap (behind K k p cs) count ∙ behind_listed H k p cs n) leaf

-- what is put behind them next
next_grows : (codes : ℕ) (H K : Heap) (p : CellName) (cs : List CellName) (n m : ℕ) → Grows codes H p cs n → IsSound codes (listed p (cs ++ cell n ∷ []) K) → length K.kinds ≡ m → n < m → CanAskIn K.kinds (place p s.Children) → Grows codes K p (cs ++ cell n ∷ []) m
next_grows codes H K p cs n m g sound count lt parent = record {
  sound = sound;
  count = count;
  siblings = ap (λ (G : Heap). children_at G p) (last_listed p cs (cell n) K) ∙ ap cells_in (put_at-same K.at (place p s.Children) (a.Cells (cs ++ cell n ∷ [])));
  names = one_more_name n m cs lt g.names;
  parent = parent;
}

-- ---- a text

can_chars : (H : Heap) (n : ℕ) (units : List ℕ) → length H.kinds ≡ n → CanPutIn (grown H kind.Chars) (place (cell n) s.Chars) (a.One (v.Str units))
can_chars H n units e = record { there = (kind.Chars, kind_new H kind.Chars n e, refl); suits = refl; names = tt; numbers = tt }

text_sound : (codes : ℕ) (H : Heap) (p : CellName) (cs : List CellName) (n : ℕ) (units : List ℕ) → Grows codes H p cs n → n + 1 + weight_left H ≤ 3999999999 → IsSound codes (listed p (cs ++ cell n ∷ []) (with_text H n units p))
text_sound codes H p cs n units g room =
    let G = with_node H n kind.Chars p in
    let ds = cs ++ cell n ∷ [] in
    let can : CanPutIn (listed p ds G).kinds (place (cell n) s.Chars) (a.One (v.Str units)) =
    subst (λ (ks : List CellKind). CanPutIn ks (place (cell n) s.Chars) (a.One (v.Str units))) (sym (children_length G p ds)) (can_chars H n units g.count) in
    subst (IsSound codes) (listed_swap p ds G (placed (place (cell n) s.Chars) (a.One (v.Str units)) ∷ []) (other_slot p (cell n) s.Children s.Chars (λ e. cc), tt))
    (IsSound-put_quiet codes (listed p ds G) (place (cell n) s.Chars) (a.One (v.Str units)) (node_sound codes H kind.Chars p cs n (node_kind kind.Chars refl) g room) refl refl can tt)

-- ---- an element

-- nothing stands at the next cell
nothing_new : (codes : ℕ) (H : Heap) (p : CellName) (cs : List CellName) (n : ℕ) (slot : Slot) → Grows codes H p cs n → H.at (place (cell n) slot) ≡ a.Absent
nothing_new codes H p cs n slot g =
    let below = parent_below codes H p cs n g in
    let count : length (listed p cs H).kinds ≡ n = ap (λ (ks : List CellKind). length ks) (children_length H p cs) ∙ g.count in
    sym (after-spares H (place (cell n) slot) (children_acts p cs) (children_puts (λ q. place (cell n) slot ≢ q) p cs (other_cell (cell n) p slot s.Children (λ e. let same = ap (λ (c : CellName). c.0) e in absurd (omega arith)))))
    ∙ absent_past (listed p cs H) g.sound.valid (place (cell n) slot) (omega arith)

-- nor does anything at the new node but its prototype and its parent
node_bare : (codes : ℕ) (H : Heap) (k : CellKind) (p : CellName) (cs : List CellName) (n : ℕ) (slot : Slot) → Grows codes H p cs n → slot_rank slot ≢ 2 → slot_rank slot ≢ 5
    → (listed p (cs ++ cell n ∷ []) (with_node H n k p)).at (place (cell n) slot) ≡ a.Absent
node_bare codes H k p cs n slot g e f =
    let G = with_node H n k p in
    let ds = cs ++ cell n ∷ [] in
    let below = parent_below codes H p cs n g in
    let q = place (cell n) slot in
    after-spares G q (children_acts p ds) (children_puts (λ r. q ≢ r) p ds (other_cell (cell n) p slot s.Children (λ e. let same = ap (λ (c : CellName). c.0) e in absurd (omega arith))))
    ∙ (after-spares H q (node_acts n k p) (tt, (other_slot (cell n) (cell n) slot s.Proto e, (other_slot (cell n) (cell n) slot s.Parent f, tt)))
    ∙ nothing_new codes H p cs n slot g)

-- attributes are put at the new element, before the list of p or after it
attributes_swap : (p : CellName) (ds : List CellName) (G : Heap) (n : ℕ) (attributes : List Attribute) → after (listed p ds G) (attribute_acts (cell n) attributes) ≡ listed p ds (after G (attribute_acts (cell n) attributes))
attributes_swap p ds G n attributes = listed_swap p ds G (attribute_acts (cell n) attributes) (attributes_spare (cell n) p s.Children attributes (λ e. cc) (λ e. cc))

element_sound : (codes : ℕ) (H : Heap) (p : CellName) (cs : List CellName) (n : ℕ) (name : List ℕ) (attributes : List Attribute) → Distinct (names_of attributes) → Grows codes H p cs n → n + 1 + weight_left H ≤ 3999999999
    → IsSound codes (listed p (cs ++ cell n ∷ []) (with_element H n name attributes p))
element_sound codes H p cs n name attributes once g room =
    let k = kind.Element name in
    let G = with_node H n k p in
    let ds = cs ++ cell n ∷ [] in
    subst (IsSound codes) (attributes_swap p ds G n attributes)
    (attributes_sound codes (listed p ds G) (cell n) attributes (node_sound codes H k p cs n (node_kind k refl) g room) (record {
      element = subst (λ (ks : List CellKind). CanAskIn ks (place (cell n) s.AttrNames)) (sym (children_length G p ds)) (k, kind_new H k n g.count, refl);
      once = once;
      bare = λ attribute. node_bare codes H k p cs n (s.Attr attribute) g (λ e. cc) (λ e. cc);
      unnamed = node_bare codes H k p cs n s.AttrNames g (λ e. cc) (λ e. cc);
    }))

-- the new element has no children yet
inner_grows : (codes : ℕ) (H : Heap) (p : CellName) (cs : List CellName) (n : ℕ) (name : List ℕ) (attributes : List Attribute) → Distinct (names_of attributes) → Grows codes H p cs n → n + 1 + weight_left H ≤ 3999999999
    → Grows codes (listed p (cs ++ cell n ∷ []) (with_element H n name attributes p)) (cell n) [] (n + 1)
inner_grows codes H p cs n name attributes once g room =
    let k = kind.Element name in
    let G = with_node H n k p in
    let E = with_element H n name attributes p in
    let ds = cs ++ cell n ∷ [] in
    let l = length-grown H.kinds k in
    let made : E.kinds ≡ H.kinds ++ k ∷ [] = element_kinds H n name attributes p in
    let kinds : (listed p ds E).kinds ≡ H.kinds ++ k ∷ [] = children_length E p ds ∙ made in
    let q = place (cell n) s.Children in
    record {
      sound = element_sound codes H p cs n name attributes once g room;
      count = ap (λ (ks : List CellKind). length ks) kinds ∙ (let count = g.count in omega arith);
      siblings = ap cells_in
          (ap (λ (K : Heap). K.at q) (sym (attributes_swap p ds G n attributes))
          ∙ (after-spares (listed p ds G) q (attribute_acts (cell n) attributes) (attributes_spare (cell n) (cell n) s.Children attributes (λ e. cc) (λ e. cc))
          ∙ node_bare codes H k p cs n s.Children g (λ e. cc) (λ e. cc)));
      names = tt;
      parent = subst (λ (ks : List CellKind). CanAskIn ks q) (sym kinds) (k, kind_new H k n g.count, refl);
    }

-- ---- all of them

-- with the names of the later siblings behind the first one
regrouped : (codes : ℕ) (p n : CellName) (cs more : List CellName) (H K : Heap) → K ≡ H → IsSound codes (listed p ((cs ++ n ∷ []) ++ more) H) → IsSound codes (listed p (cs ++ n ∷ more) K)
regrouped codes p n cs more H K e h = subst (λ (G : Heap). IsSound codes (listed p (cs ++ n ∷ more) G)) (sym e) (subst (λ (ds : List CellName). IsSound codes (listed p ds H)) (append_assoc cs (n ∷ []) more) h)

none_more : (codes : ℕ) (p : CellName) (cs : List CellName) (H : Heap) → IsSound codes (listed p cs H) → IsSound codes (listed p (cs ++ []) H)
none_more codes p cs H h = subst (λ (ds : List CellName). IsSound codes (listed p ds H)) (sym (append-nil cs)) h

-- the children of the new element were put before the list of p was
inner_listed : (p : CellName) (ds : List CellName) (G : Heap) (n : ℕ) (children : Trees) → HaveNamesOnce children → p.0 < n
    → listed (cell n) (root_names (n + 1) children) (after (listed p ds G) (trees_acts (cell n) (n + 1) children)) ≡ listed p ds (with_inner G n children)
inner_listed p ds G n children h below =
    ap (listed (cell n) (root_names (n + 1) children)) (listed_swap p ds G (trees_acts (cell n) (n + 1) children) (trees_spare children (cell n) (n + 1) (place p s.Children) h (omega arith)))
    ∙ listed_swap p ds (after G (trees_acts (cell n) (n + 1) children)) (children_acts (cell n) (root_names (n + 1) children))
    (children_puts (λ r. place p s.Children ≢ r) (cell n) (root_names (n + 1) children) (other_cell p (cell n) s.Children s.Children (λ e. let same = ap (λ (c : CellName). c.0) e in absurd (omega arith))))

trees_sound : (codes : ℕ) (trees : Trees) (H : Heap) (p : CellName) (cs : List CellName) (n : ℕ) → HaveNamesOnce trees → Grows codes H p cs n → n + node_count trees + weight_left H ≤ 3999999999
    → IsSound codes (listed p (cs ++ root_names n trees) (after H (trees_acts p n trees)))
trees_sound codes none H p cs n h g room = none_more codes p cs H g.sound
trees_sound codes (text units more) H p cs n h g room =
    let K = with_text H n units p in
    let l = length-grown H.kinds kind.Chars in
    let count = g.count in
    let later = next_grows codes H K p cs n (n + 1) g (text_sound codes H p cs n units g (omega arith)) (omega arith) (omega arith) (g.parent.0, slice_get-grown H.kinds kind.Chars p.0 g.parent.0 g.parent.1, g.parent.2) in
    regrouped codes p (cell n) cs (root_names (n + 1) more) (after K (trees_acts p (n + 1) more)) (after K (trees_acts p (n + 1) more)) refl
    (trees_sound codes more K p (cs ++ cell n ∷ []) (n + 1) h later (omega arith))
trees_sound codes (element name attributes children more) H p cs n h g room =
    let k = kind.Element name in
    let G = with_element H n name attributes p in
    let ds = cs ++ cell n ∷ [] in
    let K = with_inner G n children in
    let m = n + 1 + node_count children in
    let count = g.count in
    let l = length-grown H.kinds k in
    let kinds = element_kinds H n name attributes p in
    let made = ap (λ (ks : List CellKind). length ks) kinds in
    let lighter = element_weight H n name attributes p in
    let light = children_weight G p ds in
    let inner : IsSound codes (listed p ds K) =
    subst (IsSound codes) (inner_listed p ds G n children h.1 (parent_below codes H p cs n g))
    (trees_sound codes children (listed p ds G) (cell n) [] (n + 1) h.1 (inner_grows codes H p cs n name attributes h.0 g (omega arith)) (omega arith)) in
    let long = trees_length children G (cell n) (n + 1) h.1 in
    let same = children_length (after G (trees_acts (cell n) (n + 1) children)) (cell n) (root_names (n + 1) children) in
    let many : length K.kinds ≡ m = ap (λ (ks : List CellKind). length ks) same ∙ (omega arith) in
    let weight = trees_weight children G (cell n) (n + 1) h.1 in
    let also = children_weight (after G (trees_acts (cell n) (n + 1) children)) (cell n) (root_names (n + 1) children) in
    let parent : CanAskIn K.kinds (place p s.Children) = (
      g.parent.0,
      after-kind (after G (trees_acts (cell n) (n + 1) children)) (children_acts (cell n) (root_names (n + 1) children)) p.0 g.parent.0
          (after-kind G (trees_acts (cell n) (n + 1) children) p.0 g.parent.0
          (subst (λ (ks : List CellKind). slice_get ks p.0 ≡ Some g.parent.0) (sym kinds) (slice_get-grown H.kinds k p.0 g.parent.0 g.parent.1))),
      g.parent.2,
    ) in
    regrouped codes p (cell n) cs (root_names m more) (after K (trees_acts p m more)) (after H (trees_acts p n (element name attributes children more))) (element_after H p n name attributes children more)
    (trees_sound codes more K p ds m h.2 (next_grows codes H K p cs n m g inner many (omega arith) parent) (omega arith))

-- ---- the document

-- the document can have children
pub document_parent : (codes : ℕ) (H : Heap) → IsSound codes H → CanAskIn H.kinds (place document_cell s.Children)
document_parent codes H sound = (kind.Document, kind-start H.kinds sound.start 2 kind.Document refl, refl)

-- The heap with the trees under the document is sound.
pub planted_sound : (codes : ℕ) (H : Heap) (trees : Trees) → IsSound codes H → children_at H document_cell ≡ [] → HaveNamesOnce trees → length H.kinds + node_count trees + weight_left H ≤ 3999999999 → IsSound codes (planted H trees)
planted_sound codes H trees sound empty h room =
    let n = length H.kinds in
    subst (IsSound codes) (sym (after-append H (trees_acts document_cell n trees) (children_acts document_cell (root_names n trees))))
    (trees_sound codes trees H document_cell [] n h (record { sound = sound; count = refl; siblings = empty; names = tt; parent = document_parent codes H sound }) room)
