-- The acts of planting, one call after another.
use Rattle.std.proofs.Common.{◌≡◌, ◌<◌, ◌≤◌, ◌+◌, ℕ, suc, length, get_or, take, drop, slice_get, Some, arith, List, [], ◌∷◌, ◌++◌, true, ap, sym, ◌∙◌, subst, refl, append_assoc, Result, Ok, Err, OnOk, OnErr}
use Rattle.std.proofs.lemmas.Bool.{lt-ltb}
use Rattle.std.proofs.lemmas.List.{append-nil, take_more, map-append, take_all}
use Rattle.std.proofs.Math.Seq.{drop-cons}
use Rattle.page_units.specs.declared.value.CellName.{CellName}
use Rattle.page_units.specs.declared.value.Value.TheVariants as v
use Rattle.cell_places.specs.declared.place.Place.{Place}
use Rattle.cell_places.specs.declared.place.Slot.TheVariants as s
use Rattle.cell_places.specs.declared.answer.Answer.TheVariants as a
use Rattle.cell_places.specs.declared.kind.CellKind.{CellKind}
use Rattle.cell_places.specs.declared.kind.CellKind.TheVariants as kind
use Rattle.cell_places.specs.Lists.{Every}
use Rattle.cell_places.specs.Kinds.{is_child}
use Rattle.cell_places.specs.Heap.{Heap, cell, place, next}
use Rattle.cell_places.specs.Within.{NameIn, is_below}
use Rattle.cell_places.specs.Acts.{Act, moved, after}
use Rattle.cell_places.specs.View.{View, heap, step, run}
use Rattle.cell_places.specs.Rooted.{Rooted}
use Rattle.cell_places.specs.Valid.{CanAsk, CanPutIn}
use Rattle.cell_places.specs.Start.{document_cell, node_prototype}
use Rattle.cell_places.proofs.Grown.{slice_get-last, length-grown}
use Rattle.cell_places.proofs.Runs.{heap-step, heap-run, run-append, Rooted-step, Rooted-run, Rooted-trans}
use Rattle.cell_places.proofs.Spared.{after-kind}
use Rattle.tree_shape.specs.Trees.{Trees, Attribute as Attr, HaveNamesOnce, none, text, element}
use Rattle.page_reader.specs.declared.node.Attribute.{Attribute}
use Rattle.page_reader.specs.declared.node.Node.{Node}
use Rattle.page_reader.specs.declared.node.Node.TheVariants as n
use Rattle.page_reader.specs.NodeTrees.{pairs, node_tree, trees_of}
use Rattle.page_reader.specs.Planting.{node_count, root_names, node_acts, name_acts, attribute_acts, children_acts, trees_acts, planting}
use Rattle.page_reader.proofs.NodeTrees.{element_tree_of}
use Rattle.page_reader.proofs.Siblings.{node_front}
use Rattle.page_reader.proofs.PlantingIsSound.{node_kind, can_proto, can_parent}
use Rattle.page_reader.proofs.AttributesPut.{value_act, value_acts, names_of, attributes_heap}
use Rattle.page_reader.proofs.TreesActs.{trees_length}

-- the kinds of cells after an act
pub kinds_stepped : (v w : View) (a : Act) → w ≡ step v a → (heap w).kinds ≡ (moved (heap v) a).kinds
kinds_stepped v w a e = ap (λ (x : View). (heap x).kinds) e ∙ ap (λ (H : Heap). H.kinds) (heap-step v a)

-- what lies beneath stays still through an act
pub rooted_stepped : (u v w : View) (a : Act) → Rooted u v → w ≡ step v a → Rooted u w
rooted_stepped u v w a r e = subst (Rooted u) (sym e) (Rooted-trans u v (step v a) r (Rooted-step v a))

-- ---- a new node

-- the new cell can have its prototype
pub may_proto : (H : Heap) (k : CellKind) (kinds : List CellKind) (n : CellName) → node_prototype.0 < length H.kinds → is_child k ≡ true → kinds ≡ H.kinds ++ k ∷ [] → n ≡ next H → CanPutIn kinds (place n s.Proto) (a.One (v.Cell node_prototype))
may_proto H k kinds n there child e f =
    subst (λ (ks : List CellKind). CanPutIn ks (place n s.Proto) (a.One (v.Cell node_prototype))) (sym e)
    (subst (λ (m : CellName). CanPutIn (H.kinds ++ k ∷ []) (place m s.Proto) (a.One (v.Cell node_prototype))) (sym f) (can_proto H k (node_kind k child) there))

-- and its parent
pub may_parent : (H : Heap) (k : CellKind) (p : CellName) (kinds : List CellKind) (n : CellName) → CanAsk H (place p s.Children) → is_child k ≡ true → kinds ≡ H.kinds ++ k ∷ [] → n ≡ next H → CanPutIn kinds (place n s.Parent) (a.One (v.Cell p))
may_parent H k p kinds n parent child e f =
    subst (λ (ks : List CellKind). CanPutIn ks (place n s.Parent) (a.One (v.Cell p))) (sym e)
    (subst (λ (m : CellName). CanPutIn (H.kinds ++ k ∷ []) (place m s.Parent) (a.One (v.Cell p))) (sym f) (can_parent H k p (node_kind k child) parent))

-- ---- after a run

heap_ran : (v w : View) (acts : List Act) → w ≡ run v acts → heap w ≡ after (heap v) acts
heap_ran v w acts e = ap heap e ∙ heap-run v acts

-- what could be asked can be asked then
pub ask_ran : (v w : View) (acts : List Act) (q : Place) → w ≡ run v acts → CanAsk (heap v) q → CanAsk (heap w) q
ask_ran v w acts q e h = subst (λ (H : Heap). CanAsk H q) (sym (heap_ran v w acts e)) (h.0, after-kind (heap v) acts q.cell.0 h.0 h.1, h.2)

-- the count grows by the nodes that were planted
pub trees_ran : (v w : View) (p : CellName) (n : ℕ) (trees : Trees) → HaveNamesOnce trees → w ≡ run v (trees_acts p n trees) → length (heap w).kinds ≡ length (heap v).kinds + node_count trees
trees_ran v w p n trees once e = ap (λ (H : Heap). length H.kinds) (heap_ran v w (trees_acts p n trees) e) ∙ trees_length trees (heap v) p n once

-- the siblings' names are below the count
roots_below : (trees : Trees) (n m : ℕ) → n + node_count trees ≤ m → Every (NameIn (is_below m)) (root_names n trees)
roots_below none n m le = tt
roots_below (text units more) n m le = (lt-ltb n m (omega arith), roots_below more (n + 1) m (omega arith))
roots_below (element name attributes children more) n m le = (lt-ltb n m (omega arith), roots_below more (n + 1 + node_count children) m (omega arith))

-- so those of planted siblings are below it
pub names_below : (v w : View) (p : CellName) (trees : Trees) (names : List CellName) → HaveNamesOnce trees → w ≡ run v (trees_acts p (length (heap v).kinds) trees) → names ≡ root_names (length (heap v).kinds) trees → Every (NameIn (is_below (length (heap w).kinds))) names
names_below v w p trees names once e f =
    let count = trees_ran v w p (length (heap v).kinds) trees once e in
    subst (λ (ns : List CellName). Every (NameIn (is_below (length (heap w).kinds))) ns) (sym f) (roots_below trees (length (heap v).kinds) (length (heap w).kinds) (omega arith))

-- ---- an element

-- the tree of an element
pub record IsElement (node : Node) (tag : List ℕ) (attributes : List Attribute) (children : List Node) : Type 0 where
  pub tree : node_tree node none ≡ element tag (pairs attributes) (trees_of children) none
  pub once : HaveNamesOnce (trees_of children)

-- an element in which names stand once is one of them
pub element_is : (node : Node) (tag : List ℕ) (attributes : List Attribute) (children : List Node) → node ≡ n.Element tag attributes children → HaveNamesOnce (node_tree node none) → IsElement node tag attributes children
element_is node tag attributes children e once =
    let tree = ap (λ (x : Node). node_tree x none) e ∙ ap (λ (front : Trees → Trees). front none) (element_tree_of tag attributes children) in
    record { tree = tree; once = (subst HaveNamesOnce tree once).1 }

-- a new element's children can be planted
pub record CanFill (v : View) (name : CellName) (children : List Node) : Type 0 where
  pub parent : CanAsk (heap v) (place name s.Children)
  pub prototype : node_prototype.0 < length (heap v).kinds
  pub room : length (heap v).kinds + node_count (trees_of children) ≤ 4000000000
  pub once : HaveNamesOnce (trees_of children)

-- an element has more nodes than are in it
pub element_more : (node : Node) (tag : List ℕ) (attributes : List Attribute) (children : List Node) → IsElement node tag attributes children → node_count (trees_of children) < node_count (node_tree node none)
element_more node tag attributes children is = let size = ap (λ (t : Trees). node_count t) is.tree in omega arith

-- an element that was made
pub record IsMade (v w : View) (name : CellName) : Type 0 where
  pub element : CanAsk (heap w) (place name s.AttrNames)
  pub parent : CanAsk (heap w) (place name s.Children)
  pub count : length (heap w).kinds ≡ length (heap v).kinds + 1

pub is_made : (v w : View) (p name : CellName) (copy : List ℕ) → w ≡ run v (node_acts (length (heap v).kinds) (kind.Element copy) p) → name ≡ next (heap v) → IsMade v w name
is_made v w p name copy e f =
    let H = heap v in
    let acts = node_acts (length H.kinds) (kind.Element copy) p in
    let ran = heap_ran v w acts e in
    let there : slice_get (heap w).kinds name.0 ≡ Some (kind.Element copy) =
    subst (λ (K : Heap). slice_get K.kinds name.0 ≡ Some (kind.Element copy)) (sym ran)
    (subst (λ (c : CellName). slice_get (after H acts).kinds c.0 ≡ Some (kind.Element copy)) (sym f) (slice_get-last H.kinds (kind.Element copy))) in
    record {
      element = (kind.Element copy, there, refl);
      parent = (kind.Element copy, there, refl);
      count = ap (λ (K : Heap). length K.kinds) ran ∙ length-grown H.kinds (kind.Element copy);
    }

-- the attributes of a slice of them were put
pub attributes_named : (v w : View) (name : CellName) (attributes here : List Attribute) → here ≡ attributes → w ≡ run v (attribute_acts name (pairs here)) → w ≡ run v (attribute_acts name (pairs attributes))
attributes_named v w name attributes here same e = e ∙ ap (λ (xs : List Attribute). run v (attribute_acts name (pairs xs))) same

-- which is so once it is made and has its attributes
pub can_fill : (u v w : View) (name : CellName) (node : Node) (tag : List ℕ) (attributes : List Attribute) (children : List Node) → IsElement node tag attributes children → IsMade u v name
    → w ≡ run v (attribute_acts name (pairs attributes)) → node_prototype.0 < length (heap u).kinds → length (heap u).kinds + node_count (node_tree node none) ≤ 4000000000 → CanFill w name children
can_fill u v w name node tag attributes children is made e there room =
    let ran = heap_ran v w (attribute_acts name (pairs attributes)) e in
    let kept = ap (λ (K : Heap). length K.kinds) (ran ∙ attributes_heap (heap v) name (pairs attributes)) in
    let count = made.count in
    let size = ap (λ (t : Trees). node_count t) is.tree in
    record {
      parent = ask_ran v w (attribute_acts name (pairs attributes)) (place name s.Children) e made.parent;
      prototype = omega arith;
      room = omega arith;
      once = is.once;
    }

-- what an element's calls did
pub element_ran : (t u v w x : View) (p name : CellName) (node : Node) (tag copy : List ℕ) (attributes : List Attribute) (children : List Node) (names : List CellName) → IsElement node tag attributes children → copy ≡ tag → name ≡ next (heap t)
    → u ≡ run t (node_acts (length (heap t).kinds) (kind.Element copy) p) → v ≡ run u (attribute_acts name (pairs attributes)) → w ≡ run v (trees_acts name (length (heap v).kinds) (trees_of children))
    → names ≡ root_names (length (heap v).kinds) (trees_of children) → x ≡ run w (children_acts name names) → x ≡ run t (trees_acts p (length (heap t).kinds) (node_tree node none))
element_ran t u v w x p name node tag copy attributes children names is same f made named filled all listed =
    let m = length (heap t).kinds in
    let trees = trees_of children in
    let made_is = is_made t u p name copy made f in
    let kept = ap (λ (K : Heap). length K.kinds) (heap_ran u v (attribute_acts name (pairs attributes)) named ∙ attributes_heap (heap u) name (pairs attributes)) in
    let count : length (heap v).kinds ≡ m + 1 = kept ∙ made_is.count in
    let first : u ≡ run t (node_acts m (kind.Element tag) p) = made ∙ ap (λ (z : List ℕ). run t (node_acts m (kind.Element z) p)) same in
    let own = attribute_acts (cell m) (pairs attributes) in
    let inner = trees_acts (cell m) (m + 1) trees in
    let list = children_acts (cell m) (root_names (m + 1) trees) in
    let second : v ≡ run u own = named ∙ ap (λ (c : CellName). run u (attribute_acts c (pairs attributes))) f in
    let third : w ≡ run v inner = filled ∙ (λ i. run v (trees_acts (f i) (count i) trees)) in
    let fourth : x ≡ run w list = listed ∙ (λ i. run w (children_acts (f i) ((all ∙ ap (λ (k : ℕ). root_names k trees) count) i))) in
    fourth
    ∙ (ap (λ (z : View). run z list) third
    ∙ (sym (run-append v inner list)
    ∙ (ap (λ (z : View). run z (inner ++ list)) second
    ∙ (sym (run-append u own (inner ++ list))
    ∙ (ap (λ (z : View). run z (own ++ (inner ++ list))) first
    ∙ (ap (λ (acts : List Act). run t (node_acts m (kind.Element tag) p ++ acts)) (sym (append-nil (own ++ (inner ++ list))))
    ∙ ap (λ (z : Trees). run t (trees_acts p m z)) (sym is.tree)))))))

-- ---- attributes, one after another

-- the first of them were put, and their names pushed
pub record ArePut (v w : View) (node : CellName) (attributes : List Attribute) (count : ℕ) (names : List (List ℕ)) : Type 0 where
  pub element : CanAsk (heap w) (place node s.AttrNames)
  pub acts : w ≡ run v (value_acts node (pairs (take count attributes)))
  pub named : names ≡ names_of (pairs (take count attributes))
  pub rooted : Rooted v w

pairs_more : (attributes : List Attribute) (i : ℕ) (x : Attribute) → i < length attributes → x ≡ get_or attributes i x → pairs (take (i + 1) attributes) ≡ pairs (take i attributes) ++ (x.name, x.value) ∷ []
pairs_more attributes i x below e =
    ap pairs (take_more attributes i x below ∙ ap (λ (y : Attribute). take i attributes ++ y ∷ []) (sym e)) ∙ map-append (λ (y : Attribute). (y.name, y.value)) (take i attributes) (x ∷ [])

-- one more was put, and its name pushed
pub put_more : (v w x : View) (node : CellName) (attributes : List Attribute) (i : ℕ) (names behind : List (List ℕ)) (attribute : Attribute) (copy : List ℕ) → i < length attributes → attribute ≡ get_or attributes i attribute → ArePut v w node attributes i names
    → x ≡ step w (value_act node (attribute.name, attribute.value)) → copy ≡ attribute.name → behind ≡ names ++ copy ∷ [] → ArePut v x node attributes (i + 1) behind
put_more v w x node attributes i names behind attribute copy below e are put same pushed =
    let before = pairs (take i attributes) in
    let one : Attr = (attribute.name, attribute.value) in
    let more = pairs_more attributes i attribute below e in
    record {
      element = ask_ran w x (value_act node one ∷ []) (place node s.AttrNames) put are.element;
      acts = put ∙ (ap (λ (z : View). step z (value_act node one)) are.acts
          ∙ (sym (run-append v (value_acts node before) (value_act node one ∷ []))
          ∙ ap (run v) (sym (ap (value_acts node) more ∙ map-append (value_act node) before (one ∷ [])))));
      named = pushed ∙ ((λ j. are.named j ++ same j ∷ []) ∙ sym (ap names_of more ∙ map-append (λ (a : Attr). a.0) before (one ∷ [])));
      rooted = rooted_stepped v w x (value_act node one) are.rooted put;
    }

-- all were put, and then their names
pub all_put : {T E : Type 0} (v w x : View) (node : CellName) (attributes : List Attribute) (i : ℕ) (names : List (List ℕ)) (r : Result T E) → length attributes ≤ i → ArePut v w node attributes i names
    → OnOk r (x ≡ run w (name_acts node names)) → OnOk r (x ≡ run v (attribute_acts node (pairs attributes)))
all_put v w x node attributes i names (Ok y) past are put =
    let all = pairs (take i attributes) in
    let same : all ≡ pairs attributes = ap pairs (take_all i attributes past) in
    put ∙ ((λ j. run (are.acts j) (name_acts node (are.named j))) ∙ (sym (run-append v (value_acts node all) (name_acts node (names_of all))) ∙ ap (λ (xs : List Attr). run v (attribute_acts node xs)) same))
all_put v w x node attributes i names (Err y) past are put = tt

-- ---- siblings, one after another

taken : (xs : List Node) (i : ℕ) (x : Node) → i < length xs → x ≡ get_or xs i x → drop i xs ≡ x ∷ drop (i + 1) xs
taken xs i x lt e = let next_is : suc i ≡ i + 1 = omega arith in drop-cons xs i x lt ∙ (λ j. sym e j ∷ drop (next_is j) xs)

-- the item of a slice of them
pub taken_of : (xs ys : List Node) (i : ℕ) (x : Node) → ys ≡ xs → i < length ys → x ≡ get_or ys i x → drop i xs ≡ x ∷ drop (i + 1) xs
taken_of xs ys i x same lt e = taken xs i x (let long = ap (λ (zs : List Node). length zs) same in omega arith) (e ∙ ap (λ (zs : List Node). get_or zs i x) same)

-- the next sibling can be planted
pub record CanPlant (v : View) (x : Node) (rest : List Node) : Type 0 where
  pub few : node_count (node_tree x none) ≤ node_count (trees_of rest)
  pub room : length (heap v).kinds + node_count (node_tree x none) ≤ 4000000000
  pub once : HaveNamesOnce (node_tree x none)

-- which is so where all that are left can be
pub can_plant : (v : View) (rest others : List Node) (x : Node) → rest ≡ x ∷ others → length (heap v).kinds + node_count (trees_of rest) ≤ 4000000000 → HaveNamesOnce (trees_of rest) → CanPlant v x rest
can_plant v rest others x e room once =
    let size = ap (λ (xs : List Node). node_count (trees_of xs)) e ∙ (node_front x).count (trees_of others) in
    record {
      few = omega arith;
      room = omega arith;
      once = ((node_front x).once (trees_of others) (subst (λ (xs : List Node). HaveNamesOnce (trees_of xs)) e once)).0;
    }

-- what the later ones need and do then
pub record IsTurn (v w : View) (p : CellName) (rest others : List Node) (name : CellName) : Type 0 where
  pub count : length (heap v).kinds ≤ length (heap w).kinds
  pub few : node_count (trees_of others) ≤ node_count (trees_of rest)
  pub room : length (heap w).kinds + node_count (trees_of others) ≤ 4000000000
  pub once : HaveNamesOnce (trees_of others)
  pub acts : run v (trees_acts p (length (heap v).kinds) (trees_of rest)) ≡ run w (trees_acts p (length (heap w).kinds) (trees_of others))
  pub names : root_names (length (heap v).kinds) (trees_of rest) ≡ name ∷ root_names (length (heap w).kinds) (trees_of others)

-- which is so once the next one was planted
pub turn_is : (v w : View) (p : CellName) (rest others : List Node) (x : Node) (name : CellName) → rest ≡ x ∷ others → length (heap v).kinds + node_count (trees_of rest) ≤ 4000000000 → HaveNamesOnce (trees_of rest)
    → w ≡ run v (trees_acts p (length (heap v).kinds) (node_tree x none)) → name ≡ next (heap v) → IsTurn v w p rest others name
turn_is v w p rest others x name e room once ran f =
    let m = length (heap v).kinds in
    let front = node_front x in
    let parts = front.once (trees_of others) (subst (λ (xs : List Node). HaveNamesOnce (trees_of xs)) e once) in
    let count = trees_ran v w p m (node_tree x none) parts.0 ran in
    let size = ap (λ (xs : List Node). node_count (trees_of xs)) e ∙ front.count (trees_of others) in
    record {
      count = omega arith;
      few = omega arith;
      room = omega arith;
      once = parts.1;
      acts = ap (λ (xs : List Node). run v (trees_acts p m (trees_of xs))) e
          ∙ (ap (run v) (front.acts p m (trees_of others))
          ∙ (run-append v (trees_acts p m (node_tree x none)) (trees_acts p (m + node_count (node_tree x none)) (trees_of others))
          ∙ (λ i. run (sym ran i) (trees_acts p (sym count i) (trees_of others)))));
      names = ap (λ (xs : List Node). root_names m (trees_of xs)) e
          ∙ (front.names m (trees_of others)
          ∙ (λ i. (front.one m ∙ ap (λ (c : CellName). c ∷ []) (sym f)) i ++ root_names (sym count i) (trees_of others)));
    }

-- one more name was pushed
pub names_pushed : (all before behind later : List CellName) (name : CellName) (rest : List CellName) → all ≡ before ++ rest → rest ≡ name ∷ later → behind ≡ before ++ name ∷ [] → all ≡ behind ++ later
names_pushed all before behind later name rest e f g =
    e ∙ (ap (λ (xs : List CellName). before ++ xs) f ∙ (sym (append_assoc before (name ∷ []) later) ∙ ap (λ (xs : List CellName). xs ++ later) (sym g)))

-- ---- the root

-- acts that may fail, and then are not done
pub rooted_ran : {T E : Type 0} (u v w : View) (acts : List Act) (r : Result T E) → Rooted u v → OnOk r (w ≡ run v acts) → OnErr r (w ≡ v) → Rooted u w
rooted_ran u v w acts (Ok x) old ok err = subst (Rooted u) (sym ok) (Rooted-trans u v (run v acts) old (Rooted-run v acts))
rooted_ran u v w acts (Err e) old ok err = subst (Rooted u) (sym err) old

-- the one name is that of the root
pub root_named : (v : View) (root : Node) (name : CellName) (before names : List CellName) → before ≡ [] → names ≡ before ++ name ∷ [] → name ≡ next (heap v) → names ≡ root_names (length (heap v).kinds) (node_tree root none)
root_named v root name before names none_yet e f = (e ∙ ap (λ (xs : List CellName). xs ++ name ∷ []) none_yet) ∙ (ap (λ (c : CellName). c ∷ []) f ∙ sym ((node_front root).one (length (heap v).kinds)))

root_ran : (u v w : View) (root : Node) (names : List CellName) → v ≡ run u (trees_acts document_cell (length (heap u).kinds) (node_tree root none)) → names ≡ root_names (length (heap u).kinds) (node_tree root none)
    → w ≡ run v (children_acts document_cell names) → w ≡ run u (planting (heap u) (node_tree root none))
root_ran u v w root names first named second =
    let m = length (heap u).kinds in
    let acts = trees_acts document_cell m (node_tree root none) in
    let list = children_acts document_cell (root_names m (node_tree root none)) in
    second ∙ ((λ i. run (first i) (children_acts document_cell (named i))) ∙ sym (run-append u acts list))

-- what the two calls for the root did, unless the second failed
pub root_done : {T E : Type 0} (u v w : View) (root : Node) (names : List CellName) (r : Result T E) → v ≡ run u (trees_acts document_cell (length (heap u).kinds) (node_tree root none)) → names ≡ root_names (length (heap u).kinds) (node_tree root none)
    → OnOk r (w ≡ run v (children_acts document_cell names)) → OnOk r (w ≡ run u (planting (heap u) (node_tree root none)))
root_done u v w root names (Ok x) first named second = root_ran u v w root names first named second
root_done u v w root names (Err e) first named second = tt
