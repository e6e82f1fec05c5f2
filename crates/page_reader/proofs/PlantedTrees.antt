-- What stands in a heap after trees were planted there, and how the sums grow.
use Rattle.std.proofs.Common.{◌≡◌, ◌≢◌, ℕ, pos, ◌+◌, ◌+ℤ◌, ◌≤ℤ◌, ◌<◌, ◌≤◌, length, slice_get, Some, List, [], ◌∷◌, ◌++◌, map, Bool, true, cond, refl, ap, sym, ◌∙◌, subst, inl, inr, ◌⊎◌, arith}
use Rattle.page_units.specs.declared.value.CellName.{CellName}
use Rattle.page_units.specs.declared.value.Value.TheVariants as v
use Rattle.cell_places.specs.declared.place.Place.{Place}
use Rattle.cell_places.specs.declared.place.Slot.{Slot}
use Rattle.cell_places.specs.declared.place.Slot.TheVariants as s
use Rattle.cell_places.specs.declared.answer.Answer.{Answer}
use Rattle.cell_places.specs.declared.answer.Answer.TheVariants as a
use Rattle.cell_places.specs.declared.kind.CellKind.{CellKind}
use Rattle.cell_places.specs.declared.kind.CellKind.TheVariants as kind
use Rattle.cell_places.specs.Places.{slot_rank}
use Rattle.cell_places.specs.Kinds.{is_document}
use Rattle.cell_places.specs.Heap.{Heap, cell, place, or_plain, weight_left, names_in, text_in, number_in, next_heard, cells_in, children_at}
use Rattle.cell_places.specs.Acts.{Act, placed, after}
use Rattle.cell_places.specs.Start.{document_cell}
use Rattle.cell_places.specs.Sound.{IsSound, SumsWithin}
use Rattle.cell_places.proofs.SamePlace.{put_at-same}
use Rattle.cell_places.proofs.Grown.{length-grown, absent_past, count-start, kind-start}
use Rattle.cell_places.proofs.KeepsSound.{SumsWithin-more}
use Rattle.cell_places.proofs.NextChild.{other_slot}
use Rattle.cell_places.proofs.Spared.{PutsIn, PutsIn-map, PutsIn-append, Spares, after-append, after-spares, after-kind}
use Rattle.tree_shape.specs.Trees.{Trees, Attribute, HaveNamesOnce, none, text, element}
use Rattle.tree_shape.specs.Holds as holds
use Rattle.tree_shape.specs.Holds.{Holds, served, attributes_at}
use Rattle.page_reader.specs.Planting.{node_count, root_names, node_acts, attribute_acts, children_acts, trees_acts, planted}
use Rattle.page_reader.proofs.AttributesPut.{attributes_puts, attributes_spare, attributes_put}
use Rattle.page_reader.proofs.TreesActs.{kind_new, with_node, with_element, with_text, with_inner, element_after, element_kinds, children_length, is_planted, trees_length, IsOf, children_puts, trees_puts, trees_spare, trees_spare_past, trees_weight, children_weight}

-- the heap has what planting trees from n on puts
abbrev IsPlanted : Heap → ℕ → Trees → Type 0
IsPlanted H n none = Unit {0}
IsPlanted H n (text units more) =
    (slice_get H.kinds n ≡ Some kind.Chars) × (H.at (place (cell n) s.Chars) ≡ a.One (v.Str units)) × IsPlanted H (n + 1) more
IsPlanted H n (element name attributes children more) =
    (slice_get H.kinds n ≡ Some (kind.Element name)) × (attributes_at H (cell n) ≡ attributes) × (children_at H (cell n) ≡ root_names (n + 1) children)
    × IsPlanted H (n + 1) children × IsPlanted H (n + 1 + node_count children) more

-- ---- then it holds the trees

planted_held : (trees : Trees) (H : Heap) (n : ℕ) → HaveNamesOnce trees → IsPlanted H n trees → Holds H (root_names n trees) trees
planted_held none H n once h = holds.none
planted_held (text units more) H n once h =
    subst (λ (us : List ℕ). Holds H (cell n ∷ root_names (n + 1) more) (text us more)) (ap text_in h.1)
    (holds.text (cell n) (root_names (n + 1) more) more (ap or_plain h.0) (planted_held more H (n + 1) once h.2))
planted_held (element name attributes children more) H n once h =
    let m = n + 1 + node_count children in
    subst (λ (xs : List Attribute). Holds H (cell n ∷ root_names m more) (element name xs children more)) h.1
    (holds.element (cell n) name (root_names m more) children more (ap or_plain h.0)
    (subst (λ (cs : List CellName). Holds H cs children) (sym h.2) (planted_held children H (n + 1) once.1 h.3))
    (planted_held more H m once.2 h.4))

-- attributes stay where their slots do
attributes_kept : (H K : Heap) (n : CellName) → K.at (place n s.AttrNames) ≡ H.at (place n s.AttrNames) → ((name : List ℕ) → K.at (place n (s.Attr name)) ≡ H.at (place n (s.Attr name))) → attributes_at K n ≡ attributes_at H n
attributes_kept H K n names values = λ i. map (λ (name : List ℕ). (name, text_in (values name i))) (names_in (names i))

-- ---- what is put beside them leaves them

abbrev IsBeside : ℕ → ℕ → Place → Type 0
IsBeside n m q = (q.cell.0 < n) ⊎ (m ≤ q.cell.0)

beside_less : (n m k l : ℕ) → n ≤ k → l ≤ m → (q : Place) → IsBeside n m q → IsBeside k l q
beside_less n m k l le ge q (inl h) = inl (omega arith)
beside_less n m k l le ge q (inr h) = inr (omega arith)

less_acts : (n m k l : ℕ) (acts : List Act) → n ≤ k → l ≤ m → PutsIn (IsBeside n m) acts → PutsIn (IsBeside k l) acts
less_acts n m k l acts le ge h = PutsIn-map (IsBeside n m) (IsBeside k l) (beside_less n m k l le ge) acts h

beside_other : (n m c : ℕ) (slot : Slot) → n ≤ c → c < m → (q : Place) → IsBeside n m q → place (cell c) slot ≢ q
beside_other n m c slot le lt q (inl h) e = let same = ap (λ (p : Place). p.cell.0) e in absurd (omega arith)
beside_other n m c slot le lt q (inr h) e = let same = ap (λ (p : Place). p.cell.0) e in absurd (omega arith)

beside_spares : (n m c : ℕ) (slot : Slot) (acts : List Act) → n ≤ c → c < m → PutsIn (IsBeside n m) acts → Spares (place (cell c) slot) acts
beside_spares n m c slot acts le lt h = PutsIn-map (IsBeside n m) (λ q. place (cell c) slot ≢ q) (beside_other n m c slot le lt) acts h

planted_kept : (trees : Trees) (H : Heap) (n : ℕ) (acts : List Act) → IsPlanted H n trees → PutsIn (IsBeside n (n + node_count trees)) acts → IsPlanted (after H acts) n trees
planted_kept none H n acts h beside = tt
planted_kept (text units more) H n acts h beside =
    let m = n + (1 + node_count more) in (
      after-kind H acts n kind.Chars h.0,
      after-spares H (place (cell n) s.Chars) acts (beside_spares n m n s.Chars acts (omega arith) (omega arith) beside) ∙ h.1,
      planted_kept more H (n + 1) acts h.2 (less_acts n m (n + 1) (n + 1 + node_count more) acts (omega arith) (omega arith) beside),
    )
planted_kept (element name attributes children more) H n acts h beside =
    let m = n + (1 + (node_count children + node_count more)) in
    let k = n + 1 + node_count children in (
      after-kind H acts n (kind.Element name) h.0,
      attributes_kept H (after H acts) (cell n) (after-spares H (place (cell n) s.AttrNames) acts (beside_spares n m n s.AttrNames acts (omega arith) (omega arith) beside))
          (λ attribute. after-spares H (place (cell n) (s.Attr attribute)) acts (beside_spares n m n (s.Attr attribute) acts (omega arith) (omega arith) beside))
          ∙ h.1,
      ap cells_in (after-spares H (place (cell n) s.Children) acts (beside_spares n m n s.Children acts (omega arith) (omega arith) beside)) ∙ h.2,
      planted_kept children H (n + 1) acts h.3 (less_acts n m (n + 1) k acts (omega arith) (omega arith) beside),
      planted_kept more H k acts h.4 (less_acts n m k (k + node_count more) acts (omega arith) (omega arith) beside),
    )

-- ---- planting puts them

-- nothing stands at cells from n on
abbrev IsFresh : Heap → ℕ → Type 0
IsFresh H n = (q : Place) → n ≤ q.cell.0 → H.at q ≡ a.Absent

not_cell : (n : ℕ) (q : Place) (slot : Slot) → n + 1 ≤ q.cell.0 → q ≢ place (cell n) slot
not_cell n q slot past e = let same = ap (λ (p : Place). p.cell.0) e in absurd (omega arith)

text_fresh : (H : Heap) (n : ℕ) (units : List ℕ) (p : CellName) → IsFresh H n → IsFresh (with_text H n units p) (n + 1)
text_fresh H n units p fresh q past =
    after-spares H q (node_acts n kind.Chars p ++ placed (place (cell n) s.Chars) (a.One (v.Str units)) ∷ [])
    (tt, (not_cell n q s.Proto past, (not_cell n q s.Parent past, (not_cell n q s.Chars past, tt))))
    ∙ fresh q (omega arith)

node_fresh : (H : Heap) (n : ℕ) (k : CellKind) (p : CellName) → IsFresh H n → IsFresh (with_node H n k p) (n + 1)
node_fresh H n k p fresh q past =
    after-spares H q (node_acts n k p) (tt, (not_cell n q s.Proto past, (not_cell n q s.Parent past, tt))) ∙ fresh q (omega arith)

element_fresh : (H : Heap) (n : ℕ) (name : List ℕ) (attributes : List Attribute) (p : CellName) → IsFresh H n → IsFresh (with_element H n name attributes p) (n + 1)
element_fresh H n name attributes p fresh q past =
    after-spares (with_node H n (kind.Element name) p) q (attribute_acts (cell n) attributes) (attributes_puts (λ r. q ≢ r) (cell n) attributes (λ attribute. not_cell n q (s.Attr attribute) past) (not_cell n q s.AttrNames past))
    ∙ node_fresh H n (kind.Element name) p fresh q past

-- at a new node a slot that isn't put with it
node_absent : (H : Heap) (n : ℕ) (k : CellKind) (p : CellName) (slot : Slot) → IsFresh H n → slot_rank slot ≢ 2 → slot_rank slot ≢ 5 → (with_node H n k p).at (place (cell n) slot) ≡ a.Absent
node_absent H n k p slot fresh e f =
    after-spares H (place (cell n) slot) (node_acts n k p) (tt, (other_slot (cell n) (cell n) slot s.Proto e, (other_slot (cell n) (cell n) slot s.Parent f, tt))) ∙ fresh (place (cell n) slot) (omega arith)

inner_fresh : (G : Heap) (n : ℕ) (children : Trees) → HaveNamesOnce children → IsFresh G (n + 1) → IsFresh (with_inner G n children) (n + 1 + node_count children)
inner_fresh G n children once fresh q past =
    after-spares (after G (trees_acts (cell n) (n + 1) children)) q (children_acts (cell n) (root_names (n + 1) children)) (children_puts (λ r. q ≢ r) (cell n) (root_names (n + 1) children) (not_cell n q s.Children (omega arith)))
    ∙ (after-spares G q (trees_acts (cell n) (n + 1) children) (trees_spare_past children (cell n) (n + 1) q once (omega arith))
    ∙ fresh q (omega arith))

-- the children that are listed
children_listed : (H : Heap) (p : CellName) (cs : List CellName) → children_at H p ≡ [] → children_at (after H (children_acts p cs)) p ≡ cs
children_listed H p [] e = e
children_listed H p (c ∷ cs) e = ap cells_in (put_at-same H.at (place p s.Children) (a.Cells (c ∷ cs)))

inner_planted : (G : Heap) (n : ℕ) (children : Trees) → IsPlanted (after G (trees_acts (cell n) (n + 1) children)) (n + 1) children → IsPlanted (with_inner G n children) (n + 1) children
inner_planted G n children h =
    planted_kept children (after G (trees_acts (cell n) (n + 1) children)) (n + 1) (children_acts (cell n) (root_names (n + 1) children)) h
    (children_puts (IsBeside (n + 1) (n + 1 + node_count children)) (cell n) (root_names (n + 1) children) (inl (omega arith)))

-- later siblings are put beside
later_beside : (more : Trees) (p : CellName) (n m : ℕ) → HaveNamesOnce more → PutsIn (IsBeside n m) (trees_acts p m more)
later_beside more p n m once =
    PutsIn-map (IsOf m (m + node_count more)) (IsBeside n m) (λ q is. inr is.from) (trees_acts p m more) (trees_puts more p m once)

trees_planted : (trees : Trees) (H : Heap) (p : CellName) (n : ℕ) → HaveNamesOnce trees → length H.kinds ≡ n → IsFresh H n → IsPlanted (after H (trees_acts p n trees)) n trees
trees_planted none H p n once count fresh = tt
trees_planted (text units more) H p n once count fresh =
    let G = with_node H n kind.Chars p in
    let K = with_text H n units p in
    let later = trees_acts p (n + 1) more in
    let l = length-grown H.kinds kind.Chars in (
      after-kind K later n kind.Chars (kind_new H kind.Chars n count),
      after-spares K (place (cell n) s.Chars) later (trees_spare more p (n + 1) (place (cell n) s.Chars) once (omega arith)) ∙ put_at-same G.at (place (cell n) s.Chars) (a.One (v.Str units)),
      trees_planted more K p (n + 1) once (omega arith) (text_fresh H n units p fresh),
    )
trees_planted (element name attributes children more) H p n once count fresh =
    let k = kind.Element name in
    let G = with_node H n k p in
    let own = attribute_acts (cell n) attributes in
    let E = with_element H n name attributes p in
    let inner = trees_acts (cell n) (n + 1) children in
    let I = after E inner in
    let list = children_acts (cell n) (root_names (n + 1) children) in
    let K = with_inner E n children in
    let m = n + 1 + node_count children in
    let later = trees_acts p m more in
    let l = length-grown H.kinds k in
    let made = ap (λ (ks : List CellKind). length ks) (element_kinds H n name attributes p) in
    let long = trees_length children E (cell n) (n + 1) once.1 in
    let same = ap (λ (ks : List CellKind). length ks) (children_length I (cell n) (root_names (n + 1) children)) in
    let leaf : children_at I (cell n) ≡ [] =
    ap cells_in (after-spares E (place (cell n) s.Children) inner (trees_spare children (cell n) (n + 1) (place (cell n) s.Children) once.1 (omega arith))
    ∙ (after-spares G (place (cell n) s.Children) own (attributes_spare (cell n) (cell n) s.Children attributes (λ e. cc) (λ e. cc))
    ∙ node_absent H n k p s.Children fresh (λ e. cc) (λ e. cc))) in
    let kept : (slot : Slot) → slot_rank slot ≢ 6 → (after K later).at (place (cell n) slot) ≡ E.at (place (cell n) slot) =
    λ slot e. let q = place (cell n) slot in
    after-spares K q later (trees_spare more p m q once.2 (omega arith))
    ∙ (after-spares I q list (children_puts (λ r. q ≢ r) (cell n) (root_names (n + 1) children) (other_slot (cell n) (cell n) slot s.Children e))
    ∙ after-spares E q inner (trees_spare children (cell n) (n + 1) q once.1 (omega arith))) in
    let whole : IsPlanted (after K later) n (element name attributes children more) = (
      after-kind K later n k (after-kind I list n k (after-kind E inner n k (after-kind G own n k (kind_new H k n count)))),
      attributes_kept E (after K later) (cell n) (kept s.AttrNames (λ e. cc)) (λ attribute. kept (s.Attr attribute) (λ e. cc))
          ∙ attributes_put G (cell n) attributes once.0 (node_absent H n k p s.AttrNames fresh (λ e. cc) (λ e. cc)),
      ap cells_in (after-spares K (place (cell n) s.Children) later (trees_spare more p m (place (cell n) s.Children) once.2 (omega arith)))
          ∙ children_listed I (cell n) (root_names (n + 1) children) leaf,
      planted_kept children K (n + 1) later (inner_planted E n children (trees_planted children E (cell n) (n + 1) once.1 (omega arith) (element_fresh H n name attributes p fresh))) (later_beside more p (n + 1) m once.2),
      trees_planted more K p m once.2 (omega arith) (inner_fresh E n children once.1 (element_fresh H n name attributes p fresh)),
    ) in
    subst (λ (F : Heap). IsPlanted F n (element name attributes children more)) (sym (element_after H p n name attributes children more)) whole

-- ---- under the document

-- The trees stand under the document.
pub planted_holds : (codes : ℕ) (H : Heap) (trees : Trees) → IsSound codes H → children_at H document_cell ≡ [] → HaveNamesOnce trees → Holds (planted H trees) (served (planted H trees) document_cell) trees
planted_holds codes H trees sound empty once =
    let n = length H.kinds in
    let acts = trees_acts document_cell n trees in
    let list = children_acts document_cell (root_names n trees) in
    let many = count-start H.kinds sound.start in
    let G = after H acts in
    let K = after G list in
    let still : children_at G document_cell ≡ [] = ap cells_in (after-spares H (place document_cell s.Children) acts (trees_spare trees document_cell n (place document_cell s.Children) once (omega arith))) ∙ empty in
    let is : slice_get K.kinds 2 ≡ Some kind.Document = after-kind G list 2 kind.Document (after-kind H acts 2 kind.Document (kind-start H.kinds sound.start 2 kind.Document refl)) in
    let cells : served K document_cell ≡ root_names n trees =
    ap (λ (b : Bool). cond b (children_at K document_cell) (document_cell ∷ [])) (ap (λ o. is_document (or_plain o)) is)
    ∙ children_listed G document_cell (root_names n trees) still in
    let there : IsPlanted K n trees =
    planted_kept trees G n list (trees_planted trees H document_cell n once refl (λ q past. absent_past H sound.valid q past))
    (children_puts (IsBeside n (n + node_count trees)) document_cell (root_names n trees) (inl (omega arith))) in
    subst (λ (F : Heap). Holds F (served F document_cell) trees) (sym (after-append H acts list))
    (subst (λ (cs : List CellName). Holds K cs trees) (sym cells) (planted_held trees K n once there))

-- ---- sums

-- a slot that no act puts
not_put : (H : Heap) (acts : List Act) (n : CellName) (slot : Slot) → is_planted slot ≢ true → PutsIn (λ q. is_planted q.slot ≡ true) acts → (after H acts).at (place n slot) ≡ H.at (place n slot)
not_put H acts n slot not h =
    after-spares H (place n slot) acts (PutsIn-map (λ q. is_planted q.slot ≡ true) (λ q. place n slot ≢ q) (λ q is e. not (ap (λ (p : Place). is_planted p.slot) e ∙ is)) acts h)

-- The sums grow by the count of nodes.
pub planted_sums : (bound more : ℕ) (H : Heap) (trees : Trees) → HaveNamesOnce trees → node_count trees ≤ more → SumsWithin bound H → SumsWithin (bound + more) (planted H trees)
planted_sums bound more H trees once few h =
    let n = length H.kinds in
    let acts = trees_acts document_cell n trees in
    let list = children_acts document_cell (root_names n trees) in
    let G = after H acts in
    let K = planted H trees in
    let puts : PutsIn (λ q. is_planted q.slot ≡ true) (acts ++ list) =
    PutsIn-append (λ q. is_planted q.slot ≡ true) acts list
    (PutsIn-map (IsOf n (n + node_count trees)) (λ q. is_planted q.slot ≡ true) (λ q is. is.slot) acts (trees_puts trees document_cell n once))
    (children_puts (λ q. is_planted q.slot ≡ true) document_cell (root_names n trees) refl) in
    let whole = after-append H acts list in
    let long : length K.kinds ≡ n + node_count trees =
    ap (λ (F : Heap). length F.kinds) whole ∙ (ap (λ (ks : List CellKind). length ks) (children_length G document_cell (root_names n trees)) ∙ trees_length trees H document_cell n once) in
    let weight : weight_left K ≡ weight_left H =
    ap (λ (F : Heap). weight_left F) whole ∙ (children_weight G document_cell (root_names n trees) ∙ trees_weight trees H document_cell n once) in
    let wider = SumsWithin-more bound (bound + more) H (omega arith) h in
    record {
      count = let c = h.count in omega arith;
      heard = λ c. let P : Answer → ℕ → Type 0 = λ x w. next_heard x + w ≤ bound + more in
          subst (λ x. P x (weight_left K)) (sym (not_put H (acts ++ list) c s.Heard (λ e. cc) puts)) (subst (P (H.at (place c s.Heard))) (sym weight) (wider.heard c));
      timers = λ c. let P : Answer → ℕ → Type 0 = λ x w. (number_in x +ℤ pos w) ≤ℤ pos (bound + more) in
          subst (λ x. P x (weight_left K)) (sym (not_put H (acts ++ list) c s.NextTimer (λ e. cc) puts)) (subst (P (H.at (place c s.NextTimer))) (sym weight) (wider.timers c));
      guesses = λ c. let P : Answer → ℕ → Type 0 = λ x w. (number_in x +ℤ pos w) ≤ℤ pos (bound + more) in
          subst (λ x. P x (weight_left K)) (sym (not_put H (acts ++ list) c s.NextGuess (λ e. cc) puts)) (subst (P (H.at (place c s.NextGuess))) (sym weight) (wider.guesses c));
    }
