-- What putting an element's attributes leaves: they stand there, and a sound heap stays sound.
use Rattle.std.proofs.Common.{◌≡◌, ◌≢◌, ℕ, ◌+ℤ◌, ◌≤ℤ◌, pos, ◌+◌, ◌≤◌, List, [], ◌∷◌, map, refl, ap, sym, ◌∙◌, subst, inl, inr, ◌⊎◌}
use Rattle.std.proofs.lemmas.Bool.{cases_eq}
use Rattle.page_units.specs.declared.value.CellName.{CellName}
use Rattle.page_units.specs.declared.value.Value.TheVariants as v
use Rattle.cell_places.specs.declared.place.Place.{Place}
use Rattle.cell_places.specs.declared.place.Slot.{Slot}
use Rattle.cell_places.specs.declared.place.Slot.TheVariants as s
use Rattle.cell_places.specs.declared.answer.Answer.{Answer}
use Rattle.cell_places.specs.declared.answer.Answer.TheVariants as a
use Rattle.cell_places.specs.Lists.{Every, Among, Distinct}
use Rattle.cell_places.specs.Places.{slot_rank}
use Rattle.cell_places.specs.Heap.{Heap, place, weight_left, names_in, text_in, number_in, next_heard}
use Rattle.cell_places.specs.Acts.{Act, placed, moved, after}
use Rattle.cell_places.specs.Valid.{CanAskIn, Stands}
use Rattle.cell_places.specs.Start.{page_cell}
use Rattle.cell_places.specs.Sound.{AnswerIsSound, IdsBelow, AttributesAreListed, LengthFits, IsSound}
use Rattle.cell_places.proofs.SamePlace.{put_at-same, put_at-each}
use Rattle.cell_places.proofs.Grown.{Every-map, Stands-put}
use Rattle.cell_places.proofs.KeepsSound.{NodesAreTrees-kept}
use Rattle.cell_places.proofs.NextChild.{other_slot, other_cell}
use Rattle.cell_places.proofs.Spared.{PutsIn, PutsIn-append, Spares, after-append, after-spares}
use Rattle.tree_shape.specs.Trees.{Attribute}
use Rattle.tree_shape.specs.Holds.{attribute_at, attributes_at}
use Rattle.page_reader.specs.Planting.{name_acts, attribute_acts}

-- the value of an attribute is put
abbrev pub value_act : CellName → Attribute → Act
value_act n x = placed (place n (s.Attr x.0)) (a.One (v.Str x.1))

-- the values alone
abbrev pub value_acts : CellName → List Attribute → List Act
value_acts n attributes = map (value_act n) attributes

abbrev pub names_of : List Attribute → List (List ℕ)
names_of attributes = map (λ (a : Attribute). a.0) attributes

-- ---- where they are put

values_puts : (D : Place → Type 0) (n : CellName) (xs : List Attribute) → Every (λ (x : Attribute). D (place n (s.Attr x.0))) xs → PutsIn D (value_acts n xs)
values_puts D n [] h = tt
values_puts D n (x ∷ xs) h = (h.0, values_puts D n xs h.1)

names_puts : (D : Place → Type 0) (n : CellName) (names : List (List ℕ)) → D (place n s.AttrNames) → PutsIn D (name_acts n names)
names_puts D n [] h = tt
names_puts D n (x ∷ xs) h = (h, tt)

every_all : {X : Type 0} (P : X → Type 0) → ((x : X) → P x) → (xs : List X) → Every P xs
every_all P h [] = tt
every_all P h (x ∷ xs) = (h x, every_all P h xs)

-- attributes are put at two slots of one cell
pub attributes_puts : (D : Place → Type 0) (n : CellName) (xs : List Attribute) → ((name : List ℕ) → D (place n (s.Attr name))) → D (place n s.AttrNames) → PutsIn D (attribute_acts n xs)
attributes_puts D n xs h k =
    PutsIn-append D (value_acts n xs) (name_acts n (names_of xs)) (values_puts D n xs (every_all _ (λ x. h x.0) xs)) (names_puts D n (names_of xs) k)

-- so every other slot is spared
pub attributes_spare : (n m : CellName) (slot : Slot) (xs : List Attribute) → slot_rank slot ≢ 7 → slot_rank slot ≢ 8 → Spares (place m slot) (attribute_acts n xs)
attributes_spare n m slot xs e f = attributes_puts (λ q. place m slot ≢ q) n xs (λ name. other_slot m n slot (s.Attr name) e) (other_slot m n slot s.AttrNames f)

-- and every other cell
pub attributes_spare_cell : (n m : CellName) (slot : Slot) (xs : List Attribute) → (m ≡ n → ⊥) → Spares (place m slot) (attribute_acts n xs)
attributes_spare_cell n m slot xs apart = attributes_puts (λ q. place m slot ≢ q) n xs (λ name. other_cell m n slot (s.Attr name) apart) (other_cell m n slot s.AttrNames apart)

-- ---- no more than the answers change

values_heap : (H : Heap) (n : CellName) (xs : List Attribute) → after H (value_acts n xs) ≡ record H { at = (after H (value_acts n xs)).at }
values_heap H n [] = refl
values_heap H n (x ∷ xs) = values_heap (moved H (value_act n x)) n xs

names_heap : (H : Heap) (n : CellName) (names : List (List ℕ)) → after H (name_acts n names) ≡ record H { at = (after H (name_acts n names)).at }
names_heap H n [] = refl
names_heap H n (x ∷ xs) = refl

pub attributes_heap : (H : Heap) (n : CellName) (xs : List Attribute) → after H (attribute_acts n xs) ≡ record H { at = (after H (attribute_acts n xs)).at }
attributes_heap H n xs =
    let G = after H (value_acts n xs) in
    let e = after-append H (value_acts n xs) (name_acts n (names_of xs)) in
    let whole : after G (name_acts n (names_of xs)) ≡ record H { at = (after G (name_acts n (names_of xs))).at } =
    names_heap G n (names_of xs) ∙ ap (λ (K : Heap). record K { at = (after G (name_acts n (names_of xs))).at }) (values_heap H n xs) in
    e ∙ (whole ∙ ap (λ (K : Heap). record H { at = K.at }) (sym e))

-- what holds of each answer, and of the puts, holds then
values_each : (P : Place → Answer → Type 0) (H : Heap) (n : CellName) (xs : List Attribute) → ((q : Place) → P q (H.at q)) → Every (λ (x : Attribute). P (place n (s.Attr x.0)) (a.One (v.Str x.1))) xs
    → (q : Place) → P q ((after H (value_acts n xs)).at q)
values_each P H n [] h k q = h q
values_each P H n (x ∷ xs) h k q = values_each P (moved H (value_act n x)) n xs (put_at-each P H.at (place n (s.Attr x.0)) (a.One (v.Str x.1)) h k.0) k.1 q

names_each : (P : Place → Answer → Type 0) (H : Heap) (n : CellName) (names : List (List ℕ)) → ((q : Place) → P q (H.at q)) → P (place n s.AttrNames) (a.Names names) → (q : Place) → P q ((after H (name_acts n names)).at q)
names_each P H n [] h k q = h q
names_each P H n (x ∷ xs) h k q = put_at-each P H.at (place n s.AttrNames) (a.Names (x ∷ xs)) h k q

pub attributes_each : (P : Place → Answer → Type 0) (H : Heap) (n : CellName) (xs : List Attribute) → ((q : Place) → P q (H.at q)) → Every (λ (x : Attribute). P (place n (s.Attr x.0)) (a.One (v.Str x.1))) xs
    → P (place n s.AttrNames) (a.Names (names_of xs)) → (q : Place) → P q ((after H (attribute_acts n xs)).at q)
attributes_each P H n xs h each all q =
    subst (λ (K : Heap). P q (K.at q)) (sym (after-append H (value_acts n xs) (name_acts n (names_of xs))))
    (names_each P (after H (value_acts n xs)) n (names_of xs) (values_each P H n xs h each) all q)

-- ---- what stands then

-- the values stand at their places
abbrev Carries : (Place → Answer) → CellName → List Attribute → Type 0
Carries f n xs = Every (λ (x : Attribute). f (place n (s.Attr x.0)) ≡ a.One (v.Str x.1)) xs

another_name : (n : CellName) (x y : List ℕ) → (y ≡ x → ⊥) → place n (s.Attr x) ≢ place n (s.Attr y)
another_name n x y apart e =
    let slots : s.Attr x ≡ s.Attr y = ap (λ (p : Place). p.slot) e in
    let same : y ≡ x = cc in
    apart same

values_spare : (n : CellName) (name : List ℕ) (xs : List Attribute) → (Among name (names_of xs) → ⊥) → Spares (place n (s.Attr name)) (value_acts n xs)
values_spare n name [] new = tt
values_spare n name (x ∷ xs) new = (another_name n name x.0 (λ e. new (inl e)), values_spare n name xs (λ h. new (inr h)))

values_stand : (H : Heap) (n : CellName) (xs : List Attribute) → Distinct (names_of xs) → Carries (after H (value_acts n xs)).at n xs
values_stand H n [] once = tt
values_stand H n (x ∷ xs) once =
    let K = moved H (value_act n x) in
    (after-spares K (place n (s.Attr x.0)) (value_acts n xs) (values_spare n x.0 xs once.0) ∙ put_at-same H.at (place n (s.Attr x.0)) (a.One (v.Str x.1)), values_stand K n xs once.1)

names_spare : (n : CellName) (name : List ℕ) (names : List (List ℕ)) → Spares (place n (s.Attr name)) (name_acts n names)
names_spare n name names = names_puts (λ q. place n (s.Attr name) ≢ q) n names (other_slot n n (s.Attr name) s.AttrNames (λ e. cc))

carries_kept : (f g : Place → Answer) (n : CellName) (xs : List Attribute) → ((name : List ℕ) → g (place n (s.Attr name)) ≡ f (place n (s.Attr name))) → Carries f n xs → Carries g n xs
carries_kept f g n xs same h = Every-map _ _ (λ (x : Attribute) e. same x.0 ∙ e) xs h

pub attributes_stand : (H : Heap) (n : CellName) (xs : List Attribute) → Distinct (names_of xs) → Carries (after H (attribute_acts n xs)).at n xs
attributes_stand H n xs once =
    let G = after H (value_acts n xs) in
    carries_kept G.at (after H (attribute_acts n xs)).at n xs
    (λ name. ap (λ (K : Heap). K.at (place n (s.Attr name))) (after-append H (value_acts n xs) (name_acts n (names_of xs))) ∙ after-spares G (place n (s.Attr name)) (name_acts n (names_of xs)) (names_spare n name (names_of xs)))
    (values_stand H n xs once)

names_listed : (H : Heap) (n : CellName) (names : List (List ℕ)) → H.at (place n s.AttrNames) ≡ a.Absent → names_in ((after H (name_acts n names)).at (place n s.AttrNames)) ≡ names
names_listed H n [] e = ap names_in e
names_listed H n (x ∷ xs) e = ap names_in (put_at-same H.at (place n s.AttrNames) (a.Names (x ∷ xs)))

-- the names stand in order
pub attributes_listed : (H : Heap) (n : CellName) (xs : List Attribute) → H.at (place n s.AttrNames) ≡ a.Absent → names_in ((after H (attribute_acts n xs)).at (place n s.AttrNames)) ≡ names_of xs
attributes_listed H n xs e =
    let G = after H (value_acts n xs) in
    let spared : Spares (place n s.AttrNames) (value_acts n xs) = values_puts (λ q. place n s.AttrNames ≢ q) n xs (every_all _ (λ (x : Attribute). other_slot n n s.AttrNames (s.Attr x.0) (λ f. cc)) xs) in
    ap (λ (K : Heap). names_in (K.at (place n s.AttrNames))) (after-append H (value_acts n xs) (name_acts n (names_of xs)))
    ∙ names_listed G n (names_of xs) (after-spares H (place n s.AttrNames) (value_acts n xs) spared ∙ e)

read_back : (H : Heap) (n : CellName) (xs : List Attribute) → Carries H.at n xs → map (attribute_at H n) (names_of xs) ≡ xs
read_back H n [] h = refl
read_back H n (x ∷ xs) h = λ i. (x.0, text_in (h.0 i)) ∷ read_back H n xs h.1 i

-- the attributes are those that were put
pub attributes_put : (H : Heap) (n : CellName) (xs : List Attribute) → Distinct (names_of xs) → H.at (place n s.AttrNames) ≡ a.Absent → attributes_at (after H (attribute_acts n xs)) n ≡ xs
attributes_put H n xs once e =
    let K = after H (attribute_acts n xs) in
    ap (map (attribute_at K n)) (attributes_listed H n xs e) ∙ read_back K n xs (attributes_stand H n xs once)

-- ---- the heap stays sound

-- an element without attributes, and attributes with a name each
pub record CanAttribute (H : Heap) (n : CellName) (xs : List Attribute) : Type 0 where
  pub element : CanAskIn H.kinds (place n s.AttrNames)
  pub once : Distinct (names_of xs)
  pub bare : (name : List ℕ) → H.at (place n (s.Attr name)) ≡ a.Absent
  pub unnamed : H.at (place n s.AttrNames) ≡ a.Absent

among_them : (xs : List Attribute) → Every (λ (x : Attribute). Among x.0 (names_of xs)) xs
among_them [] = tt
among_them (x ∷ xs) = (inl refl, Every-map _ _ (λ (y : Attribute) h. inr h) xs (among_them xs))

stands_there : (f : Place → Answer) (n : CellName) (xs : List Attribute) (name : List ℕ) → Carries f n xs → Among name (names_of xs) → f (place n (s.Attr name)) ≢ a.Absent
stands_there f n [] name h among none = among
stands_there f n (x ∷ xs) name h (inl e) none =
    let some : f (place n (s.Attr name)) ≡ a.One (v.Str x.1) = ap (λ (m : List ℕ). f (place n (s.Attr m))) (sym e) ∙ h.0 in
    cc
stands_there f n (x ∷ xs) name h (inr among) none = stands_there f n xs name h.1 among none

-- what stands at an attribute's place was put
abbrev AreNamed : CellName → List Attribute → Place → Answer → Type 0
AreNamed n xs q x = (name : List ℕ) → q ≡ place n (s.Attr name) → x ≢ a.Absent → Among name (names_of xs)

new_listed : (H : Heap) (n : CellName) (xs : List Attribute) → CanAttribute H n xs → AttributesAreListed (after H (attribute_acts n xs)) n
new_listed H n xs can =
    let K = after H (attribute_acts n xs) in
    let names = attributes_listed H n xs can.unnamed in
    let put : (x : Attribute) → Among x.0 (names_of xs) → AreNamed n xs (place n (s.Attr x.0)) (a.One (v.Str x.1)) =
    λ x among name e some.
    let slots : s.Attr x.0 ≡ s.Attr name = ap (λ (p : Place). p.slot) e in
    let same : x.0 ≡ name = cc in
    subst (λ (m : List ℕ). Among m (names_of xs)) same among in
    let named : (q : Place) → AreNamed n xs q (K.at q) =
    attributes_each (AreNamed n xs) H n xs
    (λ q name e some. absurd (some (ap H.at e ∙ can.bare name)))
    (Every-map (λ (x : Attribute). Among x.0 (names_of xs)) (λ (x : Attribute). AreNamed n xs (place n (s.Attr x.0)) (a.One (v.Str x.1))) put xs (among_them xs))
    (λ name e some. let rank = ap (λ (p : Place). slot_rank p.slot) e in absurd (cc)) in
    record {
      once = subst Distinct (sym names) can.once;
      there = λ name among. stands_there K.at n xs name (attributes_stand H n xs can.once) (subst (Among name) names among);
      all = λ name some. subst (Among name) (sym names) (named (place n (s.Attr name)) name refl some);
    }

old_listed : (H : Heap) (n m : CellName) (xs : List Attribute) → (m ≡ n → ⊥) → AttributesAreListed H m → AttributesAreListed (after H (attribute_acts n xs)) m
old_listed H n m xs apart h =
    let same : (slot : Slot) → (after H (attribute_acts n xs)).at (place m slot) ≡ H.at (place m slot) = λ slot. after-spares H (place m slot) (attribute_acts n xs) (attributes_spare_cell n m slot xs apart) in
    record {
      once = subst Distinct (sym (ap names_in (same s.AttrNames))) h.once;
      there = λ name among none. h.there name (subst (Among name) (ap names_in (same s.AttrNames)) among) (sym (same (s.Attr name)) ∙ none);
      all = λ name some. subst (Among name) (sym (ap names_in (same s.AttrNames))) (h.all name (λ none. some (same (s.Attr name) ∙ none)));
    }

listed_by : (H : Heap) (n m : CellName) (xs : List Attribute) → CanAttribute H n xs → AttributesAreListed H m → (m ≡ n) ⊎ (m ≡ n → ⊥) → AttributesAreListed (after H (attribute_acts n xs)) m
listed_by H n m xs can h (inl e) = subst (AttributesAreListed (after H (attribute_acts n xs))) (sym e) (new_listed H n xs can)
listed_by H n m xs can h (inr apart) = old_listed H n m xs apart h

same_or_not : (n m : CellName) → (n.0 ≡ m.0) ⊎ (n.0 ≡ m.0 → ⊥) → (n ≡ m) ⊎ (n ≡ m → ⊥)
same_or_not n m (inl e) = inl (λ i. record { 0 = e i })
same_or_not n m (inr e) = inr (λ h. e (ap (λ (x : CellName). x.0) h))

ids_kept : (x y k l : Answer) → y ≡ x → l ≡ k → IdsBelow (number_in x) k → IdsBelow (number_in y) l
ids_kept x y k l e f h =
    let P : Answer → Type 0 = λ z. IdsBelow (number_in z) l in
    subst P (sym e) (subst (IdsBelow (number_in x)) (sym f) h)

-- attributes that are put at a new element keep a sound heap sound
pub attributes_sound : (codes : ℕ) (H : Heap) (n : CellName) (xs : List Attribute) → IsSound codes H → CanAttribute H n xs → IsSound codes (after H (attribute_acts n xs))
attributes_sound codes H n xs sound can =
    let g : Place → Answer = (after H (attribute_acts n xs)).at in
    let K : Heap = record H { at = g } in
    let whole = attributes_heap H n xs in
    let same : (slot : Slot) → slot_rank slot ≢ 7 → slot_rank slot ≢ 8 → (m : CellName) → g (place m slot) ≡ H.at (place m slot) =
    λ slot e f m. after-spares H (place m slot) (attribute_acts n xs) (attributes_spare n m slot xs e f) in
    let clock = sound.page.clock in
    let sums = sound.sums in
    let there = can.element in
    let is : IsSound codes K = record {
      valid = record {
        places = attributes_each (Stands H.kinds) H n xs sound.valid.places
            (every_all _ (λ (x : Attribute). Stands-put H.kinds (place n (s.Attr x.0)) (a.One (v.Str x.1)) (record { there = there; suits = refl; names = tt; numbers = tt })) xs)
            (Stands-put H.kinds (place n s.AttrNames) (a.Names (names_of xs)) (record { there = there; suits = refl; names = tt; numbers = tt }));
        kinds = sound.valid.kinds;
        count = sound.valid.count;
        spent = sound.valid.spent;
      };
      start = sound.start;
      kinds = sound.kinds;
      answers = attributes_each (λ q. AnswerIsSound H.kinds) H n xs sound.answers (every_all _ (λ (x : Attribute). tt) xs) tt;
      lengths = λ m. subst LengthFits (sym (same s.Length (λ e. cc) (λ e. cc) m)) (sound.lengths m);
      attributes = λ m. subst (λ (F : Heap). AttributesAreListed F m) whole (listed_by H n m xs can (sound.attributes m) (same_or_not m n (cases_eq m.0 n.0)));
      nodes = NodesAreTrees-kept H K (same s.Parent (λ e. cc) (λ e. cc)) (same s.Children (λ e. cc) (λ e. cc)) (λ m h. h) sound.nodes;
      page = record {
        clock = (clock.0, same s.Clock (λ e. cc) (λ e. cc) page_cell ∙ clock.1, clock.2, clock.3);
        timers = λ m. ids_kept _ _ _ _ (same s.NextTimer (λ e. cc) (λ e. cc) m) (same s.Timers (λ e. cc) (λ e. cc) m) (sound.page.timers m);
        guesses = λ m. ids_kept _ _ _ _ (same s.NextGuess (λ e. cc) (λ e. cc) m) (same s.Guesses (λ e. cc) (λ e. cc) m) (sound.page.guesses m);
      };
      sums = record {
        count = sums.count;
        heard = λ m. let P : Answer → Type 0 = λ x. next_heard x + weight_left H ≤ 3999999999 in subst P (sym (same s.Heard (λ e. cc) (λ e. cc) m)) (sums.heard m);
        timers = λ m. let P : Answer → Type 0 = λ x. (number_in x +ℤ pos (weight_left H)) ≤ℤ pos 3999999999 in subst P (sym (same s.NextTimer (λ e. cc) (λ e. cc) m)) (sums.timers m);
        guesses = λ m. let P : Answer → Type 0 = λ x. (number_in x +ℤ pos (weight_left H)) ≤ℤ pos 3999999999 in subst P (sym (same s.NextGuess (λ e. cc) (λ e. cc) m)) (sums.guesses m);
      };
    } in
    subst (IsSound codes) (sym whole) is
