-- An attribute is added, changed or removed: the heap stays sound.
use Rattle.std.proofs.Common.{◌≡◌, ◌≢◌, ℕ, ◌+◌, List, [], ◌∷◌, ◌++◌, refl, ap, sym, ◌∙◌, subst, inl, inr, ◌⊎◌}
use Rattle.page_units.specs.declared.value.CellName.{CellName}
use Rattle.page_units.specs.declared.value.Value.TheVariants as v
use Rattle.cell_places.specs.declared.place.Place.{Place}
use Rattle.cell_places.specs.declared.place.Slot.{Slot}
use Rattle.cell_places.specs.declared.place.Slot.TheVariants as s
use Rattle.cell_places.specs.declared.answer.Answer.{Answer}
use Rattle.cell_places.specs.declared.answer.Answer.TheVariants as a
use Rattle.cell_places.specs.Lists.{Among, Distinct}
use Rattle.cell_places.specs.Places.{slot_rank}
use Rattle.cell_places.specs.Heap.{Heap, place, put_at, names_in, weight_left}
use Rattle.cell_places.specs.Valid.{CanPut, Stands}
use Rattle.cell_places.specs.Acts.{placed, moved}
use Rattle.cell_places.specs.Sound.{AttributesAreListed, AnswerIsSound}
use Rattle.cell_places.specs.Spare.{Spare}
use Rattle.cell_places.proofs.SamePlace.{put_at-same, put_at-other, put_at-each}
use Rattle.cell_places.proofs.Grown.{Stands-put}
use Rattle.cell_places.proofs.ListsKept.{name_cases, text_cases, IsWith, IsWithout, with_last}
use Rattle.cell_places.proofs.KeepsSound.{Keeps, AttributesAreListed-kept}
use Rattle.cell_places.proofs.Puts.{KeepsBut-put, PutsSound, stands_put, answers_put, lengths_kept, nodes_kept, page_kept, sums_kept}
use Rattle.cell_places.proofs.Spare.{parts_spare, spare_puts}

-- ---- what changes

-- one attribute of one cell, and perhaps the names of that cell's attributes
pub record AttributeIs (f g : Place → Answer) (n : CellName) (name : List ℕ) (x : Answer) (names : List (List ℕ)) : Type 0 where
  pub here : g (place n (s.Attr name)) ≡ x
  pub others : (other : List ℕ) → (other ≡ name → ⊥) → g (place n (s.Attr other)) ≡ f (place n (s.Attr other))
  pub listed : names_in (g (place n s.AttrNames)) ≡ names
  pub cells : (m : CellName) → (m ≡ n → ⊥) → (slot : Slot) → g (place m slot) ≡ f (place m slot)
  pub slots : (slot : Slot) → slot_rank slot ≢ 7 → slot_rank slot ≢ 8 → Keeps slot f g

other_attribute : (n m : CellName) (x y : List ℕ) → (y ≡ x → ⊥) → place n (s.Attr x) ≢ place m (s.Attr y)
other_attribute n m x y apart e =
    let slots : s.Attr x ≡ s.Attr y = ap (λ (p : Place). p.slot) e in
    let same : y ≡ x = cc in
    apart same

other_rank : (n m : CellName) (x y : Slot) → slot_rank x ≢ slot_rank y → place n x ≢ place m y
other_rank n m x y apart e = apart (ap (λ (p : Place). slot_rank p.slot) e)

other_name : (n m : CellName) (x y : Slot) → (m ≡ n → ⊥) → place n x ≢ place m y
other_name n m x y apart e = apart (sym (ap (λ (p : Place). p.cell) e))

-- the attribute alone
pub one_put : (f : Place → Answer) (n : CellName) (name : List ℕ) (x : Answer) → AttributeIs f (put_at f (place n (s.Attr name)) x) n name x (names_in (f (place n s.AttrNames)))
one_put f n name x =
    let p = place n (s.Attr name) in
    record {
      here = put_at-same f p x;
      others = λ other apart. put_at-other f p (place n (s.Attr other)) x (other_attribute n n name other apart);
      listed = ap names_in (put_at-other f p (place n s.AttrNames) x (other_rank n n (s.Attr name) s.AttrNames (λ e. cc)));
      cells = λ m apart slot. put_at-other f p (place m slot) x (other_name n m (s.Attr name) slot apart);
      slots = λ slot first second. KeepsBut-put f p x slot first;
    }

-- the attribute, and then the names
pub both_put : (f : Place → Answer) (n : CellName) (name : List ℕ) (x : Answer) (names : List (List ℕ)) → AttributeIs f (put_at (put_at f (place n (s.Attr name)) x) (place n s.AttrNames) (a.Names names)) n name x names
both_put f n name x names =
    let p = place n (s.Attr name) in
    let q = place n s.AttrNames in
    let y = a.Names names in
    let g : Place → Answer = put_at f p x in
    record {
      here = put_at-other g q p y (other_rank n n s.AttrNames (s.Attr name) (λ e. cc)) ∙ put_at-same f p x;
      others = λ other apart. put_at-other g q (place n (s.Attr other)) y (other_rank n n s.AttrNames (s.Attr other) (λ e. cc))
          ∙ put_at-other f p (place n (s.Attr other)) x (other_attribute n n name other apart);
      listed = ap names_in (put_at-same g q y);
      cells = λ m apart slot. put_at-other g q (place m slot) y (other_name n m s.AttrNames slot apart) ∙ put_at-other f p (place m slot) x (other_name n m (s.Attr name) slot apart);
      slots = λ slot first second m. KeepsBut-put g q y slot second m ∙ KeepsBut-put f p x slot first m;
    }

-- ---- attributes are listed then

there_by : (H : Heap) (g : Place → Answer) (n : CellName) (name : List ℕ) (x : Answer) (names : List (List ℕ)) (other : List ℕ) → AttributeIs H.at g n name x names
    → (other ≡ name → x ≢ a.Absent) → ((other ≡ name → ⊥) → H.at (place n (s.Attr other)) ≢ a.Absent) → (other ≡ name) ⊎ (other ≡ name → ⊥) → g (place n (s.Attr other)) ≢ a.Absent
there_by H g n name x names other is new old (inl e) none = new e (sym is.here ∙ ap (λ (t : List ℕ). g (place n (s.Attr t))) (sym e) ∙ none)
there_by H g n name x names other is new old (inr apart) none = old apart (sym (is.others other apart) ∙ none)

all_by : (H : Heap) (g : Place → Answer) (n : CellName) (name : List ℕ) (x : Answer) (names : List (List ℕ)) (other : List ℕ) → AttributeIs H.at g n name x names
    → (x ≢ a.Absent → Among name names) → ((other ≡ name → ⊥) → H.at (place n (s.Attr other)) ≢ a.Absent → Among other names) → (other ≡ name) ⊎ (other ≡ name → ⊥) → g (place n (s.Attr other)) ≢ a.Absent → Among other names
all_by H g n name x names other is new old (inl e) some =
    subst (λ (t : List ℕ). Among t names) (sym e) (new (λ none. some (ap (λ (t : List ℕ). g (place n (s.Attr t))) e ∙ (is.here ∙ none))))
all_by H g n name x names other is new old (inr apart) some = old apart (λ none. some (is.others other apart ∙ none))

-- names that are those of the attributes that stand then
pub record ListsThen (H : Heap) (n : CellName) (name : List ℕ) (x : Answer) (names : List (List ℕ)) : Type 0 where
  pub once : Distinct names
  pub new : Among name names → x ≢ a.Absent
  pub named : x ≢ a.Absent → Among name names
  pub old : (other : List ℕ) → (other ≡ name → ⊥) → Among other names → H.at (place n (s.Attr other)) ≢ a.Absent
  pub others : (other : List ℕ) → (other ≡ name → ⊥) → H.at (place n (s.Attr other)) ≢ a.Absent → Among other names

listed_here : (H : Heap) (g : Place → Answer) (n : CellName) (name : List ℕ) (x : Answer) (names : List (List ℕ)) → AttributeIs H.at g n name x names → ListsThen H n name x names → AttributesAreListed (record H { at = g }) n
listed_here H g n name x names is lists = record {
  once = subst Distinct (sym is.listed) lists.once;
  there = λ other among. let h = subst (Among other) is.listed among in
      there_by H g n name x names other is (λ e. lists.new (subst (λ (t : List ℕ). Among t names) e h)) (λ apart. lists.old other apart h) (text_cases other name);
  all = λ other some. subst (Among other) (sym is.listed) (all_by H g n name x names other is lists.named (lists.others other) (text_cases other name) some);
}

listed_by : (H : Heap) (g : Place → Answer) (n : CellName) (name : List ℕ) (x : Answer) (names : List (List ℕ)) (m : CellName) → AttributeIs H.at g n name x names → ListsThen H n name x names → AttributesAreListed H m → (m ≡ n) ⊎ (m ≡ n → ⊥) → AttributesAreListed (record H { at = g }) m
listed_by H g n name x names m is lists h (inl e) = subst (AttributesAreListed (record H { at = g })) (sym e) (listed_here H g n name x names is lists)
listed_by H g n name x names m is lists h (inr apart) =
    AttributesAreListed-kept H (record H { at = g }) m (is.cells m apart s.AttrNames) (λ other. is.cells m apart (s.Attr other)) h

-- ---- the heap stays sound

pub spare_attribute : (codes credit : ℕ) (H : Heap) (g : Place → Answer) (n : CellName) (name : List ℕ) (x : Answer) (names : List (List ℕ)) → Spare codes credit H → AttributeIs H.at g n name x names → ListsThen H n name x names
    → PutsSound (weight_left H + credit) H → ((p : Place) → Stands H.kinds p (g p)) → ((p : Place) → AnswerIsSound H.kinds (g p)) → Spare codes credit (record H { at = g })
spare_attribute codes credit H g n name x names spare is lists parts places answers =
    let weight = weight_left H + credit in
    let keep = is.slots in
    spare_puts codes credit credit H g spare (record {
      places = places;
      answers = answers;
      lengths = lengths_kept weight H g parts (keep s.Length (λ e. cc) (λ e. cc));
      attributes = λ m. listed_by H g n name x names m is lists (parts.attributes m) (name_cases m n);
      nodes = nodes_kept weight H g parts (keep s.Parent (λ e. cc) (λ e. cc)) (keep s.Children (λ e. cc) (λ e. cc));
      page = page_kept weight H g parts (record {
        clock = keep s.Clock (λ e. cc) (λ e. cc);
        next_timer = keep s.NextTimer (λ e. cc) (λ e. cc);
        timers = keep s.Timers (λ e. cc) (λ e. cc);
        next_guess = keep s.NextGuess (λ e. cc) (λ e. cc);
        guesses = keep s.Guesses (λ e. cc) (λ e. cc);
      });
      sums = sums_kept weight H g parts (keep s.Heard (λ e. cc) (λ e. cc)) (keep s.NextTimer (λ e. cc) (λ e. cc)) (keep s.NextGuess (λ e. cc) (λ e. cc));
    })

-- an attribute that is there gets another value
pub spare_attribute_changed : (codes credit : ℕ) (H : Heap) (n : CellName) (name units : List ℕ) → Spare codes credit H → H.at (place n (s.Attr name)) ≢ a.Absent → CanPut H (place n (s.Attr name)) (a.One (v.Str units))
    → Spare codes credit (moved H (placed (place n (s.Attr name)) (a.One (v.Str units))))
spare_attribute_changed codes credit H n name units spare there can =
    let x = a.One (v.Str units) in
    let p = place n (s.Attr name) in
    let weight = weight_left H + credit in
    let parts = parts_spare codes credit H spare in
    let listed = parts.attributes n in
    spare_attribute codes credit H (put_at H.at p x) n name x (names_in (H.at (place n s.AttrNames))) spare (one_put H.at n name x)
    (record {
      once = listed.once;
      new = λ among e. cc;
      named = λ some. listed.all name there;
      old = λ other apart among. listed.there other among;
      others = λ other apart some. listed.all other some;
    })
    parts (stands_put weight H p x parts can) (answers_put weight H p x parts tt)

-- both puts
pub spare_attribute_listed : (codes credit : ℕ) (H : Heap) (n : CellName) (name : List ℕ) (x : Answer) (names : List (List ℕ)) → Spare codes credit H → ListsThen H n name x names
    → CanPut H (place n (s.Attr name)) x → AnswerIsSound H.kinds x → CanPut H (place n s.AttrNames) (a.Names names)
    → Spare codes credit (moved (moved H (placed (place n (s.Attr name)) x)) (placed (place n s.AttrNames) (a.Names names)))
spare_attribute_listed codes credit H n name x names spare lists can sound can_names =
    let p = place n (s.Attr name) in
    let q = place n s.AttrNames in
    let y = a.Names names in
    let weight = weight_left H + credit in
    let f : Place → Answer = put_at H.at p x in
    let parts = parts_spare codes credit H spare in
    spare_attribute codes credit H (put_at f q y) n name x names spare (both_put H.at n name x names) lists parts
    (put_at-each (Stands H.kinds) f q y (stands_put weight H p x parts can) (Stands-put H.kinds q y can_names))
    (put_at-each (λ r. AnswerIsSound H.kinds) f q y (answers_put weight H p x parts sound) tt)

-- a new attribute, whose name comes behind the others
pub spare_attribute_added : (codes credit : ℕ) (H : Heap) (n : CellName) (name units : List ℕ) → Spare codes credit H → H.at (place n (s.Attr name)) ≡ a.Absent → CanPut H (place n (s.Attr name)) (a.One (v.Str units))
    → CanPut H (place n s.AttrNames) (a.Names (names_in (H.at (place n s.AttrNames)) ++ name ∷ []))
    → Spare codes credit (moved (moved H (placed (place n (s.Attr name)) (a.One (v.Str units)))) (placed (place n s.AttrNames) (a.Names (names_in (H.at (place n s.AttrNames)) ++ name ∷ []))))
spare_attribute_added codes credit H n name units spare none can can_names =
    let old = names_in (H.at (place n s.AttrNames)) in
    let listed = spare.sound.attributes n in
    let more : IsWith name old (old ++ name ∷ []) = with_last old name listed.once (λ among. listed.there name among none) in
    spare_attribute_listed codes credit H n name (a.One (v.Str units)) (old ++ name ∷ []) spare
    (record {
      once = more.once;
      new = λ among e. cc;
      named = λ some. more.new;
      old = λ other apart among. elim (more.cases other among) [ inl e ↦ absurd (apart (sym e)) | inr k ↦ listed.there other k ];
      others = λ other apart some. more.old other (listed.all other some);
    })
    can tt can_names

-- an attribute and its name are taken away
pub spare_attribute_removed : (codes credit : ℕ) (H : Heap) (n : CellName) (name : List ℕ) (names : List (List ℕ)) → Spare codes credit H → IsWithout name (names_in (H.at (place n s.AttrNames))) names
    → CanPut H (place n (s.Attr name)) a.Absent → CanPut H (place n s.AttrNames) (a.Names names)
    → Spare codes credit (moved (moved H (placed (place n (s.Attr name)) a.Absent)) (placed (place n s.AttrNames) (a.Names names)))
spare_attribute_removed codes credit H n name names spare less can can_names =
    let listed = spare.sound.attributes n in
    spare_attribute_listed codes credit H n name a.Absent names spare
    (record {
      once = less.once;
      new = λ among e. (less.kept name among).1 refl;
      named = λ some. absurd (some refl);
      old = λ other apart among. listed.there other (less.kept other among).0;
      others = λ other apart some. less.left other (listed.all other some) apart;
    })
    can tt can_names
