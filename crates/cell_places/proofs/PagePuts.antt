-- The next id of the page's timers or guesses is put, and the list of those that have ids, in either order.
use Rattle.std.proofs.Common.{◌≡◌, ◌≢◌, ℕ, ◌+◌, ◌<◌, ◌≤◌, pos, ◌+ℤ◌, ◌≤ℤ◌, List, Bool, true, false, refl, ap, sym, ◌∙◌, subst, inl, inr, ◌⊎◌, arith}
use Rattle.page_units.specs.Numbers.{IsNumber}
use Rattle.page_units.specs.declared.value.CellName.{CellName}
use Rattle.page_units.specs.declared.value.Value.TheVariants as v
use Rattle.cell_places.specs.declared.place.Place.{Place}
use Rattle.cell_places.specs.declared.place.Slot.{Slot}
use Rattle.cell_places.specs.declared.place.Slot.TheVariants as s
use Rattle.cell_places.specs.declared.answer.Answer.{Answer}
use Rattle.cell_places.specs.declared.answer.Answer.TheVariants as a
use Rattle.cell_places.specs.declared.kind.CellKind.{CellKind}
use Rattle.cell_places.specs.declared.kind.CellKind.TheVariants as kind
use Rattle.cell_places.specs.Places.{slot_rank}
use Rattle.cell_places.specs.Heap.{Heap, place, put_at, same_place, weight_left, number_in, next_heard}
use Rattle.cell_places.specs.Valid.{Stands}
use Rattle.cell_places.specs.Known.{page_cell}
use Rattle.cell_places.specs.Sound.{AnswerIsSound, IdsBelow, IsSound}
use Rattle.cell_places.specs.Spare.{Spare}
use Rattle.cell_places.proofs.SamePlace.{one_place, same_self, put_at-same, put_at-other}
use Rattle.cell_places.proofs.ListsKept.{name_cases}
use Rattle.cell_places.proofs.Grown.{kind-start}
use Rattle.cell_places.proofs.CanPuts.{HasPage}
use Rattle.cell_places.proofs.KeepsSound.{Keeps}
use Rattle.cell_places.proofs.Puts.{lengths_kept, attributes_kept, nodes_kept}
use Rattle.cell_places.proofs.Spare.{parts_spare, spare_less, spare_puts}

cases_of : (p q : Place) (b : Bool) → same_place p q ≡ b → (p ≡ q) ⊎ (p ≢ q)
cases_of p q true e = inl (one_place p q e)
cases_of p q false e = inr (λ (same : p ≡ q). let h : same_place p q ≡ true = ap (same_place p) (sym same) ∙ same_self p in cc)

-- two places are the same, or aren't
place_cases : (p q : Place) → (p ≡ q) ⊎ (p ≢ q)
place_cases p q = cases_of p q (same_place p q) refl

-- ---- two places of the page

-- g is f, but x at the next id and y at the list
pub record IdsPut (f g : Place → Answer) (next list : Slot) (x y : Answer) : Type 0 where
  pub number : g (place page_cell next) ≡ x
  pub listed : g (place page_cell list) ≡ y
  pub others : (p : Place) → place page_cell next ≢ p → place page_cell list ≢ p → g p ≡ f p

other_rank : (n m : CellName) (slot other : Slot) → slot_rank slot ≢ slot_rank other → place n slot ≢ place m other
other_rank n m slot other apart e = apart (ap (λ (p : Place). slot_rank p.slot) e)

pub number_first : (f : Place → Answer) (next list : Slot) (x y : Answer) → slot_rank next ≢ slot_rank list → IdsPut f (put_at (put_at f (place page_cell next) x) (place page_cell list) y) next list x y
number_first f next list x y apart =
    let p = place page_cell next in
    let q = place page_cell list in
    let g : Place → Answer = put_at f p x in
    record {
      number = put_at-other g q p y (other_rank page_cell page_cell list next (λ e. apart (sym e))) ∙ put_at-same f p x;
      listed = put_at-same g q y;
      others = λ r first second. put_at-other g q r y second ∙ put_at-other f p r x first;
    }

pub list_first : (f : Place → Answer) (next list : Slot) (x y : Answer) → slot_rank next ≢ slot_rank list → IdsPut f (put_at (put_at f (place page_cell list) y) (place page_cell next) x) next list x y
list_first f next list x y apart =
    let p = place page_cell next in
    let q = place page_cell list in
    let g : Place → Answer = put_at f q y in
    record {
      number = put_at-same g p x;
      listed = put_at-other g p q x (other_rank page_cell page_cell next list apart) ∙ put_at-same f q y;
      others = λ r first second. put_at-other g p r x first ∙ put_at-other f q r y second;
    }

pub list_alone : (f : Place → Answer) (next list : Slot) (y : Answer) → slot_rank next ≢ slot_rank list → IdsPut f (put_at f (place page_cell list) y) next list (f (place page_cell next)) y
list_alone f next list y apart =
    let q = place page_cell list in
    record {
      number = put_at-other f q (place page_cell next) y (other_rank page_cell page_cell list next (λ e. apart (sym e)));
      listed = put_at-same f q y;
      others = λ r first second. put_at-other f q r y second;
    }

each_by : (P : Place → Answer → Type 0) (f g : Place → Answer) (next list : Slot) (x y : Answer) (r : Place) → IdsPut f g next list x y → P (place page_cell next) x → P (place page_cell list) y → P r (f r)
    → (place page_cell next ≡ r) ⊎ (place page_cell next ≢ r) → (place page_cell list ≡ r) ⊎ (place page_cell list ≢ r) → P r (g r)
each_by P f g next list x y r is one two old (inl e) other = subst (λ (p : Place). P p (g p)) e (subst (P (place page_cell next)) (sym is.number) one)
each_by P f g next list x y r is one two old (inr apart) (inl e) = subst (λ (p : Place). P p (g p)) e (subst (P (place page_cell list)) (sym is.listed) two)
each_by P f g next list x y r is one two old (inr apart) (inr away) = subst (P r) (sym (is.others r apart away)) old

-- what holds of the two, and of each other place, holds of each
each : (P : Place → Answer → Type 0) (f g : Place → Answer) (next list : Slot) (x y : Answer) → IdsPut f g next list x y → P (place page_cell next) x → P (place page_cell list) y → ((r : Place) → P r (f r)) → (r : Place) → P r (g r)
each P f g next list x y is one two old r = each_by P f g next list x y r is one two (old r) (place_cases (place page_cell next) r) (place_cases (place page_cell list) r)

-- each slot of another rank stays
pub other_slots : (f g : Place → Answer) (next list : Slot) (x y : Answer) → IdsPut f g next list x y → (slot : Slot) → slot_rank next ≢ slot_rank slot → slot_rank list ≢ slot_rank slot → Keeps slot f g
other_slots f g next list x y is slot first second m =
    is.others (place m slot) (other_rank page_cell m next slot first) (other_rank page_cell m list slot second)

other_cell : (n m : CellName) (slot other : Slot) → (n ≡ m → ⊥) → place n slot ≢ place m other
other_cell n m slot other apart e = apart (ap (λ (p : Place). p.cell) e)

pair_by : (R : Answer → Answer → Type 0) (f g : Place → Answer) (next list : Slot) (x y : Answer) (m : CellName) → IdsPut f g next list x y → R x y → R (f (place m next)) (f (place m list)) → (page_cell ≡ m) ⊎ (page_cell ≡ m → ⊥)
    → R (g (place m next)) (g (place m list))
pair_by R f g next list x y m is new old (inl e) =
    subst (λ (c : CellName). R (g (place c next)) (g (place c list))) e (subst (R (g (place page_cell next))) (sym is.listed) (subst (λ (z : Answer). R z y) (sym is.number) new))
pair_by R f g next list x y m is new old (inr apart) =
    let away : (slot other : Slot) → place page_cell slot ≢ place m other = λ slot other. other_cell page_cell m slot other apart in
    subst (R (g (place m next))) (sym (is.others (place m list) (away next list) (away list list)))
    (subst (λ (z : Answer). R z (f (place m list))) (sym (is.others (place m next) (away next next) (away list next))) old)

-- what holds of the two together, and of those of each other cell, holds at each cell
pub pair_each : (R : Answer → Answer → Type 0) (f g : Place → Answer) (next list : Slot) (x y : Answer) → IdsPut f g next list x y → R x y → ((m : CellName) → R (f (place m next)) (f (place m list))) → (m : CellName) → R (g (place m next)) (g (place m list))
pair_each R f g next list x y is new old m = pair_by R f g next list x y m is new (old m) (name_cases page_cell m)

-- ---- a sound heap

-- it has its page
pub has_page : (codes : ℕ) (H : Heap) → IsSound codes H → HasPage H.kinds
has_page codes H sound = record { page = kind-start H.kinds sound.start 1 kind.Page refl }

-- the number that stands at a place is one of a script
pub number_stands : (kinds : List CellKind) (p : Place) (x : Answer) → Stands kinds p x → IsNumber (number_in x)
number_stands kinds p a.Absent h = record { least = omega arith; greatest = omega arith }
number_stands kinds p (a.One (v.Num z)) h = h.numbers
number_stands kinds p (a.One y) h = record { least = omega arith; greatest = omega arith }
number_stands kinds p (a.Names ns) h = record { least = omega arith; greatest = omega arith }
number_stands kinds p (a.Cells cs) h = record { least = omega arith; greatest = omega arith }
number_stands kinds p (a.Heard next ls) h = record { least = omega arith; greatest = omega arith }
number_stands kinds p (a.Timers ts) h = record { least = omega arith; greatest = omega arith }
number_stands kinds p (a.Guesses gs) h = record { least = omega arith; greatest = omega arith }

-- ---- the heap stays sound

-- what the page's ids have to keep, with a weight
pub record IdsKept (weight : ℕ) (g : Place → Answer) : Type 0 where
  pub timers : (m : CellName) → IdsBelow (number_in (g (place m s.NextTimer))) (g (place m s.Timers))
  pub guesses : (m : CellName) → IdsBelow (number_in (g (place m s.NextGuess))) (g (place m s.Guesses))
  pub next_timer : (m : CellName) → (number_in (g (place m s.NextTimer)) +ℤ pos weight) ≤ℤ pos 3999999999
  pub next_guess : (m : CellName) → (number_in (g (place m s.NextGuess)) +ℤ pos weight) ≤ℤ pos 3999999999

-- answers that may stand at the two places
pub record IdsStand (H : Heap) (next list : Slot) (x y : Answer) : Type 0 where
  pub number : Stands H.kinds (place page_cell next) x
  pub number_sound : AnswerIsSound H.kinds x
  pub listed : Stands H.kinds (place page_cell list) y
  pub listed_sound : AnswerIsSound H.kinds y

pub spare_ids : (codes credit less : ℕ) (H : Heap) (g : Place → Answer) (next list : Slot) (x y : Answer) → Spare codes credit H → less ≤ credit → 12 < slot_rank next → 12 < slot_rank list
    → IdsPut H.at g next list x y → IdsStand H next list x y → IdsKept (weight_left H + less) g → Spare codes less (record H { at = g })
spare_ids codes credit less H g next list x y spare le high higher is stand kept =
    let weight = weight_left H + less in
    let parts = parts_spare codes less H (spare_less codes less credit H le spare) in
    let keeps : (slot : Slot) → slot_rank slot ≤ 12 → Keeps slot H.at g = λ slot low. other_slots H.at g next list x y is slot (λ e. omega (arith, high, low, e)) (λ e. omega (arith, higher, low, e)) in
    spare_puts codes credit less H g spare (record {
      places = each (Stands H.kinds) H.at g next list x y is stand.number stand.listed parts.places;
      answers = each (λ p. AnswerIsSound H.kinds) H.at g next list x y is stand.number_sound stand.listed_sound parts.answers;
      lengths = lengths_kept weight H g parts (keeps s.Length (omega arith));
      attributes = attributes_kept weight H g parts (keeps s.AttrNames (omega arith)) (λ name. keeps (s.Attr name) (omega arith));
      nodes = nodes_kept weight H g parts (keeps s.Parent (omega arith)) (keeps s.Children (omega arith));
      page = record {
        clock = (parts.page.clock.0, keeps s.Clock (omega arith) page_cell ∙ parts.page.clock.1, parts.page.clock.2, parts.page.clock.3);
        timers = kept.timers;
        guesses = kept.guesses;
      };
      sums = record {
        count = parts.sums.count;
        heard = λ m. subst (λ (z : Answer). next_heard z + weight ≤ 3999999999) (sym (keeps s.Heard (omega arith) m)) (parts.sums.heard m);
        timers = kept.next_timer;
        guesses = kept.next_guess;
      };
    })
