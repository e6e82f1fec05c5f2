-- What keeps a heap sound: a made cell, and puts at slots of which soundness says no more than that the answer suits.
use Rattle.std.proofs.Common.{◌≡◌, ℕ, pos, ◌+ℤ◌, ◌≤ℤ◌, ◌+◌, ◌<◌, ◌≤◌, length, Some, slice_get, List, [], ◌∷◌, ◌++◌, Bool, true, false, refl, ap, sym, ◌∙◌, subst, inl, inr, ◌⊎◌, arith}
use Rattle.std.proofs.lemmas.Int.{ints}
use Rattle.std.proofs.lemmas.List.{take-append-le}
use Rattle.page_units.specs.declared.value.CellName.{CellName}
use Rattle.cell_places.specs.declared.place.Place.{Place}
use Rattle.cell_places.specs.declared.place.Slot.{Slot}
use Rattle.cell_places.specs.declared.place.Slot.TheVariants as s
use Rattle.cell_places.specs.declared.answer.Answer.{Answer}
use Rattle.cell_places.specs.declared.kind.CellKind.{CellKind}
use Rattle.cell_places.specs.Lists.{Among, Distinct}
use Rattle.cell_places.specs.Kinds.{is_child}
use Rattle.cell_places.specs.Heap.{Heap, place, put_at, cells_in, weight_left, names_in, number_in, next_heard, next, kind_at, children_at}
use Rattle.cell_places.specs.Within.{KindIn, is_below}
use Rattle.cell_places.specs.Valid.{CanPut, Stands, IsValid}
use Rattle.cell_places.specs.Acts.{made, placed, moved}
use Rattle.cell_places.specs.Start.{page_cell}
use Rattle.cell_places.specs.Sound.{KindIsSound, AnswerIsSound, IdsBelow, AttributesAreListed, ParentsEnd, top, up, NodesAreTrees, PageIsSound, SumsWith, SumsWithin, LengthFits, IsSound}
use Rattle.cell_places.proofs.SamePlace.{put_at-other, put_at-each}
use Rattle.cell_places.proofs.Grown.{slice_get-grown_cases, length-grown, kind_in-grown, Stands-grown, Stands-put, AnswerIsSound-grown, KindIsSound-grown, count-start}

-- ---- slots that are kept

-- slots of which soundness says no more than that the answer suits, and the two of the tree of nodes
abbrev pub is_free : Slot → Bool
is_free (s.Own key) = true
is_free s.Keys = true
is_free s.Proto = true
is_free (s.Bind name) = true
is_free s.Parent = true
is_free s.Children = true
is_free s.Chars = true
is_free s.Flags = true
is_free _ = false

-- and without those two
abbrev pub is_quiet : Slot → Bool
is_quiet (s.Own key) = true
is_quiet s.Keys = true
is_quiet s.Proto = true
is_quiet (s.Bind name) = true
is_quiet s.Chars = true
is_quiet s.Flags = true
is_quiet _ = false

-- nothing changed at this slot of any cell
abbrev pub Keeps : Slot → (Place → Answer) → (Place → Answer) → Type 0
Keeps slot f g = (n : CellName) → g (place n slot) ≡ f (place n slot)

-- outside a class of slots nothing changed
abbrev pub KeepsOutside : (Slot → Bool) → (Place → Answer) → (Place → Answer) → Type 0
KeepsOutside class f g = (slot : Slot) → class slot ≡ false → Keeps slot f g

pub KeepsOutside-put : (class : Slot → Bool) (f : Place → Answer) (p : Place) (x : Answer) → class p.slot ≡ true → KeepsOutside class f (put_at f p x)
KeepsOutside-put class f p x is slot not n =
    put_at-other f p (place n slot) x (λ (e : p ≡ place n slot). let k = ap (λ (q : Place). class q.slot) e in absurd (cc))

pub KeepsOutside-trans : (class : Slot → Bool) (f g h : Place → Answer) → KeepsOutside class f g → KeepsOutside class g h → KeepsOutside class f h
KeepsOutside-trans class f g h first second slot not n = second slot not n ∙ first slot not n

-- ---- sums

-- less weight and a greater bound
pub SumsWith-more : (weight less bound more : ℕ) (H : Heap) → less ≤ weight → bound ≤ more → SumsWith weight bound H → SumsWith less more H
SumsWith-more weight less bound more H few le h = record {
  count = let c = h.count in omega arith;
  heard = λ n. let c = h.heard n in omega arith;
  timers = λ n. let c = h.timers n in omega (arith, ints);
  guesses = λ n. let c = h.guesses n in omega (arith, ints);
}

pub SumsWithin-more : (bound more : ℕ) (H : Heap) → bound ≤ more → SumsWithin bound H → SumsWithin more H
SumsWithin-more bound more H le h = SumsWith-more (weight_left H) (weight_left H) bound more H (omega arith) le h

-- the three slots that the sums read stay
pub SumsWith-kept : (weight bound : ℕ) (H : Heap) (g : Place → Answer) → Keeps s.Heard H.at g → Keeps s.NextTimer H.at g → Keeps s.NextGuess H.at g → SumsWith weight bound H → SumsWith weight bound (record H { at = g })
SumsWith-kept weight bound H g heard timer guess h = record {
  count = h.count;
  heard = λ n. let P : Answer → Type 0 = λ x. next_heard x + weight ≤ bound in subst P (sym (heard n)) (h.heard n);
  timers = λ n. let P : Answer → Type 0 = λ x. (number_in x +ℤ pos weight) ≤ℤ pos bound in subst P (sym (timer n)) (h.timers n);
  guesses = λ n. let P : Answer → Type 0 = λ x. (number_in x +ℤ pos weight) ≤ℤ pos bound in subst P (sym (guess n)) (h.guesses n);
}

-- a made cell adds one to the count
pub SumsWith-made : (weight bound : ℕ) (H : Heap) (n : CellName) (k : CellKind) → length H.kinds + 1 + weight ≤ bound → SumsWith weight bound H → SumsWith weight bound (moved H (made n k))
SumsWith-made weight bound H n k room h = record {
  count = let l = length-grown H.kinds k in omega arith;
  heard = h.heard;
  timers = h.timers;
  guesses = h.guesses;
}

-- ---- nodes

pub ParentsEnd-kept : (H K : Heap) → ((n : CellName) → K.at (place n s.Parent) ≡ H.at (place n s.Parent)) → (n : CellName) → ParentsEnd H n → ParentsEnd K n
ParentsEnd-kept H K parent n (top _ none) = top n (λ m h. none m (sym (parent n) ∙ h))
ParentsEnd-kept H K parent n (up _ m h rest) = up n m (parent n ∙ h) (ParentsEnd-kept H K parent m rest)

-- the tree of nodes is that of its links, and of the kinds that can be a child
pub NodesAreTrees-kept : (H K : Heap) → ((n : CellName) → K.at (place n s.Parent) ≡ H.at (place n s.Parent)) → ((n : CellName) → K.at (place n s.Children) ≡ H.at (place n s.Children)) → ((n : CellName) → is_child (kind_at H n) ≡ true → is_child (kind_at K n) ≡ true) → NodesAreTrees H → NodesAreTrees K
NodesAreTrees-kept H K parent children grown h =
    let same : (n : CellName) → children_at K n ≡ children_at H n = λ n. ap cells_in (children n) in
    record {
      kinds = λ n m among. grown m (h.kinds n m (subst (Among m) (same n) among));
      parents = λ n m among. parent m ∙ h.parents n m (subst (Among m) (same n) among);
      once = λ n. subst Distinct (sym (same n)) (h.once n);
      children = λ n m has. subst (Among m) (sym (same n)) (h.children n m (sym (parent m) ∙ has));
      ends = λ n. ParentsEnd-kept H K parent n (h.ends n);
    }

-- ---- the rest

pub LengthFits-kept : (x y : Answer) → y ≡ x → LengthFits x → LengthFits y
LengthFits-kept x y e h = subst LengthFits (sym e) h

pub AttributesAreListed-kept : (H K : Heap) (n : CellName) → K.at (place n s.AttrNames) ≡ H.at (place n s.AttrNames) → ((name : List ℕ) → K.at (place n (s.Attr name)) ≡ H.at (place n (s.Attr name))) → AttributesAreListed H n → AttributesAreListed K n
AttributesAreListed-kept H K n names keeps h =
    let same : names_in (K.at (place n s.AttrNames)) ≡ names_in (H.at (place n s.AttrNames)) = ap names_in names in
    record {
      once = subst Distinct (sym same) h.once;
      there = λ name among none. h.there name (subst (Among name) same among) (sym (keeps name) ∙ none);
      all = λ name some. subst (Among name) (sym same) (h.all name (λ none. some (keeps name ∙ none)));
    }

pub IdsBelow-kept : (x y k l : Answer) → y ≡ x → l ≡ k → IdsBelow (number_in x) k → IdsBelow (number_in y) l
IdsBelow-kept x y k l e f h =
    let P : Answer → Type 0 = λ z. IdsBelow (number_in z) l in
    subst P (sym e) (subst (IdsBelow (number_in x)) (sym f) h)

-- the five slots of the page stay
pub record KeepsPage (f g : Place → Answer) : Type 0 where
  pub clock : Keeps s.Clock f g
  pub next_timer : Keeps s.NextTimer f g
  pub timers : Keeps s.Timers f g
  pub next_guess : Keeps s.NextGuess f g
  pub guesses : Keeps s.Guesses f g

pub PageIsSound-kept : (H K : Heap) → KeepsPage H.at K.at → PageIsSound H → PageIsSound K
PageIsSound-kept H K keeps h = record {
  clock = (h.clock.0, keeps.clock page_cell ∙ h.clock.1, h.clock.2, h.clock.3);
  timers = λ n. IdsBelow-kept _ _ _ _ (keeps.next_timer n) (keeps.timers n) (h.timers n);
  guesses = λ n. IdsBelow-kept _ _ _ _ (keeps.next_guess n) (keeps.guesses n) (h.guesses n);
}

pub KeepsPage-outside : (class : Slot → Bool) (f g : Place → Answer) → KeepsOutside class f g → class s.Clock ≡ false → class s.NextTimer ≡ false → class s.Timers ≡ false → class s.NextGuess ≡ false → class s.Guesses ≡ false → KeepsPage f g
KeepsPage-outside class f g keeps clock next_timer timers next_guess guesses = record {
  clock = keeps s.Clock clock;
  next_timer = keeps s.NextTimer next_timer;
  timers = keeps s.Timers timers;
  next_guess = keeps s.NextGuess next_guess;
  guesses = keeps s.Guesses guesses;
}

-- ---- a made cell

kind_made : (kinds : List CellKind) (k : CellKind) → ((n : ℕ) (x : CellKind) → slice_get kinds n ≡ Some x → KindIn (is_below n) x) → KindIn (is_below (length kinds)) k
    → (n : ℕ) (x : CellKind) → (slice_get kinds n ≡ Some x) ⊎ ((n ≡ length kinds) × (k ≡ x)) → KindIn (is_below n) x
kind_made kinds k old names n x (inl e) = old n x e
kind_made kinds k old names n x (inr e) =
    let P : ℕ → Type 0 = λ m. KindIn (is_below m) x in
    subst P (sym e.0) (subst (KindIn (is_below (length kinds))) e.1 names)

pub IsValid-made : (H : Heap) (k : CellKind) → IsValid H → length H.kinds < 4000000000 → KindIn (is_below (length H.kinds)) k → IsValid (moved H (made (next H) k))
IsValid-made H k valid room names = record {
  places = λ p. Stands-grown H.kinds k p (H.at p) (valid.places p);
  kinds = λ n x e. kind_made H.kinds k valid.kinds names n x (slice_get-grown_cases H.kinds k n x e);
  count = let l = length-grown H.kinds k in omega arith;
  spent = valid.spent;
}

sound_kind_made : (codes : ℕ) (kinds : List CellKind) (k : CellKind) → ((n : ℕ) (x : CellKind) → slice_get kinds n ≡ Some x → KindIsSound codes kinds x) → KindIsSound codes kinds k
    → (n : ℕ) (x : CellKind) → (slice_get kinds n ≡ Some x) ⊎ ((n ≡ length kinds) × (k ≡ x)) → KindIsSound codes (kinds ++ k ∷ []) x
sound_kind_made codes kinds k old new n x (inl e) = KindIsSound-grown codes kinds k x (old n x e)
sound_kind_made codes kinds k old new n x (inr e) = KindIsSound-grown codes kinds k x (subst (KindIsSound codes kinds) e.1 new)

-- a made cell of any kind keeps a sound heap sound
pub sound_made : (codes : ℕ) (H : Heap) (k : CellKind) → IsSound codes H → length H.kinds + 1 + weight_left H ≤ 3999999999 → KindIn (is_below (length H.kinds)) k → KindIsSound codes H.kinds k → IsSound codes (moved H (made (next H) k))
sound_made codes H k sound room names of_kind = record {
  valid = IsValid-made H k sound.valid (omega arith) names;
  start = take-append-le 128 H.kinds (k ∷ []) (count-start H.kinds sound.start) ∙ sound.start;
  kinds = λ n x e. sound_kind_made codes H.kinds k sound.kinds of_kind n x (slice_get-grown_cases H.kinds k n x e);
  answers = λ p. AnswerIsSound-grown H.kinds k p (H.at p) (sound.valid.places p) (sound.answers p);
  lengths = sound.lengths;
  attributes = λ n. let h = sound.attributes n in record { once = h.once; there = h.there; all = h.all };
  nodes = NodesAreTrees-kept H (moved H (made (next H) k)) (λ n. refl) (λ n. refl) (λ n. kind_in-grown is_child refl H.kinds k n.0) sound.nodes;
  page = let h = sound.page in record { clock = h.clock; timers = h.timers; guesses = h.guesses };
  sums = SumsWith-made (weight_left H) 3999999999 H (next H) k room sound.sums;
}

-- puts at free slots keep a sound heap sound where nodes stay trees
pub IsSound-put : (codes : ℕ) (H : Heap) (g : Place → Answer) → IsSound codes H → KeepsOutside is_free H.at g → ((p : Place) → Stands H.kinds p (g p)) → ((p : Place) → AnswerIsSound H.kinds (g p)) → NodesAreTrees (record H { at = g }) → IsSound codes (record H { at = g })
IsSound-put codes H g sound keeps stands answers nodes = record {
  valid = record { places = stands; kinds = sound.valid.kinds; count = sound.valid.count; spent = sound.valid.spent };
  start = sound.start;
  kinds = sound.kinds;
  answers = answers;
  lengths = λ n. LengthFits-kept _ _ (keeps s.Length refl n) (sound.lengths n);
  attributes = λ n. AttributesAreListed-kept H (record H { at = g }) n (keeps s.AttrNames refl n) (λ name. keeps (s.Attr name) refl n) (sound.attributes n);
  nodes = nodes;
  page = PageIsSound-kept H (record H { at = g }) (KeepsPage-outside is_free H.at g keeps refl refl refl refl refl) sound.page;
  sums = SumsWith-kept (weight_left H) 3999999999 H g (keeps s.Heard refl) (keeps s.NextTimer refl) (keeps s.NextGuess refl) sound.sums;
}

-- a put at a quiet slot keeps a sound heap sound
pub IsSound-put_quiet : (codes : ℕ) (H : Heap) (p : Place) (x : Answer) → IsSound codes H → is_quiet p.slot ≡ true → is_free p.slot ≡ true → CanPut H p x → AnswerIsSound H.kinds x → IsSound codes (moved H (placed p x))
IsSound-put_quiet codes H p x sound quiet free can answer =
    let g : Place → Answer = put_at H.at p x in
    let apart : KeepsOutside is_quiet H.at g = KeepsOutside-put is_quiet H.at p x quiet in
    IsSound-put codes H g sound (KeepsOutside-put is_free H.at p x free)
    (put_at-each (Stands H.kinds) H.at p x sound.valid.places (Stands-put H.kinds p x can))
    (put_at-each (λ q. AnswerIsSound H.kinds) H.at p x sound.answers answer)
    (NodesAreTrees-kept H (record H { at = g }) (apart s.Parent refl) (apart s.Children refl) (λ n h. h) sound.nodes)
