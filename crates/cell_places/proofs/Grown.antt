-- What was true of kinds stays true when one more cell is made.
use Rattle.std.proofs.Common.{◌≡◌, ℕ, ◌+◌, ◌<◌, ◌≤◌, zero, suc, length, take, Option, Some, None, slice_get, List, [], ◌∷◌, ◌++◌, Bool, true, false, refl, ap, ◌∙◌, inl, inr, ◌⊎◌, arith}
use Rattle.std.proofs.lemmas.Bool.{lt-ltb, ltb-true}
use Rattle.std.proofs.lemmas.Option.{slice_get_past}
use Rattle.std.proofs.lemmas.List.{length-take, length-append}
use Rattle.page_units.specs.declared.value.CellName.{CellName}
use Rattle.page_units.specs.declared.value.Value.{Value}
use Rattle.page_units.specs.declared.value.Value.TheVariants as v
use Rattle.cell_places.specs.declared.place.Place.{Place}
use Rattle.cell_places.specs.declared.answer.Answer.{Answer}
use Rattle.cell_places.specs.declared.answer.Answer.TheVariants as a
use Rattle.cell_places.specs.declared.answer.Listener.{Listener}
use Rattle.cell_places.specs.declared.answer.Timer.{Timer}
use Rattle.cell_places.specs.declared.answer.Guess.{Guess}
use Rattle.cell_places.specs.declared.kind.CellKind.{CellKind}
use Rattle.cell_places.specs.declared.kind.CellKind.TheVariants as kind
use Rattle.cell_places.specs.Lists.{Every}
use Rattle.cell_places.specs.Kinds.{is_scope, is_function, is_object}
use Rattle.cell_places.specs.Heap.{Heap, or_plain, next}
use Rattle.cell_places.specs.Within.{is_below, NameIn, OptionIn, ValueIn, AnswerIn}
use Rattle.cell_places.specs.Valid.{CanAskIn, CanPutIn, Stands, IsValid}
use Rattle.cell_places.specs.Sound.{KindIsSound, AnswerIsSound, IsCalled, IsCalledIfAny}
use Rattle.cell_places.specs.Start.{start_kinds}

-- ---- lists

pub Every-map : {X : Type 0} (P Q : X → Type 0) → ((x : X) → P x → Q x) → (xs : List X) → Every P xs → Every Q xs
Every-map P Q f [] h = tt
Every-map P Q f (x ∷ xs) h = (f x h.0, Every-map P Q f xs h.1)

pub slice_get-grown : {X : Type 0} (xs : List X) (y : X) (n : ℕ) (x : X) → slice_get xs n ≡ Some x → slice_get (xs ++ y ∷ []) n ≡ Some x
slice_get-grown [] y n x h = absurd (cc)
slice_get-grown (z ∷ xs) y zero x h = h
slice_get-grown (z ∷ xs) y (suc n) x h = slice_get-grown xs y n x h

pub slice_get-last : {X : Type 0} (xs : List X) (y : X) → slice_get (xs ++ y ∷ []) (length xs) ≡ Some y
slice_get-last [] y = refl
slice_get-last (z ∷ xs) y = slice_get-last xs y

-- what stands in the longer list stood in the shorter, or is the last
pub slice_get-grown_cases : {X : Type 0} (xs : List X) (y : X) (n : ℕ) (x : X) → slice_get (xs ++ y ∷ []) n ≡ Some x → (slice_get xs n ≡ Some x) ⊎ ((n ≡ length xs) × (y ≡ x))
slice_get-grown_cases [] y zero x h = inr (refl, cc)
slice_get-grown_cases [] y (suc n) x h = absurd (cc)
slice_get-grown_cases (z ∷ xs) y zero x h = inl h
slice_get-grown_cases (z ∷ xs) y (suc n) x h =
    elim (slice_get-grown_cases xs y n x h) [ inl e ↦ inl e | inr e ↦ inr (ap suc e.0, e.1) ]

pub length-grown : {X : Type 0} (xs : List X) (y : X) → length (xs ++ y ∷ []) ≡ length xs + 1
length-grown xs y = length-append xs (y ∷ [])

-- ---- kinds

-- a test that a plain cell fails keeps its yes
pub kind_in-grown : (test : CellKind → Bool) → test kind.Plain ≡ false → (kinds : List CellKind) (k : CellKind) (n : ℕ) → test (or_plain (slice_get kinds n)) ≡ true → test (or_plain (slice_get (kinds ++ k ∷ []) n)) ≡ true
kind_in-grown test plain [] k n h = absurd (cc)
kind_in-grown test plain (z ∷ kinds) k zero h = h
kind_in-grown test plain (z ∷ kinds) k (suc n) h = kind_in-grown test plain kinds k n h

-- ---- names

pub below_more : (n m : ℕ) → n ≤ m → (c : CellName) → NameIn (is_below n) c → NameIn (is_below m) c
below_more n m le c h = let below = ltb-true c.0 n h in lt-ltb c.0 m (omega arith)

option_more : (n m : ℕ) → n ≤ m → (o : Option CellName) → OptionIn (is_below n) o → OptionIn (is_below m) o
option_more n m le None h = tt
option_more n m le (Some c) h = below_more n m le c h

value_more : (n m : ℕ) → n ≤ m → (x : Value) → ValueIn (is_below n) x → ValueIn (is_below m) x
value_more n m le v.Undefined h = tt
value_more n m le v.Null h = tt
value_more n m le (v.Bool b) h = tt
value_more n m le (v.Num z) h = tt
value_more n m le (v.Str t) h = tt
value_more n m le (v.Cell c) h = below_more n m le c h

pub answer_more : (n m : ℕ) → n ≤ m → (x : Answer) → AnswerIn (is_below n) x → AnswerIn (is_below m) x
answer_more n m le a.Absent h = tt
answer_more n m le (a.One x) h = value_more n m le x h
answer_more n m le (a.Names ns) h = tt
answer_more n m le (a.Cells cs) h = Every-map _ _ (below_more n m le) cs h
answer_more n m le (a.Heard next ls) h = Every-map _ _ (λ (l : Listener). below_more n m le l.callback) ls h
answer_more n m le (a.Timers ts) h = Every-map _ _ (λ (t : Timer). below_more n m le t.callback) ts h
answer_more n m le (a.Guesses gs) h =
    Every-map _ _ (λ (g : Guess) p. (option_more n m le g.mutator p.0, option_more n m le g.sketch p.1)) gs h

-- ---- what stands

CanAskIn-grown : (kinds : List CellKind) (k : CellKind) (p : Place) → CanAskIn kinds p → CanAskIn (kinds ++ k ∷ []) p
CanAskIn-grown kinds k p h = (h.0, slice_get-grown kinds k p.cell.0 h.0 h.1, h.2)

pub CanPutIn-grown : (kinds : List CellKind) (k : CellKind) (p : Place) (x : Answer) → CanPutIn kinds p x → CanPutIn (kinds ++ k ∷ []) p x
CanPutIn-grown kinds k p x h = record {
  there = CanAskIn-grown kinds k p h.there;
  suits = h.suits;
  names = let more = length-grown kinds k in answer_more (length kinds) (length (kinds ++ k ∷ [])) (omega arith) x h.names;
  numbers = h.numbers;
}

pub Stands-grown : (kinds : List CellKind) (k : CellKind) (p : Place) (x : Answer) → Stands kinds p x → Stands (kinds ++ k ∷ []) p x
Stands-grown kinds k p a.Absent h = tt
Stands-grown kinds k p (a.One x) h = CanPutIn-grown kinds k p (a.One x) h
Stands-grown kinds k p (a.Names ns) h = CanPutIn-grown kinds k p (a.Names ns) h
Stands-grown kinds k p (a.Cells cs) h = CanPutIn-grown kinds k p (a.Cells cs) h
Stands-grown kinds k p (a.Heard next ls) h = CanPutIn-grown kinds k p (a.Heard next ls) h
Stands-grown kinds k p (a.Timers ts) h = CanPutIn-grown kinds k p (a.Timers ts) h
Stands-grown kinds k p (a.Guesses gs) h = CanPutIn-grown kinds k p (a.Guesses gs) h

-- what can be put stands then
pub Stands-put : (kinds : List CellKind) (p : Place) (x : Answer) → CanPutIn kinds p x → Stands kinds p x
Stands-put kinds p a.Absent h = tt
Stands-put kinds p (a.One x) h = h
Stands-put kinds p (a.Names ns) h = h
Stands-put kinds p (a.Cells cs) h = h
Stands-put kinds p (a.Heard next ls) h = h
Stands-put kinds p (a.Timers ts) h = h
Stands-put kinds p (a.Guesses gs) h = h

-- a cell that isn't there has no place to ask
pub nothing_past : (kinds : List CellKind) (p : Place) → length kinds ≤ p.cell.0 → CanAskIn kinds p → ⊥
nothing_past kinds p past h = let none = slice_get_past kinds p.cell.0 past in let some = h.1 in cc

stands_past : (kinds : List CellKind) (p : Place) → length kinds ≤ p.cell.0 → (x : Answer) → Stands kinds p x → x ≡ a.Absent
stands_past kinds p past a.Absent h = refl
stands_past kinds p past (a.One x) h = absurd (nothing_past kinds p past h.there)
stands_past kinds p past (a.Names ns) h = absurd (nothing_past kinds p past h.there)
stands_past kinds p past (a.Cells cs) h = absurd (nothing_past kinds p past h.there)
stands_past kinds p past (a.Heard next ls) h = absurd (nothing_past kinds p past h.there)
stands_past kinds p past (a.Timers ts) h = absurd (nothing_past kinds p past h.there)
stands_past kinds p past (a.Guesses gs) h = absurd (nothing_past kinds p past h.there)

-- nothing stands at a cell that isn't there
pub absent_past : (H : Heap) → IsValid H → (p : Place) → length H.kinds ≤ p.cell.0 → H.at p ≡ a.Absent
absent_past H valid p past = stands_past H.kinds p past (H.at p) (valid.places p)

-- ---- sound answers and kinds

pub slice_get-grown_same : {X : Type 0} (xs : List X) (y : X) (n : ℕ) → n < length xs → slice_get (xs ++ y ∷ []) n ≡ slice_get xs n
slice_get-grown_same [] y n l = absurd (omega arith)
slice_get-grown_same (x ∷ xs) y zero l = refl
slice_get-grown_same (x ∷ xs) y (suc n) l = slice_get-grown_same xs y n (omega arith)

called_grown : (kinds : List CellKind) (k : CellKind) (n : CellName) → IsCalled kinds n → IsCalled (kinds ++ k ∷ []) n
called_grown kinds k n h = kind_in-grown is_function refl kinds k n.0 h

called_if_grown : (kinds : List CellKind) (k : CellKind) (o : Option CellName) → IsCalledIfAny kinds o → IsCalledIfAny (kinds ++ k ∷ []) o
called_if_grown kinds k None h = tt
called_if_grown kinds k (Some n) h = called_grown kinds k n h

-- a value that names a cell below the count doesn't see the new one
value_sound_grown : (kinds : List CellKind) (k : CellKind) (x : Value) → ValueIn (is_below (length kinds)) x → AnswerIsSound kinds (a.One x) → AnswerIsSound (kinds ++ k ∷ []) (a.One x)
value_sound_grown kinds k v.Undefined below h = tt
value_sound_grown kinds k v.Null below h = tt
value_sound_grown kinds k (v.Bool b) below h = tt
value_sound_grown kinds k (v.Num z) below h = tt
value_sound_grown kinds k (v.Str t) below h = tt
value_sound_grown kinds k (v.Cell n) below h =
    ap (λ o. is_object (or_plain o)) (slice_get-grown_same kinds k n.0 (ltb-true n.0 (length kinds) below)) ∙ h

-- an answer that stands stays sound whatever the new cell is
pub AnswerIsSound-grown : (kinds : List CellKind) (k : CellKind) (p : Place) (x : Answer) → Stands kinds p x → AnswerIsSound kinds x → AnswerIsSound (kinds ++ k ∷ []) x
AnswerIsSound-grown kinds k p a.Absent stands h = tt
AnswerIsSound-grown kinds k p (a.One x) stands h = value_sound_grown kinds k x stands.names h
AnswerIsSound-grown kinds k p (a.Names ns) stands h = tt
AnswerIsSound-grown kinds k p (a.Cells cs) stands h = tt
AnswerIsSound-grown kinds k p (a.Heard next ls) stands h =
    (Every-map _ _ (λ (l : Listener) q. (called_grown kinds k l.callback q.0, q.1)) ls h.0, h.1)
AnswerIsSound-grown kinds k p (a.Timers ts) stands h =
    (Every-map _ _ (λ (t : Timer). called_grown kinds k t.callback) ts h.0, h.1)
AnswerIsSound-grown kinds k p (a.Guesses gs) stands h =
    (Every-map _ _ (λ (g : Guess) q. (called_if_grown kinds k g.mutator q.0, called_if_grown kinds k g.sketch q.1)) gs h.0, h.1)

scope_sound_grown : (codes : ℕ) (kinds : List CellKind) (k : CellKind) (outer : Option CellName) → KindIsSound codes kinds (kind.Scope outer) → KindIsSound codes (kinds ++ k ∷ []) (kind.Scope outer)
scope_sound_grown codes kinds k None h = tt
scope_sound_grown codes kinds k (Some outer) h = kind_in-grown is_scope refl kinds k outer.0 h

pub KindIsSound-grown : (codes : ℕ) (kinds : List CellKind) (k x : CellKind) → KindIsSound codes kinds x → KindIsSound codes (kinds ++ k ∷ []) x
KindIsSound-grown codes kinds k (kind.Scope outer) h = scope_sound_grown codes kinds k outer h
KindIsSound-grown codes kinds k kind.Plain h = tt
KindIsSound-grown codes kinds k kind.List h = tt
KindIsSound-grown codes kinds k (kind.Fault name) h = tt
KindIsSound-grown codes kinds k (kind.Fun code scope) h = (h.0, kind_in-grown is_scope refl kinds k scope.0 h.1)
KindIsSound-grown codes kinds k (kind.Native which) h = h
KindIsSound-grown codes kinds k kind.Page h = tt
KindIsSound-grown codes kinds k kind.Document h = tt
KindIsSound-grown codes kinds k (kind.Element name) h = tt
KindIsSound-grown codes kinds k kind.Chars h = tt
KindIsSound-grown codes kinds k kind.Event h = tt

-- ---- the cells of the start

length_start : length start_kinds ≡ 128
length_start = refl

-- a sound heap has the cells of the start
pub count-start : (kinds : List CellKind) → take 128 kinds ≡ start_kinds → 128 ≤ length kinds
count-start kinds start = let e = ap length start in let l = length-take 128 kinds in let n = length_start in omega arith

slice_get-take : {X : Type 0} (n i : ℕ) (xs : List X) (x : X) → slice_get (take n xs) i ≡ Some x → slice_get xs i ≡ Some x
slice_get-take zero i xs x h = absurd (cc)
slice_get-take (suc n) i [] x h = absurd (cc)
slice_get-take (suc n) zero (z ∷ xs) x h = h
slice_get-take (suc n) (suc i) (z ∷ xs) x h = slice_get-take n i xs x h

-- and their kinds
pub kind-start : (kinds : List CellKind) → take 128 kinds ≡ start_kinds → (i : ℕ) (x : CellKind) → slice_get start_kinds i ≡ Some x → slice_get kinds i ≡ Some x
kind-start kinds start i x h = slice_get-take 128 i kinds x (ap (λ ks. slice_get ks i) start ∙ h)
