-- Lists with one item more and with one item less.
use Rattle.std.proofs.Common.{◌≡◌, ℕ, List, [], ◌∷◌, ◌++◌, map, Bool, true, false, cond, filter, refl, ap, sym, ◌∙◌, subst, inl, inr, ◌⊎◌}
use Rattle.std.proofs.lemmas.Bool.{cases_eq}
use Rattle.page_units.specs.declared.value.CellName.{CellName}
use Rattle.cell_places.specs.Lists.{Every, Among, Distinct}

-- ---- the same or not

name_cases_by : (n m : CellName) → (n.0 ≡ m.0) ⊎ (n.0 ≡ m.0 → ⊥) → (n ≡ m) ⊎ (n ≡ m → ⊥)
name_cases_by n m (inl e) = inl (λ i. record { 0 = e i })
name_cases_by n m (inr e) = inr (λ h. e (ap (λ (x : CellName). x.0) h))

pub name_cases : (n m : CellName) → (n ≡ m) ⊎ (n ≡ m → ⊥)
name_cases n m = name_cases_by n m (cases_eq n.0 m.0)

text_cases_by : (x y : ℕ) (xs ys : List ℕ) → (x ≡ y) ⊎ (x ≡ y → ⊥) → (xs ≡ ys) ⊎ (xs ≡ ys → ⊥) → (x ∷ xs ≡ y ∷ ys) ⊎ (x ∷ xs ≡ y ∷ ys → ⊥)
text_cases_by x y xs ys (inl e) (inl f) = inl (λ i. e i ∷ f i)
text_cases_by x y xs ys (inl e) (inr f) = inr (λ h. let same : xs ≡ ys = cc in f same)
text_cases_by x y xs ys (inr e) f = inr (λ h. let same : x ≡ y = cc in e same)

pub text_cases : (xs ys : List ℕ) → (xs ≡ ys) ⊎ (xs ≡ ys → ⊥)
text_cases [] [] = inl refl
text_cases [] (y ∷ ys) = inr (λ e. cc)
text_cases (x ∷ xs) [] = inr (λ e. cc)
text_cases (x ∷ xs) (y ∷ ys) = text_cases_by x y xs ys (cases_eq x y) (text_cases xs ys)

-- ---- one more item

-- ys are xs and x, wherever x is
pub record IsWith {X : Type 0} (x : X) (xs ys : List X) : Type 0 where
  pub once : Distinct ys
  pub cases : (y : X) → Among y ys → (x ≡ y) ⊎ Among y xs
  pub old : (y : X) → Among y xs → Among y ys
  pub new : Among x ys

pub inner_cases : {X : Type 0} (xs ys : List X) (x y : X) → Among y (xs ++ x ∷ ys) → (x ≡ y) ⊎ Among y (xs ++ ys)
inner_cases [] ys x y h = h
inner_cases (z ∷ xs) ys x y (inl e) = inr (inl e)
inner_cases (z ∷ xs) ys x y (inr h) = elim (inner_cases xs ys x y h) [ inl e ↦ inl e | inr k ↦ inr (inr k) ]

pub inner_old : {X : Type 0} (xs ys : List X) (x y : X) → Among y (xs ++ ys) → Among y (xs ++ x ∷ ys)
inner_old [] ys x y h = inr h
inner_old (z ∷ xs) ys x y (inl e) = inl e
inner_old (z ∷ xs) ys x y (inr h) = inr (inner_old xs ys x y h)

pub inner_new : {X : Type 0} (xs ys : List X) (x : X) → Among x (xs ++ x ∷ ys)
inner_new [] ys x = inl refl
inner_new (z ∷ xs) ys x = inr (inner_new xs ys x)

pub inner_once : {X : Type 0} (xs ys : List X) (x : X) → Distinct (xs ++ ys) → (Among x (xs ++ ys) → ⊥) → Distinct (xs ++ x ∷ ys)
inner_once [] ys x once new = (new, once)
inner_once (z ∷ xs) ys x once new =
    (λ h. elim (inner_cases xs ys x z h) [ inl e ↦ new (inl (sym e)) | inr k ↦ once.0 k ], inner_once xs ys x once.1 (λ h. new (inr h)))

-- an item between others
pub with_inner : {X : Type 0} (xs ys : List X) (x : X) → Distinct (xs ++ ys) → (Among x (xs ++ ys) → ⊥) → IsWith x (xs ++ ys) (xs ++ x ∷ ys)
with_inner xs ys x once new = record {
  once = inner_once xs ys x once new;
  cases = inner_cases xs ys x;
  old = inner_old xs ys x;
  new = inner_new xs ys x;
}

pub append_none : {X : Type 0} (xs : List X) → xs ++ [] ≡ xs
append_none [] = refl
append_none (x ∷ xs) = ap (λ ys. x ∷ ys) (append_none xs)

-- an item behind the others
pub with_last : {X : Type 0} (xs : List X) (x : X) → Distinct xs → (Among x xs → ⊥) → IsWith x xs (xs ++ x ∷ [])
with_last xs x once new =
    subst (λ ys. IsWith x ys (xs ++ x ∷ [])) (append_none xs)
    (with_inner xs [] x (subst Distinct (sym (append_none xs)) once) (λ h. new (subst (Among x) (append_none xs) h)))

-- ---- one item less

-- ys are xs but x
pub record IsWithout {X : Type 0} (x : X) (xs ys : List X) : Type 0 where
  pub once : Distinct ys
  pub kept : (y : X) → Among y ys → Among y xs × (y ≡ x → ⊥)
  pub left : (y : X) → Among y xs → (y ≡ x → ⊥) → Among y ys

among_cond : {X : Type 0} (b : Bool) (z y : X) (ys : List X) → Among y (cond b (z ∷ ys) ys) → ((b ≡ true) × (z ≡ y)) ⊎ Among y ys
among_cond true z y ys (inl e) = inl (refl, e)
among_cond true z y ys (inr h) = inr h
among_cond false z y ys h = inr h

-- what passes a test
pub among_filter : {X : Type 0} (test : X → Bool) (xs : List X) (y : X) → Among y (filter test xs) → Among y xs × (test y ≡ true)
among_filter test [] y h = elim h [ ]
among_filter test (x ∷ xs) y h =
    elim (among_cond (test x) x y (filter test xs) h) [
      | inl e ↦ (inl e.1, ap test (sym e.1) ∙ e.0)
      | inr k ↦ (inr (among_filter test xs y k).0, (among_filter test xs y k).1)
    ]

cond_among : {X : Type 0} (b : Bool) (z y : X) (ys : List X) → (b ≡ true) × (z ≡ y) → Among y (cond b (z ∷ ys) ys)
cond_among true z y ys h = inl h.1
cond_among false z y ys h = absurd (let e = h.0 in cc)

cond_more : {X : Type 0} (b : Bool) (z y : X) (ys : List X) → Among y ys → Among y (cond b (z ∷ ys) ys)
cond_more true z y ys h = inr h
cond_more false z y ys h = h

pub filter_among : {X : Type 0} (test : X → Bool) (xs : List X) (y : X) → Among y xs → test y ≡ true → Among y (filter test xs)
filter_among test [] y h t = elim h [ ]
filter_among test (x ∷ xs) y (inl e) t = cond_among (test x) x y (filter test xs) (ap test e ∙ t, e)
filter_among test (x ∷ xs) y (inr h) t = cond_more (test x) x y (filter test xs) (filter_among test xs y h t)

cond_once : {X : Type 0} (b : Bool) (z : X) (ys : List X) → (Among z ys → ⊥) → Distinct ys → Distinct (cond b (z ∷ ys) ys)
cond_once true z ys new once = (new, once)
cond_once false z ys new once = once

pub filter_once : {X : Type 0} (test : X → Bool) (xs : List X) → Distinct xs → Distinct (filter test xs)
filter_once test [] once = tt
filter_once test (x ∷ xs) once =
    cond_once (test x) x (filter test xs) (λ h. once.0 (among_filter test xs x h).0) (filter_once test xs once.1)

-- all but x pass the test
pub without_filter : {X : Type 0} (test : X → Bool) (x : X) (xs : List X) → ((y : X) → test y ≡ true → y ≡ x → ⊥) → ((y : X) → (y ≡ x → ⊥) → test y ≡ true) → Distinct xs → IsWithout x xs (filter test xs)
without_filter test x xs only all once = record {
  once = filter_once test xs once;
  kept = λ y h. let k = among_filter test xs y h in (k.0, only y k.1);
  left = λ y h apart. filter_among test xs y h (all y apart);
}

-- ---- each item

pub every_last : {X : Type 0} (P : X → Type 0) (xs : List X) (x : X) → Every P xs → P x → Every P (xs ++ x ∷ [])
every_last P [] x h new = (new, tt)
every_last P (y ∷ xs) x h new = (h.0, every_last P xs x h.1 new)

every_cond : {X : Type 0} (P : X → Type 0) (b : Bool) (x : X) (xs : List X) → P x → Every P xs → Every P (cond b (x ∷ xs) xs)
every_cond P true x xs h k = (h, k)
every_cond P false x xs h k = k

pub every_filter : {X : Type 0} (P : X → Type 0) (test : X → Bool) (xs : List X) → Every P xs → Every P (filter test xs)
every_filter P test [] h = tt
every_filter P test (x ∷ xs) h = every_cond P (test x) x (filter test xs) h.0 (every_filter P test xs h.1)

pub every_among : {X : Type 0} (P : X → Type 0) (xs : List X) (x : X) → Every P xs → Among x xs → P x
every_among P [] x h k = elim k [ ]
every_among P (y ∷ xs) x h (inl e) = subst P e h.0
every_among P (y ∷ xs) x h (inr k) = every_among P xs x h.1 k

pub every_of : {X : Type 0} (P : X → Type 0) (ys : List X) → ((x : X) → Among x ys → P x) → Every P ys
every_of P [] h = tt
every_of P (y ∷ ys) h = (h y (inl refl), every_of P ys (λ x k. h x (inr k)))

-- ---- what items are known by

map_cond : {X Y : Type 0} (f : X → Y) (b : Bool) (x : X) (xs : List X) (y : Y) → Among y (map f (cond b (x ∷ xs) xs)) → (f x ≡ y) ⊎ Among y (map f xs)
map_cond f true x xs y h = h
map_cond f false x xs y h = inr h

among_map_filter : {X Y : Type 0} (f : X → Y) (test : X → Bool) (xs : List X) (y : Y) → Among y (map f (filter test xs)) → Among y (map f xs)
among_map_filter f test [] y h = h
among_map_filter f test (x ∷ xs) y h =
    elim (map_cond f (test x) x (filter test xs) y h) [ inl e ↦ inl e | inr k ↦ inr (among_map_filter f test xs y k) ]

distinct_cond : {X Y : Type 0} (f : X → Y) (b : Bool) (x : X) (xs : List X) → (Among (f x) (map f xs) → ⊥) → Distinct (map f xs) → Distinct (map f (cond b (x ∷ xs) xs))
distinct_cond f true x xs new once = (new, once)
distinct_cond f false x xs new once = once

-- fewer items are known apart
pub distinct_filter : {X Y : Type 0} (f : X → Y) (test : X → Bool) (xs : List X) → Distinct (map f xs) → Distinct (map f (filter test xs))
distinct_filter f test [] once = tt
distinct_filter f test (x ∷ xs) once =
    distinct_cond f (test x) x (filter test xs) (λ h. once.0 (among_map_filter f test xs (f x) h)) (distinct_filter f test xs once.1)

among_map_last : {X Y : Type 0} (f : X → Y) (xs : List X) (x : X) (y : Y) → Among y (map f (xs ++ x ∷ [])) → (f x ≡ y) ⊎ Among y (map f xs)
among_map_last f [] x y (inl e) = inl e
among_map_last f [] x y (inr h) = inr h
among_map_last f (z ∷ xs) x y (inl e) = inr (inl e)
among_map_last f (z ∷ xs) x y (inr h) = elim (among_map_last f xs x y h) [ inl e ↦ inl e | inr k ↦ inr (inr k) ]

-- and so is one more of a new name
pub distinct_last : {X Y : Type 0} (f : X → Y) (xs : List X) (x : X) → Distinct (map f xs) → (Among (f x) (map f xs) → ⊥) → Distinct (map f (xs ++ x ∷ []))
distinct_last f [] x once new = (λ h. h, tt)
distinct_last f (z ∷ xs) x once new = (
  λ h. elim (among_map_last f xs x (f z) h) [ inl e ↦ new (inl (sym e)) | inr k ↦ once.0 k ],
  distinct_last f xs x once.1 (λ h. new (inr h)),
)

-- a name that no item of the class has
pub not_named : {X Y : Type 0} (f : X → Y) (P : X → Type 0) (y : Y) → ((x : X) → P x → f x ≡ y → ⊥) → (xs : List X) → Every P xs → Among y (map f xs) → ⊥
not_named f P y apart [] h k = k
not_named f P y apart (x ∷ xs) h (inl e) = apart x h.0 e
not_named f P y apart (x ∷ xs) h (inr k) = not_named f P y apart xs h.1 k
