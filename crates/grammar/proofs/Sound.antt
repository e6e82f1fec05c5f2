-- What is read by a rule is derived by it, and what is refused begins as something that it derives.
use Rattle.std.proofs.Common.{◌≡◌, ℕ, zero, suc, Bool, true, false, cond, ◌⊎◌, inl, inr, List, [], ◌∷◌, ◌++◌, length, Option, Some, None, refl, sym, ap, subst, ◌∙◌, append_assoc}
use Rattle.std.specs.Prelude.{◌||◌}
use Rattle.grammar.specs.Grammar.{Rule, token, before, done, refused, then, or, again, first, StartsWith, Derives, Begins, Refuses}
use Rattle.grammar.specs.Reading.{Outcome, Got, Bad, and_then, may, Eats, Decided, one_token, turns, read}

pub first_append : {T : Type 0} (a b : List T) (next : T) → first (a ++ b) next ≡ first a (first b next)
first_append [] b next = refl
first_append (t ∷ a) b next = refl

pub or_left : (a b : Bool) → a ≡ true → (a || b) ≡ true
or_left true b e = refl
or_left false b e = absurd cc

pub or_right : (a b : Bool) → b ≡ true → (a || b) ≡ true
or_right true b e = refl
or_right false b e = e

pub eats : {T K : Type 0} {A : Type 0} (g : Rule T K A) (xs : List T) (v : A) (next : T) → Eats g → Derives g xs v next → xs ≡ [] → ⊥
eats (token p) xs v next h d e = let c = sym d.0 ∙ e in cc
eats (before p) xs v next h d e = h
eats (done w) xs v next h d e = h
eats (refused f) xs v next h d e = d
eats {T} (then {A} a f) xs v next h (ys, zs, u, d, d', e') e =
    parts ys zs (sym e' ∙ e) h d d' (λ k w. eats a [] u _ k w refl) (λ k w q. eats (f u) zs v next k w q)
  where
    parts : (ys' zs' : List T) → ys' ++ zs' ≡ [] → Eats a ⊎ ((w : A) → Eats (f w)) → Derives a ys' u (first zs next) → Derives (f u) zs v next → (Eats a → Derives a [] u (first zs next) → ⊥) → (Eats (f u) → Derives (f u) zs v next → zs' ≡ [] → ⊥) → ⊥
    parts [] zs' q (inl k) d d' ea ef = ea k d
    parts [] zs' q (inr k) d d' ea ef = ef (k u) d' q
    parts (y ∷ ys') zs' q k d d' ea ef = cc
eats (or a b) xs v next h (inl d) e = eats a xs v next h.0 d e
eats (or a b) xs v next h (inr d) e = eats b xs v next h.1 d e
eats (again p f x) xs v next h d e = h

pub begins_empty : {T K : Type 0} {A : Type 0} (g : Rule T K A) (next : T) → Begins g [] next
begins_empty (token p) next = inl refl
begins_empty (before p) next = refl
begins_empty (done w) next = refl
begins_empty (refused f) next = refl
begins_empty (then a f) next = inl (begins_empty a next)
begins_empty (or a b) next = inl (begins_empty a next)
begins_empty (again p f x) next = (zero, begins_empty (f x) next)

module _ {T : Type 0} (K : Type 0) (end : T) where
  -- ---- what is read is derived

  abbrev pub Named : Option K → (K → Type 0) → Type 0
  Named None R = Unit {0}
  Named (Some k) R = R k

  abbrev pub Sound : {A : Type 0} → Rule T K A → List T → Outcome T K A → Type 0
  Sound g ts (Got v rest) = (xs : List T) × (ts ≡ xs ++ rest) × Derives g xs v (first rest end)
  Sound g ts (Bad e rest) = (xs : List T) × (ts ≡ xs ++ rest) × Begins g xs (first rest end) × Named e (λ k. Refuses g k xs (first rest end))

  named_more : (e : Option K) (R R' : K → Type 0) → ((k : K) → R k → R' k) → Named e R → Named e R'
  named_more None R R' f h = tt
  named_more (Some k) R R' f h = f k h

  sound_token : (p : T → Bool) (ts : List T) → p end ≡ false → Sound (token p) ts (one_token end p ts)
  sound_token p [] h = go (p end) h
    where
      go : (b : Bool) → b ≡ false → Sound (token p) [] (cond b (Got end []) (Bad None []))
      go true e = absurd cc
      go false e = ([], refl, inl refl, tt)
  sound_token p (t ∷ ts) h = go (p t) refl
    where
      go : (b : Bool) → p t ≡ b → Sound (token p) (t ∷ ts) (cond b (Got t ts) (Bad None (t ∷ ts)))
      go true e = (t ∷ [], refl, (refl, e))
      go false e = ([], refl, inl refl, tt)

  sound_before : (p : T → Bool) (ts : List T) (b : Bool) → p (first ts end) ≡ b → Sound (before p) ts (cond b (Got tt ts) (Bad None ts))
  sound_before p ts true e = ([], refl, (refl, e))
  sound_before p ts false e = ([], refl, refl, tt)

  sound_refused : (A : Type 0) (f : T → Option K) (ts : List T) (e : Option K) → f (first ts end) ≡ e → Sound (refused {A = A} f) ts (Bad e ts)
  sound_refused A f ts None e = ([], refl, refl, tt)
  sound_refused A f ts (Some k) e = ([], refl, refl, (refl, e))

  sound_second : {A B : Type 0} (a : Rule T K A) (f : A → Rule T K B) (ts ys : List T) (u : A) (r : List T) → ts ≡ ys ++ r → Derives a ys u (first r end) → (o : Outcome T K B) → Sound (f u) r o → Sound (then a f) ts o
  sound_second a f ts ys u r e d (Got v s) (zs, e', d') =
      (ys ++ zs, e ∙ ap (λ (x : List T). ys ++ x) e' ∙ sym (append_assoc ys zs s), (ys, zs, u, subst (λ (t : T). Derives a ys u t) (ap (λ (x : List T). first x end) e' ∙ first_append zs s end) d, d', refl))
  sound_second a f ts ys u r e d (Bad k s) (zs, e', b, named) =
      let d' = subst (λ (t : T). Derives a ys u t) (ap (λ (x : List T). first x end) e' ∙ first_append zs s end) d in (
        ys ++ zs,
        e ∙ ap (λ (x : List T). ys ++ x) e' ∙ sym (append_assoc ys zs s),
        inr (ys, zs, u, d', b, refl),
        named_more k (λ c. Refuses (f u) c zs (first s end)) (λ c. Refuses (then a f) c (ys ++ zs) (first s end)) (λ c h. inr (ys, zs, u, d', h, refl)) named,
      )

  sound_then : {A B : Type 0} (a : Rule T K A) (f : A → Rule T K B) (ts : List T) (o : Outcome T K A) (go_on : A → List T → Outcome T K B) → Sound a ts o → ((u : A) (r : List T) → Sound (f u) r (go_on u r)) → Sound (then a f) ts (and_then o go_on)
  sound_then a f ts (Got u r) go_on (ys, e, d) k = sound_second a f ts ys u r e d (go_on u r) (k u r)
  sound_then a f ts (Bad e r) go_on (xs, q, b, named) k = (xs, q, inl b, named_more e (λ c. Refuses a c xs (first r end)) (λ c. Refuses (then a f) c xs (first r end)) (λ c h. inl h) named)

  sound_left : {A : Type 0} (a b : Rule T K A) (ts : List T) (o : Outcome T K A) → Sound a ts o → Sound (or a b) ts o
  sound_left a b ts (Got u r) (xs, e, d) = (xs, e, inl d)
  sound_left a b ts (Bad e r) (xs, q, h, named) = (xs, q, inl h, named_more e (λ c. Refuses a c xs (first r end)) (λ c. Refuses (or a b) c xs (first r end)) (λ c k. inl k) named)

  sound_right : {A : Type 0} (a b : Rule T K A) (ts : List T) (o : Outcome T K A) → Sound b ts o → Sound (or a b) ts o
  sound_right a b ts (Got u r) (xs, e, d) = (xs, e, inr d)
  sound_right a b ts (Bad e r) (xs, q, h, named) = (xs, q, inr h, named_more e (λ c. Refuses b c xs (first r end)) (λ c. Refuses (or a b) c xs (first r end)) (λ c k. inr k) named)

  sound_or : {A : Type 0} (a b : Rule T K A) (ts : List T) (c : Bool) (o o' : Outcome T K A) → Sound a ts o → Sound b ts o' → Sound (or a b) ts (cond c o o')
  sound_or a b ts true o o' s s' = sound_left a b ts o s
  sound_or a b ts false o o' s s' = sound_right a b ts o' s'

  module _ {A : Type 0} (p : A → T → Bool) (f : A → Rule T K A) where
    abbrev turn : A → List T → A → T → Type 0
    turn y ys u t = Derives (f y) ys u t

    starts_with : (x : A) (ts ys r : List T) → ts ≡ ys ++ r → (ys ≡ [] → ⊥) → p x (first ts end) ≡ true → StartsWith (p x) ys
    starts_with x ts [] r e h k = absurd (h refl)
    starts_with x ts (y ∷ ys) r e h k = subst (λ (zs : List T). p x (first zs end) ≡ true) e k

    next_at : (zs s r : List T) → r ≡ zs ++ s → first r end ≡ first zs (first s end)
    next_at zs s r e = ap (λ (x : List T). first x end) e ∙ first_append zs s end

    sound_more : (x : A) (ts ys : List T) (u : A) (r : List T) → ts ≡ ys ++ r → Derives (f x) ys u (first r end) → StartsWith (p x) ys → (o : Outcome T K A) → Sound (again p f u) r o → Sound (again p f x) ts o
    sound_more x ts ys u r e d w (Got v s) (zs, e', (n, h)) =
        (ys ++ zs, e ∙ ap (λ (q : List T). ys ++ q) e' ∙ sym (append_assoc ys zs s), (suc n, (ys, zs, u, subst (λ (t : T). Derives (f x) ys u t) (next_at zs s r e') d, w, h, refl)))
    sound_more x ts ys u r e d w (Bad k s) (zs, e', (n, b), named) =
        let d' = subst (λ (t : T). Derives (f x) ys u t) (next_at zs s r e') d in (
          ys ++ zs,
          e ∙ ap (λ (q : List T). ys ++ q) e' ∙ sym (append_assoc ys zs s),
          (suc n, (ys, zs, u, d', w, b, refl)),
          named_more k (λ c. Refuses (again p f u) c zs (first s end)) (λ c. Refuses (again p f x) c (ys ++ zs) (first s end)) (λ c h. (suc h.0, (ys, zs, u, d', w, h.1, refl))) named,
        )

    sound_turn : ((y : A) → Eats (f y)) → (x : A) (ts : List T) → p x (first ts end) ≡ true → (o : Outcome T K A) (go_on : A → List T → Outcome T K A) → Sound (f x) ts o → ((u : A) (r : List T) → Sound (again p f u) r (go_on u r)) → Sound (again p f x) ts (and_then o go_on)
    sound_turn hungry x ts t (Got u r) go_on (ys, e, d) k = sound_more x ts ys u r e d (starts_with x ts ys r e (eats (f x) ys u _ (hungry x) d) t) (go_on u r) (k u r)
    sound_turn hungry x ts t (Bad e r) go_on (xs, q, b, named) k = (xs, q, (zero, b), named_more e (λ c. Refuses (f x) c xs (first r end)) (λ c. Refuses (again p f x) c xs (first r end)) (λ c h. (zero, h)) named)

    pub sound_turns : ((y : A) → Eats (f y)) → ((y : A) (ts : List T) → Sound (f y) ts (read end (f y) ts)) → (n : ℕ) (x : A) (ts : List T) → Sound (again p f x) ts (turns end p (λ y s. read end (f y) s) n x ts)
    sound_turns hungry k zero x ts = go (p x (first ts end)) refl
      where
        go : (b : Bool) → p x (first ts end) ≡ b → Sound (again p f x) ts (cond b (Bad None ts) (Got x ts))
        go true e = ([], refl, (zero, begins_empty (f x) (first ts end)), tt)
        go false e = ([], refl, (zero, (refl, refl, e)))
    sound_turns hungry k (suc n) x ts = go (p x (first ts end)) refl (λ u r. turns end p (λ y s. read end (f y) s) n u r) (λ u r. sound_turns hungry k n u r)
      where
        go : (b : Bool) → p x (first ts end) ≡ b → (go_on : A → List T → Outcome T K A) → ((u : A) (r : List T) → Sound (again p f u) r (go_on u r)) → Sound (again p f x) ts (cond b (and_then (read end (f x) ts) go_on) (Got x ts))
        go true e go_on h = sound_turn hungry x ts e (read end (f x) ts) go_on (k x ts) h
        go false e go_on h = ([], refl, (zero, (refl, refl, e)))

  pub sound : {A : Type 0} (g : Rule T K A) (ts : List T) → Decided end g → Sound g ts (read end g ts)
  sound (token p) ts d = sound_token p ts d
  sound (before p) ts d = sound_before p ts (p (first ts end)) refl
  sound (done v) ts d = ([], refl, (refl, refl))
  sound {A} (refused f) ts d = sound_refused A f ts (f (first ts end)) refl
  sound (then a f) ts d = sound_then a f ts (read end a ts) (λ u r. read end (f u) r) (sound a ts d.0) (λ u r. sound (f u) r (d.1 u))
  sound (or a b) ts d = sound_or a b ts (may a (first ts end)) (read end a ts) (read end b ts) (sound a ts d.1) (sound b ts d.2)
  sound (again p f x) ts d = sound_turns p f d.2 (λ y s. sound (f y) s (d.3 y)) (length ts) x ts
