-- What a rule leaves: a property of each value that it derives and of the tokens after it, stated from its parts and the
-- tokens that it begins at.
use Rattle.std.proofs.Common.{◌≡◌, ℕ, zero, suc, Bool, true, false, cond, inl, inr, List, ◌∷◌, ◌++◌, subst, sym, ap, ◌∙◌, append_assoc}
use Rattle.grammar.specs.Grammar.{Rule, token, before, done, refused, then, or, again, first, Turns, Derives}
use Rattle.grammar.proofs.Sound.{first_append}

-- n turns from x at the tokens ts leave a property, where one turn leaves by G
abbrev pub TurnsLeave : {T A : Type 0} → (A → List T → (A → List T → Type 0) → Type 0) → ℕ → A → List T → (A → List T → Type 0) → Type 0
TurnsLeave G zero x ts P = P x ts
TurnsLeave G (suc n) x ts P = G x ts (λ u s. TurnsLeave G n u s P)

-- Each value that the rule can derive from a prefix of these tokens has the property together with the tokens after it.
abbrev pub Leaves : {T K : Type 0} {A : Type 0} → Rule T K A → List T → (A → List T → Type 0) → Type 0
Leaves {T} (token p) ts P = (t : T) (rest : List T) → ts ≡ t ∷ rest → p t ≡ true → P t rest
Leaves (before p) ts P = P tt ts
Leaves (done v) ts P = P v ts
Leaves (refused f) ts P = Unit {0}
Leaves (then a f) ts P = Leaves a ts (λ u rest. Leaves (f u) rest P)
Leaves (or a b) ts P = Leaves a ts P × Leaves b ts P
Leaves (again p f x) ts P = (n : ℕ) → TurnsLeave (λ y s R. Leaves (f y) s R) n x ts P

-- A list of two parts and a rest is the first part and the other with the rest.
append_rest : {T : Type 0} (ys zs xs rest : List T) → xs ≡ ys ++ zs → xs ++ rest ≡ ys ++ (zs ++ rest)
append_rest ys zs xs rest e = ap (λ l. l ++ rest) e ∙ append_assoc ys zs rest

-- n turns leave whatever follows from what they leave, where the same is so of one turn.
turns_more : {T A : Type 0} (G : A → List T → (A → List T → Type 0) → Type 0) (P Q : A → List T → Type 0) → ((y : A) (s : List T) (R S : A → List T → Type 0) → ((v : A) (r : List T) → R v r → S v r) → G y s R → G y s S) → ((v : A) (r : List T) → P v r → Q v r) → (n : ℕ) (x : A) (ts : List T) → TurnsLeave G n x ts P → TurnsLeave G n x ts Q
turns_more G P Q one k zero x ts h = k x ts h
turns_more G P Q one k (suc n) x ts h = one x ts (λ u s. TurnsLeave G n u s P) (λ u s. TurnsLeave G n u s Q) (λ u s r. turns_more G P Q one k n u s r) h

module _ {T K : Type 0} where
  -- What n turns lead to has what n turns leave, where the same is so of one turn.
  turns_leave : {A : Type 0} (p : A → T → Bool) (f : A → Rule T K A) (P : A → List T → Type 0) (end : T) (one : (y : A) (ys : List T) (u : A) (rest : List T) (R : A → List T → Type 0) → Derives (f y) ys u (first rest end) → Leaves (f y) (ys ++ rest) R → R u rest) (n : ℕ) (x : A) (xs : List T) (v : A) (rest : List T) → Turns p (λ y ys u t. Derives (f y) ys u t) n x xs v (first rest end) → TurnsLeave (λ y s R. Leaves (f y) s R) n x (xs ++ rest) P → P v rest
  turns_leave p f P end one zero x xs v rest d h = subst (λ w. P w rest) (sym d.1) (subst (λ ys. P x (ys ++ rest)) d.0 h)
  turns_leave {A} p f P end one (suc n) x xs v rest (ys, zs, u, d, s, r, e) h =
      turns_leave p f P end one n u zs v rest r
      (one x ys u (zs ++ rest) (λ w s. TurnsLeave (λ y r R. Leaves (f y) r R) n w s P) (subst (λ t. Derives (f x) ys u t) (sym (first_append zs rest end)) d)
      (subst (λ s. Leaves (f x) s (λ w r. TurnsLeave (λ y k R. Leaves (f y) k R) n w r P)) (append_rest ys zs xs rest e) h))

  -- Each value that a rule derives has what the rule leaves.
  pub leaves : {A : Type 0} (g : Rule T K A) (xs : List T) (v : A) (rest : List T) (end : T) (P : A → List T → Type 0) → Derives g xs v (first rest end) → Leaves g (xs ++ rest) P → P v rest
  leaves (token p) xs v rest end P d h = h v rest (ap (λ (l : List T). l ++ rest) d.0) d.1
  leaves (before p) xs v rest end P d h = subst (λ l. P tt (l ++ rest)) d.0 h
  leaves (done w) xs v rest end P d h = subst (λ u. P u rest) (sym d.1) (subst (λ l. P w (l ++ rest)) d.0 h)
  leaves (refused f) xs v rest end P d h = absurd d
  leaves (then a f) xs v rest end P (ys, zs, u, d, d', e) h =
      leaves (f u) zs v rest end P d'
      (leaves a ys u (zs ++ rest) end (λ w s. Leaves (f w) s P) (subst (λ t. Derives a ys u t) (sym (first_append zs rest end)) d)
      (subst (λ s. Leaves a s (λ w r. Leaves (f w) r P)) (append_rest ys zs xs rest e) h))
  leaves (or a b) xs v rest end P (inl d) h = leaves a xs v rest end P d h.0
  leaves (or a b) xs v rest end P (inr d) h = leaves b xs v rest end P d h.1
  leaves (again p f x) xs v rest end P (n, d) h = turns_leave p f P end (λ y ys u r R q k. leaves (f y) ys u r end R q k) n x xs v rest d (h n)

  -- A rule leaves whatever follows from what it leaves.
  pub leaves_more : {A : Type 0} (g : Rule T K A) (ts : List T) (P R : A → List T → Type 0) → ((v : A) (s : List T) → P v s → R v s) → Leaves g ts P → Leaves g ts R
  leaves_more (token p) ts P R k h = λ t rest e q. k t rest (h t rest e q)
  leaves_more (before p) ts P R k h = k tt ts h
  leaves_more (done w) ts P R k h = k w ts h
  leaves_more (refused f) ts P R k h = tt
  leaves_more (then a f) ts P R k h = leaves_more a ts (λ u s. Leaves (f u) s P) (λ u s. Leaves (f u) s R) (λ u s r. leaves_more (f u) s P R k r) h
  leaves_more (or a b) ts P R k h = (leaves_more a ts P R k h.0, leaves_more b ts P R k h.1)
  leaves_more (again p f x) ts P R k h = λ n. turns_more (λ y s S. Leaves (f y) s S) P R (λ y s S U q r. leaves_more (f y) s S U q r) k n x ts (h n)

  -- n turns keep what one turn keeps.
  turns_keep : {A : Type 0} (f : A → Rule T K A) (P : A → List T → Type 0) (I : A → List T → Type 0) → ((y : A) (s : List T) → I y s → Leaves (f y) s I) → ((y : A) (s : List T) → I y s → P y s) → (n : ℕ) (x : A) (ts : List T) → I x ts → TurnsLeave (λ y s R. Leaves (f y) s R) n x ts P
  turns_keep f P I step out zero x ts i = out x ts i
  turns_keep f P I step out (suc n) x ts i = leaves_more (f x) ts I (λ u s. TurnsLeave (λ y s R. Leaves (f y) s R) n u s P) (λ u s r. turns_keep f P I step out n u s r) (step x ts i)

  -- A loop leaves what follows from a property of the value and the rest that holds as it begins and that each turn keeps.
  pub kept : {A : Type 0} (p : A → T → Bool) (f : A → Rule T K A) (x : A) (ts : List T) (P I : A → List T → Type 0) → I x ts → ((y : A) (s : List T) → I y s → Leaves (f y) s I) → ((y : A) (s : List T) → I y s → P y s) → Leaves (again p f x) ts P
  kept p f x ts P I i step out = λ n. turns_keep f P I step out n x ts i

  -- of a choice that a finished value makes
  pub cond_leaves : {A : Type 0} (b : Bool) (g h : Rule T K A) (ts : List T) (P : A → List T → Type 0) → Leaves g ts P → Leaves h ts P → Leaves (cond b g h) ts P
  cond_leaves true g h ts P d e = d
  cond_leaves false g h ts P d e = e

  -- one rule after another, by what the first leaves
  pub both_leave : {A B : Type 0} (a : Rule T K A) (f : A → Rule T K B) (ts : List T) (Q : A → List T → Type 0) (P : B → List T → Type 0) → Leaves a ts Q → ((u : A) (s : List T) → Q u s → Leaves (f u) s P) → Leaves (then a f) ts P
  both_leave a f ts Q P h k = leaves_more a ts Q (λ u s. Leaves (f u) s P) k h

module _ {T K : Type 0} (I : List T → Type 0) (tail : (t : T) (ts : List T) → I (t ∷ ts) → I ts) where
  -- A rule leaves what each value has at all tokens that it can leave: those that it begins at, or a rest of them.
  pub leaves_each : {A : Type 0} (g : Rule T K A) (ts : List T) (P : A → List T → Type 0) → I ts → ((v : A) (s : List T) → I s → P v s) → Leaves g ts P
  leaves_each (token p) ts P i k = λ t rest e q. k t rest (tail t rest (subst I e i))
  leaves_each (before p) ts P i k = k tt ts i
  leaves_each (done w) ts P i k = k w ts i
  leaves_each (refused f) ts P i k = tt
  leaves_each (then a f) ts P i k = leaves_each a ts (λ u s. Leaves (f u) s P) i (λ u s j. leaves_each (f u) s P j k)
  leaves_each (or a b) ts P i k = (leaves_each a ts P i k, leaves_each b ts P i k)
  leaves_each (again p f x) ts P i k = kept p f x ts P (λ _ s. I s) i (λ y s j. leaves_each (f y) s (λ _ r. I r) j (λ _ r m. m)) (λ y s j. k y s j)
