-- What a rule derives has what the rule gives, and a loop gives what its turns keep.
use Rattle.std.proofs.Common.{◌≡◌, ℕ, zero, suc, Bool, true, false, cond, inl, inr, List, [], ◌∷◌, ◌++◌, Option, Some, None, refl, subst, sym, ap, ◌∙◌}
use Rattle.std.specs.Prelude.{not, All}
use Rattle.std.proofs.lemmas.List.Elements.{All-nil, All-cons, All-head, All-tail}
use Rattle.grammar.specs.Grammar.{Rule, token, before, done, refused, then, or, again, first, Turns, Derives}
use Rattle.grammar.specs.Giving.{TurnsGive, Gives}
use Rattle.grammar.specs.Reading.{Got, Decided, is_some, read}
use Rattle.grammar.specs.Words.{◌>>◌, barred}
use Rattle.grammar.proofs.Sound.{first_append, Sound, sound}

-- n turns give whatever follows from what they give, where the same is so of one turn.
turns_more : {T A : Type 0} (G : A → T → (A → T → Type 0) → Type 0) (P Q : A → T → Type 0) → ((y : A) (s : T) (R S : A → T → Type 0) → ((v : A) (r : T) → R v r → S v r) → G y s R → G y s S) → ((v : A) (r : T) → P v r → Q v r) → (n : ℕ) (x : A) (t : T) → TurnsGive G n x t P → TurnsGive G n x t Q
turns_more G P Q one k zero x t h = k x t h
turns_more G P Q one k (suc n) x t h = one x t (λ u s. TurnsGive G n u s P) (λ u s. TurnsGive G n u s Q) (λ u s r. turns_more G P Q one k n u s r) h

none : {K : Type 0} (o : Option K) → not (is_some o) ≡ true → o ≡ None
none None e = refl
none (Some k) e = cc

module _ {T : Type 0} (Q : T → Type 0) where
  -- what each item of a list has, at its front and behind it
  pub all_front : (xs ys zs : List T) → xs ≡ ys ++ zs → All Q xs → All Q ys
  all_front xs [] zs e all = All-nil Q
  all_front [] (y ∷ ys) zs e all = cc
  all_front (x ∷ xs) (y ∷ ys) zs e all =
      All-cons Q y ys (subst Q (heads x xs y (ys ++ zs) e) (All-head Q x xs all)) (all_front xs ys zs (tails x xs y (ys ++ zs) e) (All-tail Q x xs all))
    where
      heads : (x : T) (xs : List T) (y : T) (ys : List T) → x ∷ xs ≡ y ∷ ys → x ≡ y
      heads x xs y ys e = cc

      tails : (x : T) (xs : List T) (y : T) (ys : List T) → x ∷ xs ≡ y ∷ ys → xs ≡ ys
      tails x xs y ys e = cc

  pub all_behind : (ys zs : List T) → All Q (ys ++ zs) → All Q zs
  all_behind [] zs all = all
  all_behind (y ∷ ys) zs all = all_behind ys zs (All-tail Q y (ys ++ zs) all)

module _ {T K : Type 0} (Q : T → Type 0) where
  -- What n turns lead to has what n turns give, where the same is so of one turn.
  turns_give : {A : Type 0} (p : A → T → Bool) (f : A → Rule T K A) (P : A → T → Type 0) (one : (y : A) (ys : List T) (u : A) (t : T) (R : A → T → Type 0) → All Q ys → Derives (f y) ys u t → Gives Q (f y) (first ys t) R → R u t) (n : ℕ) (x : A) (xs : List T) (v : A) (next : T) → All Q xs → Turns p (λ y ys u t. Derives (f y) ys u t) n x xs v next → TurnsGive (λ y s R. Gives Q (f y) s R) n x (first xs next) P → P v next
  turns_give p f P one zero x xs v next all d h = subst (λ w. P w next) (sym d.1) (subst (λ ys. P x (first ys next)) d.0 h)
  turns_give p f P one (suc n) x xs v next all (ys, zs, u, d, s, r, e) h =
      turns_give p f P one n u zs v next (all_behind Q ys zs (subst (λ l. All Q l) e all)) r
      (one x ys u (first zs next) (λ w s. TurnsGive (λ y r R. Gives Q (f y) r R) n w s P) (all_front Q xs ys zs e all) d
      (subst (λ s. Gives Q (f x) s (λ w r. TurnsGive (λ y k R. Gives Q (f y) k R) n w r P)) (ap (λ (l : List T). first l next) e ∙ first_append ys zs next) h))

  -- Each value that a rule derives has what the rule gives.
  pub gives : {A : Type 0} (g : Rule T K A) (xs : List T) (v : A) (next : T) (P : A → T → Type 0) → All Q xs → Derives g xs v next → Gives Q g (first xs next) P → P v next
  gives (token p) xs v next P all d h = subst (λ t. Q t → p t ≡ true → (s : T) → P t s) (ap (λ (l : List T). first l next) d.0) h (All-head Q v [] (subst (λ l. All Q l) d.0 all)) d.1 next
  gives (before p) xs v next P all d h = subst (λ t. p t ≡ true → P tt t) (ap (λ (l : List T). first l next) d.0) h d.1
  gives (done w) xs v next P all d h = subst (λ u. P u next) (sym d.1) (subst (λ t. P w t) (ap (λ (l : List T). first l next) d.0) h)
  gives (refused f) xs v next P all d h = absurd d
  gives (then a f) xs v next P all (ys, zs, u, d, d', e) h =
      gives (f u) zs v next P (all_behind Q ys zs (subst (λ l. All Q l) e all)) d'
      (gives a ys u (first zs next) (λ w s. Gives Q (f w) s P) (all_front Q xs ys zs e all) d
      (subst (λ s. Gives Q a s (λ w r. Gives Q (f w) r P)) (ap (λ (l : List T). first l next) e ∙ first_append ys zs next) h))
  gives (or a b) xs v next P all (inl d) h = gives a xs v next P all d h.0
  gives (or a b) xs v next P all (inr d) h = gives b xs v next P all d h.1
  gives (again p f x) xs v next P all (n, d) h = turns_give p f P (λ y ys u t R q k g. gives (f y) ys u t R q k g) n x xs v next all d (h n)

  -- Each value that a rule reads has what the rule gives.
  pub read_gives : {A : Type 0} (end : T) (g : Rule T K A) (ts : List T) (v : A) (rest : List T) (P : A → T → Type 0) → All Q ts → Decided end g → read end g ts ≡ Got v rest → Gives Q g (first ts end) P → P v (first rest end)
  read_gives end g ts v rest P all d e h =
      let (xs, split, derived) = subst (λ o. Sound K end g ts o) e (sound K end g ts d) in
      gives g xs v (first rest end) P (all_front Q ts xs rest split all) derived (subst (λ s. Gives Q g s P) (ap (λ (l : List T). first l end) split ∙ first_append xs rest end) h)

  -- A rule gives whatever follows from what it gives.
  pub gives_more : {A : Type 0} (g : Rule T K A) (t : T) (P R : A → T → Type 0) → ((v : A) (s : T) → P v s → R v s) → Gives Q g t P → Gives Q g t R
  gives_more (token p) t P R k h = λ q e s. k t s (h q e s)
  gives_more (before p) t P R k h = λ e. k tt t (h e)
  gives_more (done w) t P R k h = k w t h
  gives_more (refused f) t P R k h = tt
  gives_more (then a f) t P R k h = gives_more a t (λ u s. Gives Q (f u) s P) (λ u s. Gives Q (f u) s R) (λ u s r. gives_more (f u) s P R k r) h
  gives_more (or a b) t P R k h = (gives_more a t P R k h.0, gives_more b t P R k h.1)
  gives_more (again p f x) t P R k h = λ n. turns_more (λ y s S. Gives Q (f y) s S) P R (λ y s S U q r. gives_more (f y) s S U q r) k n x t (h n)

  turns_keep : {A : Type 0} (f : A → Rule T K A) (P : A → T → Type 0) (I : A → Type 0) → ((y : A) (s : T) → I y → Gives Q (f y) s (λ v _. I v)) → ((y : A) (s : T) → I y → P y s) → (n : ℕ) (x : A) (t : T) → I x → TurnsGive (λ y s R. Gives Q (f y) s R) n x t P
  turns_keep f P I step out zero x t i = out x t i
  turns_keep f P I step out (suc n) x t i = gives_more (f x) t (λ v _. I v) (λ u s. TurnsGive (λ y s R. Gives Q (f y) s R) n u s P) (λ u s r. turns_keep f P I step out n u s r) (step x t i)

  -- A loop gives what follows from a property that holds as it begins and that each turn keeps.
  pub kept : {A : Type 0} (p : A → T → Bool) (f : A → Rule T K A) (x : A) (t : T) (P : A → T → Type 0) (I : A → Type 0) → I x → ((y : A) (s : T) → I y → Gives Q (f y) s (λ v _. I v)) → ((y : A) (s : T) → I y → P y s) → Gives Q (again p f x) t P
  kept p f x t P I i step out = λ n. turns_keep f P I step out n x t i

  -- A rule gives what each value has.
  pub gives_each : {A : Type 0} (g : Rule T K A) (t : T) (P : A → T → Type 0) → ((v : A) (s : T) → P v s) → Gives Q g t P
  gives_each (token p) t P k = λ q e s. k t s
  gives_each (before p) t P k = λ e. k tt t
  gives_each (done w) t P k = k w t
  gives_each (refused f) t P k = tt
  gives_each (then a f) t P k = gives_each a t (λ u s. Gives Q (f u) s P) (λ u s. gives_each (f u) s P k)
  gives_each (or a b) t P k = (gives_each a t P k, gives_each b t P k)
  gives_each (again p f x) t P k = kept p f x t P (λ _. Unit {0}) tt (λ y s _. gives_each (f y) s (λ _ _. Unit {0}) (λ _ _. tt)) (λ y s _. k y s)

  -- of a choice that a finished value makes
  pub cond_gives : {A : Type 0} (b : Bool) (g h : Rule T K A) (t : T) (P : A → T → Type 0) → Gives Q g t P → Gives Q h t P → Gives Q (cond b g h) t P
  cond_gives true g h t P d e = d
  cond_gives false g h t P d e = e

  -- What stands behind a rule that is barred from some tokens may use that the next is none of them.
  pub barred_gives : {A : Type 0} (f : T → Option K) (g : Rule T K A) (t : T) (P : A → T → Type 0) → (f t ≡ None → Gives Q g t P) → Gives Q (barred f >> g) t P
  barred_gives f g t P k = (tt, λ e. k (none (f t) e))
