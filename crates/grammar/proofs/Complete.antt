-- What a rule derives is read so, what begins something is read through, and what is refused is read as its fault.
use Rattle.std.proofs.Common.{◌≡◌, ℕ, zero, suc, ◌≤◌, Bool, true, false, cond, ◌⊎◌, inl, inr, List, [], ◌∷◌, ◌++◌, length, Option, Some, refl, sym, ap, subst, ◌∙◌, append_assoc, arith}
use Rattle.std.proofs.lemmas.List.{append-nil, length-append}
use Rattle.grammar.specs.Grammar.{Rule, token, before, done, refused, then, or, again, first, Turns, Derives, OpenTurns, Begins, Refuses}
use Rattle.grammar.specs.Reading.{Outcome, Got, Bad, and_then, may, Eats, Decided, is_some, one_token, turns, read}
use Rattle.grammar.proofs.Sound.{first_append, or_left, or_right, Sound, sound, sound_turns}

module _ {T : Type 0} (K : Type 0) (end : T) where
  -- ---- what is derived is read

  abbrev pub Is : {A : Type 0} → A → List T → Outcome T K A → Type 0
  Is v rest (Got w r) = (w ≡ v) × (r ≡ rest)
  Is v rest (Bad e r) = ⊥

  pub may_derives : {A : Type 0} (g : Rule T K A) (xs : List T) (v : A) (next : T) → Derives g xs v next → may g (first xs next) ≡ true
  may_derives (token p) xs v next d = subst (λ (ys : List T). p (first ys next) ≡ true) (sym d.0) d.1
  may_derives (before p) xs v next d = subst (λ (ys : List T). p (first ys next) ≡ true) (sym d.0) d.1
  may_derives (done w) xs v next d = refl
  may_derives (refused f) xs v next d = absurd d
  may_derives (then a f) xs v next (ys, zs, u, d, d', e) =
      subst (λ (t : T). may a t ≡ true) (sym (ap (λ (q : List T). first q next) e ∙ first_append ys zs next)) (may_derives a ys u (first zs next) d)
  may_derives (or a b) xs v next (inl d) = or_left _ _ (may_derives a xs v next d)
  may_derives (or a b) xs v next (inr d) = or_right (may a (first xs next)) _ (may_derives b xs v next d)
  may_derives (again p f x) xs v next d = refl

  may_reads : {A : Type 0} (g : Rule T K A) (xs : List T) (v : A) (rest : List T) → Derives g xs v (first rest end) → may g (first (xs ++ rest) end) ≡ true
  may_reads g xs v rest d = subst (λ (t : T). may g t ≡ true) (sym (first_append xs rest end)) (may_derives g xs v (first rest end) d)

  is_true : {A : Type 0} (v : A) (rest : List T) (b : Bool) (o o' : Outcome T K A) → b ≡ true → Is v rest o → Is v rest (cond b o o')
  is_true v rest true o o' e h = h
  is_true v rest false o o' e h = absurd cc

  is_false : {A : Type 0} (v : A) (rest : List T) (b : Bool) (o o' : Outcome T K A) → b ≡ false → Is v rest o' → Is v rest (cond b o o')
  is_false v rest true o o' e h = absurd cc
  is_false v rest false o o' e h = h

  is_then : {A B : Type 0} (u : A) (v : B) (r rest : List T) (go_on : A → List T → Outcome T K B) (o : Outcome T K A) → Is u r o → Is v rest (go_on u r) → Is v rest (and_then o go_on)
  is_then {A} {B} u v r rest go_on (Got u' r') (e, e') h =
      let at_r = subst (λ (x : List T). Is v rest (go_on u x)) (sym e') h in
      subst (λ (x : A). Is v rest (go_on x r')) (sym e) at_r
  is_then u v r rest go_on (Bad k r') h h' = absurd h

  complete_token : (p : T → Bool) (v : T) (rest xs : List T) → xs ≡ v ∷ [] → p v ≡ true → Is v rest (one_token end p (xs ++ rest))
  complete_token p v rest xs e h = subst (λ (ys : List T). Is v rest (one_token end p (ys ++ rest))) (sym e) (is_true v rest (p v) _ _ h (refl, refl))

  module _ {A : Type 0} (p : A → T → Bool) (f : A → Rule T K A) where
    complete_turns : ((y : A) (xs : List T) (v : A) (rest : List T) → Derives (f y) xs v (first rest end) → Is v rest (read end (f y) (xs ++ rest))) → (n m : ℕ) (x : A) (xs : List T) (v : A) (rest : List T) → length (xs ++ rest) ≤ m → Turns p (λ y ys u t. Derives (f y) ys u t) n x xs v (first rest end) → Is v rest (turns end p (λ y s. read end (f y) s) m x (xs ++ rest))
    complete_turns k zero m x xs v rest le (e, e', h) = subst (λ (ys : List T). Is v rest (turns end p (λ y s. read end (f y) s) m x (ys ++ rest))) (sym e) (stop m)
      where
        stop : (m : ℕ) → Is v rest (turns end p (λ y s. read end (f y) s) m x rest)
        stop zero = is_false v rest (p x (first rest end)) _ _ h (sym e', refl)
        stop (suc m) = is_false v rest (p x (first rest end)) _ _ h (sym e', refl)
    complete_turns k (suc n) m x xs v rest le ([], zs, u, d, w, h, e) = absurd w
    complete_turns k (suc n) zero x xs v rest le (y ∷ ys, zs, u, d, w, h, e) = absurd (omega (arith, ap (λ (q : List T). length (q ++ rest)) e))
    complete_turns k (suc n) (suc m) x xs v rest le (y ∷ ys, zs, u, d, w, h, e) =
        let whole : xs ++ rest ≡ (y ∷ ys) ++ (zs ++ rest) = ap (λ (q : List T). q ++ rest) e ∙ append_assoc (y ∷ ys) zs rest in
        let next = subst (λ (t : T). Derives (f x) (y ∷ ys) u t) (sym (first_append zs rest end)) d in
        let shorter : length (zs ++ rest) ≤ m = omega (arith, ap (λ (q : List T). length q) whole, length-append (y ∷ ys) (zs ++ rest)) in
        let step = is_true v rest (p x y) (and_then (read end (f x) ((y ∷ ys) ++ (zs ++ rest))) (λ u s. turns end p (λ y s. read end (f y) s) m u s)) (Got x ((y ∷ ys) ++ (zs ++ rest))) w
        (is_then u v (zs ++ rest) rest (λ u s. turns end p (λ y s. read end (f y) s) m u s) (read end (f x) ((y ∷ ys) ++ (zs ++ rest))) (k x (y ∷ ys) u (zs ++ rest) next) (complete_turns k n m u zs v rest shorter h)) in
        subst (λ (q : List T). Is v rest (turns end p (λ y s. read end (f y) s) (suc m) x q)) (sym whole) step

  pub complete : {A : Type 0} (g : Rule T K A) (xs : List T) (v : A) (rest : List T) → Decided end g → Derives g xs v (first rest end) → Is v rest (read end g (xs ++ rest))
  complete (token p) xs v rest d h = complete_token p v rest xs h.0 h.1
  complete (before p) xs v rest d h = subst (λ (ys : List T). Is v rest (read end (before p) (ys ++ rest))) (sym h.0) (is_true v rest (p (first rest end)) _ _ h.1 (refl, refl))
  complete (done w) xs v rest d h = (sym h.1, ap (λ (ys : List T). ys ++ rest) h.0)
  complete (refused f) xs v rest d h = absurd h
  complete (then a f) xs v rest d (ys, zs, u, h, h', e) =
      let next = subst (λ (t : T). Derives a ys u t) (sym (first_append zs rest end)) h in
      let whole = is_then u v (zs ++ rest) rest (λ u' r. read end (f u') r) (read end a (ys ++ (zs ++ rest))) (complete a ys u (zs ++ rest) d.0 next) (complete (f u) zs v rest (d.1 u) h') in
      subst (λ (q : List T). Is v rest (read end (then a f) q)) (sym (ap (λ (q : List T). q ++ rest) e ∙ append_assoc ys zs rest)) whole
  complete (or a b) xs v rest d (inl h) = is_true v rest _ _ _ (may_reads a xs v rest h) (complete a xs v rest d.1 h)
  complete (or a b) xs v rest d (inr h) = is_false v rest _ _ _ (d.0 _ (may_reads b xs v rest h)) (complete b xs v rest d.2 h)
  complete (again p f x) xs v rest d (n, h) = complete_turns p f (λ y xs v rest h. complete (f y) xs v rest (d.3 y) h) n (length (xs ++ rest)) x xs v rest (omega arith) h

  -- ---- what begins something is read through

  abbrev pub IsEnd : List T → List T → Type 0
  IsEnd ts r = (xs : List T) × (ts ≡ xs ++ r)

  abbrev pub EndsIn : {A : Type 0} → List T → Outcome T K A → Type 0
  EndsIn ts (Got u r) = IsEnd ts r
  EndsIn ts (Bad e r) = IsEnd ts r

  end_of : (rest xs r s : List T) → rest ≡ xs ++ r → IsEnd r s → IsEnd rest s
  end_of rest xs r s e (ys, e') = (xs ++ ys, e ∙ ap (λ (z : List T). xs ++ z) e' ∙ sym (append_assoc xs ys s))

  ends_behind : {A : Type 0} (rest xs r : List T) (o : Outcome T K A) → rest ≡ xs ++ r → EndsIn r o → EndsIn rest o
  ends_behind rest xs r (Got v s) e h = end_of rest xs r s e h
  ends_behind rest xs r (Bad k s) e h = end_of rest xs r s e h

  through_then : {A B : Type 0} (rest : List T) (go_on : A → List T → Outcome T K B) (o : Outcome T K A) → EndsIn rest o → ((u : A) (r : List T) → EndsIn r (go_on u r)) → EndsIn rest (and_then o go_on)
  through_then rest go_on (Got u r) (xs, e) k = ends_behind rest xs r (go_on u r) e (k u r)
  through_then rest go_on (Bad c r) h k = h

  through_is : {A B : Type 0} (rest r : List T) (u : A) (go_on : A → List T → Outcome T K B) (o : Outcome T K A) → Is u r o → EndsIn rest (go_on u r) → EndsIn rest (and_then o go_on)
  through_is {A} rest r u go_on (Got u' r') (e, e') h =
      let at_r = subst (λ (x : List T). EndsIn rest (go_on u x)) (sym e') h in
      subst (λ (x : A). EndsIn rest (go_on x r')) (sym e) at_r
  through_is rest r u go_on (Bad k r') h h' = absurd h

  through_true : {A : Type 0} (rest : List T) (b : Bool) (o o' : Outcome T K A) → b ≡ true → EndsIn rest o → EndsIn rest (cond b o o')
  through_true rest true o o' e h = h
  through_true rest false o o' e h = absurd cc

  through_false : {A : Type 0} (rest : List T) (b : Bool) (o o' : Outcome T K A) → b ≡ false → EndsIn rest o' → EndsIn rest (cond b o o')
  through_false rest true o o' e h = absurd cc
  through_false rest false o o' e h = h

  split_front : (xs rest : List T) (next : T) → (xs ≡ []) ⊎ (first (xs ++ rest) end ≡ first xs next)
  split_front [] rest next = inl refl
  split_front (t ∷ xs) rest next = inr refl

  from_start : {A : Type 0} (g : Rule T K A) (rest : List T) → Decided end g → EndsIn rest (read end g rest)
  from_start g rest d = go (read end g rest) (sound K end g rest d)
    where
      go : (o : Outcome T K _) → Sound K end g rest o → EndsIn rest o
      go (Got u r) (xs, e, h) = (xs, e)
      go (Bad k r) (xs, e, h, h') = (xs, e)

  at_start : {A : Type 0} (g : Rule T K A) (xs rest : List T) → Decided end g → xs ≡ [] → EndsIn rest (read end g (xs ++ rest))
  at_start g xs rest d e = subst (λ (ys : List T). EndsIn rest (read end g (ys ++ rest))) (sym e) ((from_start g rest d))

  sees_derives : {A : Type 0} (g : Rule T K A) (xs : List T) (v : A) (rest : List T) (next : T) → Derives g xs v next → (xs ≡ []) ⊎ (may g (first (xs ++ rest) end) ≡ true)
  sees_derives g xs v rest next h =
      elim (split_front xs rest next) [
        | inl e ↦ inl e
        | inr e ↦ inr (subst (λ (t : T). may g t ≡ true) (sym e) (may_derives g xs v next h))
      ]

  may_begins : {A : Type 0} (g : Rule T K A) (xs : List T) (next : T) → Begins g xs next → (xs ≡ []) ⊎ (may g (first xs next) ≡ true)
  may_begins (token p) xs next (inl e) = inl e
  may_begins (token p) xs next (inr (t, e, h)) = inr (subst (λ (ys : List T). p (first ys next) ≡ true) (sym e) h)
  may_begins (before p) xs next h = inl h
  may_begins (done w) xs next h = inl h
  may_begins (refused f) xs next h = inl h
  may_begins (then a f) xs next (inl h) = may_begins a xs next h
  may_begins (then a f) xs next (inr (ys, zs, u, d, h, e)) = inr (subst (λ (t : T). may a t ≡ true) (sym (ap (λ (q : List T). first q next) e ∙ first_append ys zs next)) (may_derives a ys u (first zs next) d))
  may_begins (or a b) xs next (inl h) = elim (may_begins a xs next h) [ inl e ↦ inl e | inr m ↦ inr (or_left _ _ m) ]
  may_begins (or a b) xs next (inr h) = elim (may_begins b xs next h) [ inl e ↦ inl e | inr m ↦ inr (or_right (may a (first xs next)) _ m) ]
  may_begins (again p f x) xs next h = inr refl

  sees_begins : {A : Type 0} (g : Rule T K A) (xs rest : List T) (next : T) → Begins g xs next → (xs ≡ []) ⊎ (may g (first (xs ++ rest) end) ≡ true)
  sees_begins g xs rest next h =
      elim (may_begins g xs next h) [
        | inl e ↦ inl e
        | inr m ↦ elim (split_front xs rest next) [ inl e ↦ inl e | inr e ↦ inr (subst (λ (t : T). may g t ≡ true) (sym e) m) ]
      ]

  behind_first : {A B : Type 0} (a : Rule T K A) (f : A → Rule T K B) (xs rest : List T) → ((u : A) → Decided end (f u)) → EndsIn rest (read end a (xs ++ rest)) → EndsIn rest (read end (then a f) (xs ++ rest))
  behind_first a f xs rest d h = through_then rest (λ u r. read end (f u) r) (read end a (xs ++ rest)) h (λ u r. from_start (f u) r (d u))

  no_more : (xs ys zs rest : List T) → xs ≡ ys ++ zs → zs ≡ [] → xs ++ rest ≡ ys ++ rest
  no_more xs ys zs rest e e' = ap (λ (q : List T). q ++ rest) (e ∙ ap (λ (q : List T). ys ++ q) e' ∙ append-nil ys)

  behind_whole : {A B : Type 0} (a : Rule T K A) (f : A → Rule T K B) (u : A) (ys zs rest : List T) → Decided end a → Derives a ys u (first (zs ++ rest) end) → EndsIn rest (read end (f u) (zs ++ rest)) → EndsIn rest (read end (then a f) (ys ++ (zs ++ rest)))
  behind_whole a f u ys zs rest d h k = through_is rest (zs ++ rest) u (λ u' r. read end (f u') r) (read end a (ys ++ (zs ++ rest))) (complete a ys u (zs ++ rest) d h) k

  module _ {A : Type 0} (p : A → T → Bool) (f : A → Rule T K A) (may_turn : (y : A) (t : T) → may (f y) t ≡ true → p y t ≡ true) (hungry : (y : A) → Eats (f y)) (decided : (y : A) → Decided end (f y)) where
    abbrev go_on : ℕ → A → List T → Outcome T K A
    go_on m u s = turns end p (λ y s'. read end (f y) s') m u s

    turns_end : (m : ℕ) (x : A) (ts : List T) → EndsIn ts (go_on m x ts)
    turns_end m x ts = go (go_on m x ts) (sound_turns K end p f hungry (λ y s. sound K end (f y) s (decided y)) m x ts)
      where
        go : (o : Outcome T K A) → Sound K end (again p f x) ts o → EndsIn ts o
        go (Got u r) (xs, e, h) = (xs, e)
        go (Bad k r) (xs, e, h, h') = (xs, e)

    -- one turn that reading comes through, and whatever the others do
    one_turn : (m : ℕ) (x : A) (xs rest : List T) → EndsIn rest (read end (f x) (xs ++ rest)) → p x (first (xs ++ rest) end) ≡ true → length (xs ++ rest) ≤ m → (xs ≡ [] → ⊥) → EndsIn rest (go_on m x (xs ++ rest))
    one_turn m x [] rest h t le ne = absurd (ne refl)
    one_turn zero x (y ∷ xs) rest h t le ne = absurd (omega arith)
    one_turn (suc m) x (y ∷ xs) rest h t le ne = through_true rest _ _ _ t (through_then rest (go_on m) (read end (f x) ((y ∷ xs) ++ rest)) h (λ u r. turns_end m u r))

    through_turns : (D : (y : A) (xs : List T) (v : A) (rest : List T) (next : T) → Derives (f y) xs v next → EndsIn rest (read end (f y) (xs ++ rest))) (B : A → List T → T → Type 0) → ((y : A) (xs rest : List T) (next : T) → B y xs next → (m : ℕ) → length (xs ++ rest) ≤ m → EndsIn rest (go_on m y (xs ++ rest))) → (n m : ℕ) (x : A) (xs rest : List T) (next : T) → length (xs ++ rest) ≤ m → OpenTurns p (λ y ys u t. Derives (f y) ys u t) B n x xs next → EndsIn rest (go_on m x (xs ++ rest))
    through_turns D B last zero m x xs rest next le h = last x xs rest next h m le
    through_turns D B last (suc n) m x xs rest next le ([], zs, u, d, w, h, e) = absurd w
    through_turns D B last (suc n) zero x xs rest next le (y ∷ ys, zs, u, d, w, h, e) = absurd (omega (arith, ap (λ (q : List T). length (q ++ rest)) e))
    through_turns D B last (suc n) (suc m) x xs rest next le (y ∷ ys, zs, u, d, w, h, e) =
        elim (split_front zs rest next) [
          | inl e' ↦
              let same = no_more xs (y ∷ ys) zs rest e e' in
              let turn = through_true rest (p x y) (and_then (read end (f x) ((y ∷ ys) ++ rest)) (go_on m)) (Got x ((y ∷ ys) ++ rest)) w (through_then rest (go_on m) (read end (f x) ((y ∷ ys) ++ rest)) ((D x (y ∷ ys) u rest _ d)) (λ u r. turns_end m u r)) in
              subst (λ (q : List T). EndsIn rest (go_on (suc m) x q)) (sym same) turn
          | inr e' ↦
              let whole : xs ++ rest ≡ (y ∷ ys) ++ (zs ++ rest) = ap (λ (q : List T). q ++ rest) e ∙ append_assoc (y ∷ ys) zs rest in
              let shorter : length (zs ++ rest) ≤ m = omega (arith, ap (λ (q : List T). length q) whole, length-append (y ∷ ys) (zs ++ rest)) in
              let at_next = subst (λ (t : T). Derives (f x) (y ∷ ys) u t) (sym e') d in
              let turn = through_true rest (p x y) (and_then (read end (f x) ((y ∷ ys) ++ (zs ++ rest))) (go_on m)) (Got x ((y ∷ ys) ++ (zs ++ rest))) w (through_is rest (zs ++ rest) u (go_on m) (read end (f x) ((y ∷ ys) ++ (zs ++ rest))) (complete (f x) (y ∷ ys) u (zs ++ rest) (decided x) at_next) (through_turns D B last n m u zs rest next shorter h)) in
              subst (λ (q : List T). EndsIn rest (go_on (suc m) x q)) (sym whole) turn
        ]

  abbrev pub Empty : {A : Type 0} → A → List T → T → Type 0
  Empty y xs next = xs ≡ []

  pub open_of_turns : {A : Type 0} (p : A → T → Bool) (D : A → List T → A → T → Type 0) (n : ℕ) (x : A) (xs : List T) (v : A) (next : T) → Turns p D n x xs v next → OpenTurns p D Empty n x xs next
  open_of_turns p D zero x xs v next h = h.0
  open_of_turns p D (suc n) x xs v next (ys, zs, u, d, w, h, e) = (ys, zs, u, d, w, open_of_turns p D n u zs v next h, e)

  derived : {A : Type 0} (g : Rule T K A) (xs : List T) (v : A) (rest : List T) (next : T) → Decided end g → Derives g xs v next → EndsIn rest (read end g (xs ++ rest))
  derived (token p) xs v rest next d h = subst (λ (ys : List T). EndsIn rest (one_token end p (ys ++ rest))) (sym h.0) (through_true rest (p v) _ _ h.1 ([], refl))
  derived (before p) xs v rest next d h = at_start (before p) xs rest d h.0
  derived (done w) xs v rest next d h = at_start (done w) xs rest d h.0
  derived (refused f) xs v rest next d h = absurd h
  derived (then a f) xs v rest next d (ys, zs, u, h, h', e) =
      elim (split_front zs rest next) [
        | inl e' ↦ subst (λ (q : List T). EndsIn rest (read end (then a f) q)) (sym (no_more xs ys zs rest e e')) (behind_first a f ys rest d.1 (derived a ys u rest _ d.0 h))
        | inr e' ↦ subst (λ (q : List T). EndsIn rest (read end (then a f) q)) (sym (ap (λ (q : List T). q ++ rest) e ∙ append_assoc ys zs rest)) (behind_whole a f u ys zs rest d.0 (subst (λ (t : T). Derives a ys u t) (sym e') h) (derived (f u) zs v rest next (d.1 u) h'))
      ]
  derived (or a b) xs v rest next d (inl h) =
      elim (sees_derives a xs v rest next h) [
        | inl e ↦ at_start (or a b) xs rest d e
        | inr m ↦ through_true rest _ _ _ m (derived a xs v rest next d.1 h)
      ]
  derived (or a b) xs v rest next d (inr h) =
      elim (sees_derives b xs v rest next h) [
        | inl e ↦ at_start (or a b) xs rest d e
        | inr m ↦ through_false rest _ _ _ (d.0 _ m) (derived b xs v rest next d.2 h)
      ]
  derived {A} (again p f x) xs v rest next d (n, h) =
      through_turns p f d.1 d.2 d.3 (λ y ys u rest next k. (derived (f y) ys u rest next (d.3 y) k)) Empty
      (λ y ys rest next e m le. subst (λ (zs : List T). EndsIn rest (turns end p (λ y s'. read end (f y) s') m y (zs ++ rest))) (sym e) ((turns_end p f d.1 d.2 d.3 m y rest)))
      n (length (xs ++ rest)) x xs rest next (omega arith) (open_of_turns p (λ y ys u t. Derives (f y) ys u t) n x xs v next h)

  pub through : {A : Type 0} (g : Rule T K A) (xs rest : List T) (next : T) → Decided end g → Begins g xs next → EndsIn rest (read end g (xs ++ rest))
  through (token p) xs rest next d (inl e) = at_start (token p) xs rest d e
  through (token p) xs rest next d (inr (t, e, h)) = subst (λ (ys : List T). EndsIn rest (one_token end p (ys ++ rest))) (sym e) (through_true rest (p t) _ _ h ([], refl))
  through (before p) xs rest next d h = at_start (before p) xs rest d h
  through (done w) xs rest next d h = at_start (done w) xs rest d h
  through {A} (refused f) xs rest next d h = at_start {A = A} (refused f) xs rest d h
  through (then a f) xs rest next d (inl h) = behind_first a f xs rest d.1 (through a xs rest next d.0 h)
  through (then a f) xs rest next d (inr (ys, zs, u, h, h', e)) =
      elim (split_front zs rest next) [
        | inl e' ↦ subst (λ (q : List T). EndsIn rest (read end (then a f) q)) (sym (no_more xs ys zs rest e e')) (behind_first a f ys rest d.1 (((derived a ys u rest _ d.0 h))))
        | inr e' ↦ subst (λ (q : List T). EndsIn rest (read end (then a f) q)) (sym (ap (λ (q : List T). q ++ rest) e ∙ append_assoc ys zs rest)) (behind_whole a f u ys zs rest d.0 (subst (λ (t : T). Derives a ys u t) (sym e') h) (through (f u) zs rest next (d.1 u) h'))
      ]
  through (or a b) xs rest next d (inl h) =
      elim (sees_begins a xs rest next h) [
        | inl e ↦ at_start (or a b) xs rest d e
        | inr m ↦ through_true rest _ _ _ m (through a xs rest next d.1 h)
      ]
  through (or a b) xs rest next d (inr h) =
      elim (sees_begins b xs rest next h) [
        | inl e ↦ at_start (or a b) xs rest d e
        | inr m ↦ through_false rest _ _ _ (d.0 _ m) (through b xs rest next d.2 h)
      ]
  through {A} (again p f x) xs rest next d (n, h) =
      through_turns p f d.1 d.2 d.3 (λ y ys u rest next k. (derived (f y) ys u rest next (d.3 y) k)) (λ y ys t. Begins (f y) ys t)
      (λ y ys rest next b m le. last y ys rest m le (sees_begins (f y) ys rest next b) (through (f y) ys rest next (d.3 y) b))
      n (length (xs ++ rest)) x xs rest next (omega arith) h
    where
      last : (y : A) (ys rest : List T) (m : ℕ) → length (ys ++ rest) ≤ m → (ys ≡ []) ⊎ (may (f y) (first (ys ++ rest) end) ≡ true) → EndsIn rest (read end (f y) (ys ++ rest)) → EndsIn rest (turns end p (λ y s'. read end (f y) s') m y (ys ++ rest))
      last y [] rest m le s k = (turns_end p f d.1 d.2 d.3 m y rest)
      last y (t ∷ ys) rest m le (inl e) k = absurd cc
      last y (t ∷ ys) rest m le (inr e) k = one_turn p f d.1 d.2 d.3 m y (t ∷ ys) rest k (d.1 y _ e) le (λ q. cc)

  -- ---- what is refused is read as that fault

  may_refuses : {A : Type 0} (g : Rule T K A) (xs : List T) (k : K) (next : T) → Refuses g k xs next → may g (first xs next) ≡ true
  may_refuses (token p) xs k next h = absurd h
  may_refuses (before p) xs k next h = absurd h
  may_refuses (done w) xs k next h = absurd h
  may_refuses (refused f) xs k next (e, h) = subst (λ (ys : List T). is_some (f (first ys next)) ≡ true) (sym e) (ap (λ (o : Option K). is_some o) h)
  may_refuses (then a f) xs k next (inl h) = may_refuses a xs k next h
  may_refuses (then a f) xs k next (inr (ys, zs, u, d, h, e)) = subst (λ (t : T). may a t ≡ true) (sym (ap (λ (q : List T). first q next) e ∙ first_append ys zs next)) (may_derives a ys u (first zs next) d)
  may_refuses (or a b) xs k next (inl h) = or_left _ _ (may_refuses a xs k next h)
  may_refuses (or a b) xs k next (inr h) = or_right (may a (first xs next)) _ (may_refuses b xs k next h)
  may_refuses (again p f x) xs k next h = refl

  sees_refuses : {A : Type 0} (g : Rule T K A) (xs : List T) (k : K) (rest : List T) → Refuses g k xs (first rest end) → may g (first (xs ++ rest) end) ≡ true
  sees_refuses g xs k rest h = subst (λ (t : T). may g t ≡ true) (sym (first_append xs rest end)) (may_refuses g xs k (first rest end) h)

  cond_true : {X : Type 0} (b : Bool) (o o' w : X) → b ≡ true → o ≡ w → cond b o o' ≡ w
  cond_true true o o' w e h = h
  cond_true false o o' w e h = absurd cc

  cond_false : {X : Type 0} (b : Bool) (o o' w : X) → b ≡ false → o' ≡ w → cond b o o' ≡ w
  cond_false true o o' w e h = absurd cc
  cond_false false o o' w e h = h

  bad_first : {A B : Type 0} (go_on : A → List T → Outcome T K B) (o : Outcome T K A) (k : Option K) (rest : List T) → o ≡ Bad k rest → and_then o go_on ≡ Bad k rest
  bad_first {A} {B} go_on o k rest e = ap (λ (x : Outcome T K A). and_then x go_on) e

  bad_second : {A B : Type 0} (go_on : A → List T → Outcome T K B) (o : Outcome T K A) (u : A) (r : List T) (k : Option K) (rest : List T) → Is u r o → go_on u r ≡ Bad k rest → and_then o go_on ≡ Bad k rest
  bad_second {A} {B} go_on (Got u' r') u r k rest (e, e') h = ap (λ (x : A). go_on x r') e ∙ ap (λ (x : List T). go_on u x) e' ∙ h
  bad_second go_on (Bad c r') u r k rest h h' = absurd h

  module _ {A : Type 0} (p : A → T → Bool) (f : A → Rule T K A) (may_turn : (y : A) (t : T) → may (f y) t ≡ true → p y t ≡ true) (no_end : (y : A) → p y end ≡ false) (decided : (y : A) → Decided end (f y)) where
    refuses_turns : ((y : A) (xs : List T) (k : K) (rest : List T) → Refuses (f y) k xs (first rest end) → read end (f y) (xs ++ rest) ≡ Bad (Some k) rest) → (n m : ℕ) (x : A) (xs : List T) (k : K) (rest : List T) → length (xs ++ rest) ≤ m → OpenTurns p (λ y ys u t. Derives (f y) ys u t) (λ y ys t. Refuses (f y) k ys t) n x xs (first rest end) → turns end p (λ y s. read end (f y) s) m x (xs ++ rest) ≡ Bad (Some k) rest
    refuses_turns one zero m x xs k rest le h = go m (xs ++ rest) refl le
      where
        goes : p x (first (xs ++ rest) end) ≡ true
        goes = may_turn x _ (sees_refuses (f x) xs k rest h)

        go : (m : ℕ) (ts : List T) → ts ≡ xs ++ rest → length ts ≤ m → turns end p (λ y s. read end (f y) s) m x ts ≡ Bad (Some k) rest
        go zero [] e le = let c = sym (no_end x) ∙ ap (λ (q : List T). p x (first q end)) e ∙ goes in cc
        go zero (t ∷ ts) e le = absurd (omega arith)
        go (suc m) ts e le = cond_true (p x (first ts end)) _ _ _ (ap (λ (q : List T). p x (first q end)) e ∙ goes) (bad_first (λ u s. turns end p (λ y s. read end (f y) s) m u s) (read end (f x) ts) (Some k) rest (ap (λ (q : List T). read end (f x) q) e ∙ one x xs k rest h))
    refuses_turns one (suc n) m x xs k rest le ([], zs, u, d, w, h, e) = absurd w
    refuses_turns one (suc n) zero x xs k rest le (y ∷ ys, zs, u, d, w, h, e) = absurd (omega (arith, ap (λ (q : List T). length (q ++ rest)) e))
    refuses_turns one (suc n) (suc m) x xs k rest le (y ∷ ys, zs, u, d, w, h, e) =
        let whole : xs ++ rest ≡ (y ∷ ys) ++ (zs ++ rest) = ap (λ (q : List T). q ++ rest) e ∙ append_assoc (y ∷ ys) zs rest in
        let next = subst (λ (t : T). Derives (f x) (y ∷ ys) u t) (sym (first_append zs rest end)) d in
        let shorter : length (zs ++ rest) ≤ m = omega (arith, ap (λ (q : List T). length q) whole, length-append (y ∷ ys) (zs ++ rest)) in
        let step = cond_true (p x y) (and_then (read end (f x) ((y ∷ ys) ++ (zs ++ rest))) (λ u s. turns end p (λ y s. read end (f y) s) m u s)) (Got x ((y ∷ ys) ++ (zs ++ rest))) (Bad (Some k) rest) w
        (bad_second (λ u s. turns end p (λ y s. read end (f y) s) m u s) (read end (f x) ((y ∷ ys) ++ (zs ++ rest))) u (zs ++ rest) (Some k) rest (complete (f x) (y ∷ ys) u (zs ++ rest) (decided x) next) (refuses_turns one n m u zs k rest shorter h)) in
        subst (λ (q : List T). turns end p (λ y s. read end (f y) s) (suc m) x q ≡ Bad (Some k) rest) (sym whole) step

  pub refuses : {A : Type 0} (g : Rule T K A) (xs : List T) (k : K) (rest : List T) → Decided end g → Refuses g k xs (first rest end) → read end g (xs ++ rest) ≡ Bad (Some k) rest
  refuses (token p) xs k rest d h = absurd h
  refuses (before p) xs k rest d h = absurd h
  refuses (done w) xs k rest d h = absurd h
  refuses {A} (refused f) xs k rest d (e, h) = go (f (first rest end)) h xs e
    where
      as_bad : Option K → List T → Outcome T K A
      as_bad c r = Bad c r

      go : (o : Option K) → o ≡ Some k → (xs : List T) → xs ≡ [] → as_bad (f (first (xs ++ rest) end)) (xs ++ rest) ≡ as_bad (Some k) rest
      go o e [] e' = ap (λ (c : Option K). as_bad c rest) h
      go o e (t ∷ ts) e' = cc
  refuses (then a f) xs k rest d (inl h) = bad_first (λ u r. read end (f u) r) (read end a (xs ++ rest)) (Some k) rest (refuses a xs k rest d.0 h)
  refuses (then a f) xs k rest d (inr (ys, zs, u, h, h', e)) =
      let next = subst (λ (t : T). Derives a ys u t) (sym (first_append zs rest end)) h in
      ap (λ (q : List T). read end (then a f) q) (ap (λ (q : List T). q ++ rest) e ∙ append_assoc ys zs rest) ∙ bad_second (λ u' r. read end (f u') r) (read end a (ys ++ (zs ++ rest))) u (zs ++ rest) (Some k) rest (complete a ys u (zs ++ rest) d.0 next) (refuses (f u) zs k rest (d.1 u) h')
  refuses (or a b) xs k rest d (inl h) = cond_true _ _ _ _ (sees_refuses a xs k rest h) (refuses a xs k rest d.1 h)
  refuses (or a b) xs k rest d (inr h) = cond_false _ _ _ _ (d.0 _ (sees_refuses b xs k rest h)) (refuses b xs k rest d.2 h)
  refuses (again p f x) xs k rest d (n, h) = refuses_turns p f d.1 d.0 d.3 (λ y ys c r h. refuses (f y) ys c r (d.3 y) h) n (length (xs ++ rest)) x xs k rest (omega arith) h
