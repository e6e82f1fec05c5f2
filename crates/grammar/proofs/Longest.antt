-- Longest match is a law of every rule that one token decides.
use Rattle.std.proofs.Common.{◌≡◌, List, [], ◌∷◌, ◌++◌, subst, sym, ◌∙◌, append_assoc}
use Rattle.grammar.specs.Grammar.{Rule, Derives}
use Rattle.grammar.specs.Reading.{Outcome, Got, Bad, Decided, read}
use Rattle.grammar.proofs.Complete.{Is, complete}

module _ {T : Type 0} (K : Type 0) (end : T) where
  too_short : (zs : List T) (t next : T) → t ∷ (zs ++ next ∷ []) ≡ next ∷ [] → ⊥
  too_short [] t next e = cc
  too_short (z ∷ zs) t next e = cc

  -- Where a rule derives a front with the token t behind it, it derives no longer one, whatever follows.
  pub longest : {A : Type 0} (g : Rule T K A) (xs zs : List T) (v w : A) (t next : T) → Decided end g → Derives g xs v t → Derives g (xs ++ t ∷ zs) w next → ⊥
  longest {A} g xs zs v w t next d h h' = go (read end g (xs ++ t ∷ (zs ++ next ∷ []))) (complete K end g xs v (t ∷ (zs ++ next ∷ [])) d h) (subst (λ (ts : List T). Is K end w (next ∷ []) (read end g ts)) (append_assoc xs (t ∷ zs) (next ∷ [])) (complete K end g (xs ++ t ∷ zs) w (next ∷ []) d h'))
    where
      go : (o : Outcome T K A) → Is K end v (t ∷ (zs ++ next ∷ [])) o → Is K end w (next ∷ []) o → ⊥
      go (Got u r) (e, k) (e', k') = too_short zs t next (sym k ∙ k')
      go (Bad e r) h k = h
