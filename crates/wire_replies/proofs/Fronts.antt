-- The fronts of a head and a body.
use Rattle.std.proofs.Common.{◌≡◌, ℕ, ◌+◌, suc, zero, List, [], ◌∷◌, ◌++◌, length, take, Option, Some, None, Result, Ok, Err, refl, ap, sym, ◌∙◌, append_assoc}
use Rattle.std.proofs.Math.Seq.{take-append-add}
use Rattle.std.specs.declared.alloc.AllocError.{AllocError}
use Rattle.byte_ports.specs.Streams.{after, OnAll}
use Rattle.byte_ports.specs.declared.sink.Wrote.{Wrote}
use Rattle.byte_ports.specs.declared.sink.Wrote.TheVariants as wrote

after_after : (t : Option (List ℕ)) (xs ys : List ℕ) → after (after t xs) ys ≡ after t (xs ++ ys)
after_after None xs ys = refl
after_after (Some front) xs ys = ap Some (append_assoc front xs ys)

-- a front of the head is one of the whole
front_within : (n : ℕ) (head body : List ℕ) → (m : ℕ) × (take m (head ++ body) ≡ take n head)
front_within zero head body = (0, refl)
front_within (suc n) [] body = (0, refl)
front_within (suc n) (x ∷ xs) body = let r = front_within n xs body in (suc r.0, ap (λ (z : List ℕ). x ∷ z) r.1)

pub front_of_head : (t u : Option (List ℕ)) (head body whole bytes : List ℕ) → head ++ body ≡ whole → bytes ≡ head → ((n : ℕ) × (u ≡ after t (take n bytes))) → (m : ℕ) × (u ≡ after t (take m whole))
front_of_head t u head body whole bytes e b h =
    let r = front_within h.0 head body in
    (r.0, h.1 ∙ ap (after t) (ap (take h.0) b ∙ sym r.1 ∙ ap (take r.0) e))

pub front_of_both : (t u v : Option (List ℕ)) (head body whole bytes more : List ℕ) → head ++ body ≡ whole → bytes ≡ head → more ≡ body → u ≡ after t bytes → ((n : ℕ) × (v ≡ after u (take n more))) → (m : ℕ) × (v ≡ after t (take m whole))
front_of_both t u v head body whole bytes more e b f went h = (
  length head + h.0,
  h.1 ∙ ap (λ (z : Option (List ℕ)). after z (take h.0 more)) went ∙ after_after t bytes (take h.0 more)
      ∙ ap (after t) (ap (λ (z : List ℕ). z ++ take h.0 more) b ∙ ap (λ (z : List ℕ). head ++ take h.0 z) f ∙ sym (take-append-add head body h.0) ∙ ap (take (length head + h.0)) e),
)

-- the head, and then all of the body
pub all_of_both : (r : Result Wrote AllocError) (t u v : Option (List ℕ)) (head body whole bytes more : List ℕ) → head ++ body ≡ whole → bytes ≡ head → more ≡ body → u ≡ after t bytes → OnAll r (v ≡ after u more) → OnAll r (v ≡ after t whole)
all_of_both (Ok wrote.All) t u v head body whole bytes more e b f went h =
    h ∙ ap (λ (z : Option (List ℕ)). after z more) went ∙ after_after t bytes more
    ∙ ap (after t) (ap (λ (z : List ℕ). z ++ more) b ∙ ap (λ (z : List ℕ). head ++ z) f ∙ e)
all_of_both (Ok wrote.Failed) t u v head body whole bytes more e b f went h = tt
all_of_both (Err x) t u v head body whole bytes more e b f went h = tt
