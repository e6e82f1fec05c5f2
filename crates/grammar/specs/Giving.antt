-- What a rule gives: a property of each value that it derives and of the token behind it, told from its parts and the
-- token that it begins at.
use Rattle.std.specs.Prelude.{◌≡◌, ℕ, zero, suc, true}
use Rattle.grammar.specs.Grammar.{Rule, token, before, done, refused, then, or, again}

-- n turns from x at t give a property, where one turn gives by G
abbrev pub TurnsGive : {T A : Type 0} → (A → T → (A → T → Type 0) → Type 0) → ℕ → A → T → (A → T → Type 0) → Type 0
TurnsGive G zero x t P = P x t
TurnsGive G (suc n) x t P = G x t (λ u s. TurnsGive G n u s P)

-- Each value that the rule can derive, where its first token is t or it reads nothing before t, has the property
-- together with the token behind it. The tokens that it reads have the property Q.
abbrev pub Gives : {T K : Type 0} {A : Type 0} → (T → Type 0) → Rule T K A → T → (A → T → Type 0) → Type 0
Gives {T} Q (token p) t P = Q t → p t ≡ true → (s : T) → P t s
Gives Q (before p) t P = p t ≡ true → P tt t
Gives Q (done v) t P = P v t
Gives Q (refused f) t P = Unit {0}
Gives Q (then a f) t P = Gives Q a t (λ u s. Gives Q (f u) s P)
Gives Q (or a b) t P = Gives Q a t P × Gives Q b t P
Gives Q (again p f x) t P = (n : ℕ) → TurnsGive (λ y s R. Gives Q (f y) s R) n x t P
