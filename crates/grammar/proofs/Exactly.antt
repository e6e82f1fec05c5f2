-- Reports: what follows from what is reported, and when it is reported exactly.
use Rattle.std.proofs.Common.{◌≡◌}
use Rattle.grammar.specs.Exactly.{Report, Value, Fault, OutOfMemory, Says, Exactly}

module _ {V F : Type 0} (Is : V → Type 0) (Shows : F → Type 0) where
  -- What follows from what is reported is reported too.
  pub says_more : (Is' : V → Type 0) (Shows' : F → Type 0) → ((v : V) → Is v → Is' v) → ((f : F) → Shows f → Shows' f) → (report : Report V F) → Says Is Shows report → Says Is' Shows' report
  says_more Is' Shows' is shows (Value v) h = is v h
  says_more Is' Shows' is shows (Fault f) h = shows f h
  says_more Is' Shows' is shows OutOfMemory h = tt

  -- What is reported is reported exactly where there is at most one value, at most one fault, and never both.
  pub exactly : ((v w : V) → Is v → Is w → v ≡ w) → ((v : V) (f : F) → Is v → Shows f → ⊥) → ((f g : F) → Shows f → Shows g → f ≡ g) → (report : Report V F) → Says Is Shows report → Exactly Is Shows report
  exactly one apart one_fault report h = record {
    found = h;
    only = λ v is. says_more (λ w. w ≡ v) (λ _. ⊥) (λ w is'. one w v is' is) (λ f shows. apart v f is shows) report h;
    only_fault = λ f shows. says_more (λ _. ⊥) (λ g. g ≡ f) (λ v is. apart v f is shows) (λ g shows'. one_fault g f shows' shows) report h;
  }
