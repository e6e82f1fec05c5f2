-- What a call reports that reads a text: the value that the text has or the fault that it shows, exactly (this project's
-- own).
use Rattle.std.specs.Prelude.{◌≡◌}

-- a value, a fault, or that memory was refused
pub data Report (V F : Type 0) : Type 0 where
  Value : V → Report V F
  Fault : F → Report V F
  OutOfMemory : Report V F

-- What is reported is so. Out of memory, nothing is said.
abbrev pub Says : {V F : Type 0} → (V → Type 0) → (F → Type 0) → Report V F → Type 0
Says Is Shows (Value v) = Is v
Says Is Shows (Fault f) = Shows f
Says Is Shows OutOfMemory = Unit {0}

-- What is reported is so, and nothing else could be: what has a value reports that value, and what shows a fault reports
-- that fault, unless memory was refused.
pub record Exactly {V F : Type 0} (Is : V → Type 0) (Shows : F → Type 0) (report : Report V F) : Type 0 where
  pub found : Says Is Shows report
  pub only : (v : V) → Is v → Says (λ given. given ≡ v) (λ _. ⊥) report
  pub only_fault : (f : F) → Shows f → Says (λ _. ⊥) (λ given. given ≡ f) report
