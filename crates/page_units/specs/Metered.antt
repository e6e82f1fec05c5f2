-- What a meter counts (this project's own).
use Rattle.std.specs.Prelude.{ℕ, ◌+◌, ◌-◌, ◌^◌, min, Bool, false, cond}

-- the steps since the meter began, their bound, all steps that it ever ticked, and whether it is whole: then a further
-- beginning does nothing
pub record Metered : Type 0 where
  pub used : ℕ
  pub bound : ℕ
  pub total : ℕ
  pub is_whole : Bool

-- a meter that never began
abbrev pub unused : Metered
unused = record { used = 0; bound = 0; total = 0; is_whole = false }

-- what begins at this bound, unless the meter is whole
abbrev pub begun : ℕ → Metered → Metered
begun bound m = cond m.is_whole m (record { used = 0; bound = bound; total = m.total; is_whole = m.is_whole })

-- the same, as a whole or no longer as one
abbrev pub made_whole : Bool → Metered → Metered
made_whole whole m = record { used = m.used; bound = m.bound; total = m.total; is_whole = whole }

-- so many steps more; the total stays at the last value of its counter
abbrev pub ticked : ℕ → Metered → Metered
ticked n m = record { used = m.used + n; bound = m.bound; total = min (m.total + n) (2 ^ 64 - 1); is_whole = m.is_whole }
