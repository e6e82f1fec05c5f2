-- A run by its acts: they are allowed, they fit the heap and its bounds, and they leave the world (this
-- project's own).
use Rattle.std.specs.Prelude.{◌≡◌, ℕ, ◌+◌, ◌-◌, ◌<◌, ◌≤◌, List, [], ◌∷◌, Result}
use Rattle.page_units.specs.Metered.{Metered, ticked as metered}
use Rattle.cell_places.specs.Heap.{Heap}
use Rattle.cell_places.specs.View.{heap}
use Rattle.cell_places.specs.Acts.{Act, Fits, moved, asked, looked, placed, made, charged, ticked, entered, left, wrote, not_charged, not_ticked, not_entered}
use Rattle.js_rules.specs.declared.stop.Stop.{Stop}
use Rattle.js_rules.specs.Fixed.{Fixed}
use Rattle.js_rules.specs.World.{World, metered_with, acted_all}
use Rattle.js_rules.specs.Tasks.{Kind, Of, Task}
use Rattle.js_rules.specs.Allows.{Runs, IsDone}

-- the meter after an act
abbrev pub metered_one : Metered → Act → Metered
metered_one m (ticked n) = metered n m
metered_one m (wrote o) = metered_with m o
metered_one m (asked p a) = m
metered_one m (looked n k) = m
metered_one m (placed p a) = m
metered_one m (made n k) = m
metered_one m (charged w) = m
metered_one m entered = m
metered_one m left = m
metered_one m (not_charged w) = m
metered_one m (not_ticked n) = m
metered_one m not_entered = m

-- the depth that is left after an act
abbrev pub sunk_one : ℕ → Act → ℕ
sunk_one d entered = d - 1
sunk_one d left = d + 1
sunk_one d (asked p a) = d
sunk_one d (looked n k) = d
sunk_one d (placed p a) = d
sunk_one d (made n k) = d
sunk_one d (charged w) = d
sunk_one d (ticked n) = d
sunk_one d (wrote o) = d
sunk_one d (not_charged w) = d
sunk_one d (not_ticked n) = d
sunk_one d not_entered = d

-- a charge, a tick or an enter is refused exactly where its bound is passed
abbrev pub BoundedOne : Heap → Metered → ℕ → Act → Type 0
BoundedOne H m d (charged w) = H.spent + w ≤ H.limit
BoundedOne H m d (not_charged w) = H.limit < H.spent + w
BoundedOne H m d (ticked n) = m.used + n ≤ m.bound
BoundedOne H m d (not_ticked n) = m.bound < m.used + n
BoundedOne H m d entered = 0 < d
BoundedOne H m d not_entered = d ≡ 0
BoundedOne H m d left = Unit {0}
BoundedOne H m d (asked p a) = Unit {0}
BoundedOne H m d (looked n k) = Unit {0}
BoundedOne H m d (placed p a) = Unit {0}
BoundedOne H m d (made n k) = Unit {0}
BoundedOne H m d (wrote o) = Unit {0}

abbrev pub Bounded : Heap → Metered → ℕ → List Act → Type 0
Bounded H m d [] = Unit {0}
Bounded H m d (a ∷ more) =
    BoundedOne H m d a × Bounded (moved H a) (metered_one m a) (sunk_one d a) more

abbrev pub sunk : ℕ → List Act → ℕ
sunk d [] = d
sunk d (a ∷ more) = sunk (sunk_one d a) more

-- There are acts that the rules allow for the task, that fit the heap and the bounds before it, and that leave
-- the world after it.
pub record RunTold (fixed : Fixed) (d : ℕ) (K : Kind) (t : Task K) (old new : World) (r : Result (Of K) Stop) : Type 0 where
  pub acts : List Act
  pub allowed : Runs fixed K t acts r
  pub fits : Fits (heap old.seen) acts
  pub bounds : Bounded (heap old.seen) old.meter d acts
  pub after : acted_all acts old ≡ new
  pub level : IsDone r → sunk d acts ≡ d
