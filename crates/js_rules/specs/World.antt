-- All that a call may change besides what it returns (this project's own).
use Rattle.std.specs.Prelude.{ℕ, ◌+◌, List, [], ◌∷◌, ◌++◌}
use Rattle.page_units.specs.declared.event.Request.{Request}
use Rattle.page_units.specs.Metered.{Metered, begun, ticked as metered}
use Rattle.cell_places.specs.View.{View, step}
use Rattle.cell_places.specs.Outward.{Outward, line, request, ended, handled, began}
use Rattle.cell_places.specs.Acts.{Act, asked, looked, placed, made, charged, ticked, entered, left, wrote, not_charged, not_ticked, not_entered}

-- the lines and the requests of a command
pub record Sent : Type 0 where
  pub lines : List (List ℕ)
  pub queue : List Request

-- the ends of the calls that the host made, and how many were listeners'
pub record Told : Type 0 where
  pub ends : List (List ℕ)
  pub handled : ℕ

-- what a contract sees of the heap, of the meter, and of what went out
pub record World : Type 0 where
  pub seen : View
  pub meter : Metered
  pub sent : Sent
  pub told : Told

abbrev pub world : View → Metered → Sent → Told → World
world v m s t = record { seen = v; meter = m; sent = s; told = t }

-- ---- what an act changes besides the heap

abbrev pub sent_with : Sent → Outward → Sent
sent_with s (line t) = record s { lines = s.lines ++ t ∷ [] }
sent_with s (request r) = record s { queue = s.queue ++ r ∷ [] }
sent_with s (ended t) = s
sent_with s handled = s
sent_with s (began n) = s

abbrev pub told_with : Told → Outward → Told
told_with t (ended x) = record t { ends = t.ends ++ x ∷ [] }
told_with t handled = record t { handled = t.handled + 1 }
told_with t (line x) = t
told_with t (request r) = t
told_with t (began n) = t

abbrev pub metered_with : Metered → Outward → Metered
metered_with m (began n) = begun n m
metered_with m (line x) = m
metered_with m (request r) = m
metered_with m (ended x) = m
metered_with m handled = m

abbrev pub outward : Outward → World → World
outward o w = world w.seen (metered_with w.meter o) (sent_with w.sent o) (told_with w.told o)

-- the world after an act
abbrev pub acted : Act → World → World
acted (ticked n) w = world w.seen (metered n w.meter) w.sent w.told
acted (wrote o) w = outward o w
acted (asked p a) w = world (step w.seen (asked p a)) w.meter w.sent w.told
acted (placed p a) w = world (step w.seen (placed p a)) w.meter w.sent w.told
acted (made n k) w = world (step w.seen (made n k)) w.meter w.sent w.told
acted (charged n) w = world (step w.seen (charged n)) w.meter w.sent w.told
acted (looked n k) w = w
acted entered w = w
acted left w = w
acted (not_charged n) w = w
acted (not_ticked n) w = w
acted not_entered w = w

abbrev pub acted_all : List Act → World → World
acted_all [] w = w
acted_all (a ∷ more) w = acted_all more (acted a w)
