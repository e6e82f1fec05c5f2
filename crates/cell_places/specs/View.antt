-- What a contract sees of a `Cells`: a heap, or a layer over what lies beneath.
use Rattle.std.specs.Prelude.{◌≡◌, ℕ, ◌+◌, List, [], ◌∷◌, ◌++◌, Bool, cond, ◌||◌, ◌&&◌, not, nat_eq, nat_lt, Option, Some, None}
use Rattle.std.proofs.Common.{◌⊎◌}
use Rattle.std.specs.List.{list_any}
use Rattle.std.specs.Option.{is_some}
use base.Fml.{GName}
use Rattle.page_units.specs.declared.value.CellName.{CellName}
use Rattle.cell_places.specs.declared.place.Place.{Place}
use Rattle.cell_places.specs.declared.answer.Answer.{Answer}
use Rattle.cell_places.specs.declared.kind.CellKind.{CellKind}
use Rattle.cell_places.specs.Heap.{Heap, same_place}
use Rattle.cell_places.specs.Acts.{Act, asked, looked, placed, made, charged, ticked, entered, left, wrote, not_charged, not_ticked, not_entered, moved}

-- how often each cell of a heap was put, where that is counted
pub data Changes : Type 0 where
  uncounted : Changes
  counted : (CellName → ℕ) → Changes

-- one put more at a cell
abbrev pub raised : Changes → CellName → Changes
raised uncounted n = uncounted
raised (counted times) n = counted (λ m. cond (nat_eq n.0 m.0) (times m + 1) (times m))

-- the change number of a cell: how often it was put, below 2^64 - 1
abbrev pub change_number : Changes → CellName → Option ℕ
change_number uncounted n = None
change_number (counted times) n = cond (nat_lt (times n) 18446744073709551615) (Some (times n)) None

-- a layer, which records its reads: the reference to what lies beneath, the heap that it stands for, its first reads,
-- the last puts, the cells that were put, and how many cells stood beneath
pub record Layer : Type 0 where
  pub name : GName
  pub top : Heap
  pub rows : List (Place × Answer)
  pub puts : Place → Option Answer
  pub touched : CellName → Bool
  pub first : ℕ

pub data View : Type 0 where
  -- a heap, which doesn't record its reads
  ground : Heap → Changes → View
  over : Layer → View → View

-- the heap that it stands for
abbrev pub heap : View → Heap
heap (ground H c) = H
heap (over l v) = l.top

-- the change number of a cell: that beneath where the cell stood there and wasn't put in the layer, else none
abbrev pub number_of : View → CellName → Option ℕ
number_of (ground H c) n = change_number c n
number_of (over l v) n = cond (nat_lt n.0 l.first && not (l.touched n)) (number_of v n) None

-- the places that were put, and those of cells that didn't stand beneath
abbrev pub own : Layer → Place → Bool
own l p = is_some (l.puts p) || not (nat_lt p.cell.0 l.first)

abbrev pub has_row : List (Place × Answer) → Place → Bool
has_row rows p = list_any (λ (r : Place × Answer). same_place r.0 p) rows

-- a first ask adds a row
abbrev pub with_row : Layer → Place → Answer → Layer
with_row l p a = record l { rows = cond (has_row l.rows p) l.rows (l.rows ++ (p, a) ∷ []) }

abbrev pub with_put : Layer → Place → Answer → Layer
with_put l p a = record l {
  top = moved l.top (placed p a);
  puts = λ q. cond (same_place p q) (Some a) (l.puts q);
  touched = λ n. nat_eq p.cell.0 n.0 || l.touched n;
}

-- what an ask leaves
abbrev pub asked_in : Place → Answer → View → View
asked_in p a (ground H c) = ground H c
asked_in p a (over l v) = cond (own l p) (over l v) (over (with_row l p a) (asked_in p a v))

abbrev pub placed_in : Place → Answer → View → View
placed_in p a (ground H c) = ground (moved H (placed p a)) (raised c p.cell)
placed_in p a (over l v) = over (with_put l p a) v

abbrev pub made_in : CellName → CellKind → View → View
made_in n k (ground H c) = ground (moved H (made n k)) c
made_in n k (over l v) = over (record l { top = moved l.top (made n k) }) v

abbrev pub charged_in : ℕ → View → View
charged_in w (ground H c) = ground (moved H (charged w)) c
charged_in w (over l v) = over (record l { top = moved l.top (charged w) }) v

-- what one act leaves
abbrev pub step : View → Act → View
step v (asked p a) = asked_in p a v
step v (placed p a) = placed_in p a v
step v (made n k) = made_in n k v
step v (charged w) = charged_in w v
step v (looked n k) = v
step v (ticked n) = v
step v entered = v
step v left = v
step v (wrote o) = v
step v (not_charged w) = v
step v (not_ticked n) = v
step v not_entered = v

abbrev pub run : View → List Act → View
run v [] = v
run v (a ∷ more) = run (step v a) more

-- an ask that ran out of memory: nothing changed, or it came to an end beneath
abbrev pub LapsedIn : View → View → Place → Type 0
LapsedIn (ground H c) new p = new ≡ ground H c
LapsedIn (over l v) new p = (w : View) × (new ≡ over l w) × (LapsedIn v w p ⊎ (w ≡ asked_in p ((heap v).at p) v))

pub record Lapsed (old new : View) (p : Place) : Type 0 where
  pub within : LapsedIn old new p
