-- The kinds of the cells that a page starts with, and that the rows of its tables can be put there.
use Rattle.std.proofs.Common.{◌≡◌, ℕ, zero, suc, List, [], ◌∷◌, length, take, Bool, true, false, ◌&&◌, Option, Some, None, slice_get, refl, subst}
use Rattle.std.specs.Prelude.{nat_lt}
use Rattle.std.specs.List.{list_all}
use Rattle.page_units.specs.declared.value.Value.{Value}
use Rattle.page_units.specs.declared.value.Value.TheVariants as v
use Rattle.cell_places.specs.declared.place.Place.{Place}
use Rattle.cell_places.specs.declared.place.Slot.{Slot}
use Rattle.cell_places.specs.declared.answer.Answer.{Answer}
use Rattle.cell_places.specs.declared.answer.Answer.TheVariants as a
use Rattle.cell_places.specs.declared.kind.CellKind.{CellKind}
use Rattle.cell_places.specs.declared.kind.CellKind.TheVariants as k
use Rattle.cell_places.specs.Kinds.{is_object}
use Rattle.cell_places.specs.Slots.{has_slot, sort_of, suits_one}
use Rattle.cell_places.specs.Heap.{kind_in}
use Rattle.cell_places.specs.Within.{ValueIn, is_below}
use Rattle.cell_places.specs.Valid.{ValueNumbers, CanAskIn, CanPutIn}
use Rattle.cell_places.specs.Known.{native_count}
use Rattle.cell_places.specs.StartRows.{Row, built_in_rows}
use Rattle.cell_places.specs.Start.{start_kinds}
use Rattle.cell_places.specs.Sound.{AnswerIsSound}
use Rattle.cell_places.proofs.EachPut.{both_true}

-- ---- kinds

-- names no cell, and if built in is one of those that there are
abbrev pub is_first : CellKind → Bool
is_first (k.Scope None) = true
is_first (k.Scope (Some outer)) = false
is_first (k.Fun code scope) = false
is_first (k.Native which) = nat_lt which native_count
is_first _ = true

-- a test of all kinds holds of each
each_passes : (test : CellKind → Bool) (kinds : List CellKind) → list_all test kinds ≡ true → (n : ℕ) (k : CellKind) → slice_get kinds n ≡ Some k → test k ≡ true
each_passes test [] e n k g = cc
each_passes test (x ∷ kinds) e zero k g =
    let same : x ≡ k = cc in
    subst (λ (y : CellKind). test y ≡ true) same (both_true (test x) (list_all test kinds) e).0
each_passes test (x ∷ kinds) e (suc n) k g = each_passes test kinds (both_true (test x) (list_all test kinds) e).1 n k g

-- ---- rows

has_at : Option CellKind → Slot → Bool
has_at None slot = false
has_at (Some k) slot = has_slot k slot

-- a value that is no number, and names no cell from n on
is_small : ℕ → Value → Bool
is_small n (v.Num z) = false
is_small n (v.Cell c) = nat_lt c.0 n
is_small n _ = true

-- the cell is there and has the slot, and the value suits it and is small
fits_at : List CellKind → Place → Answer → Bool
fits_at kinds p (a.One x) = has_at (slice_get kinds p.cell.0) p.slot && (suits_one (sort_of p.slot) x && is_small (length kinds) x)
fits_at kinds p _ = false

pub row_fits : List CellKind → Row → Bool
row_fits kinds r = fits_at kinds r.0 r.1

-- a value that names a cell names an object
pub row_is_sound : List CellKind → Row → Bool
row_is_sound kinds (p, a.One (v.Cell n)) = is_object (kind_in kinds n)
row_is_sound kinds (p, a.One _) = true
row_is_sound kinds (p, _) = false

asked_at : (kinds : List CellKind) (p : Place) (o : Option CellKind) → slice_get kinds p.cell.0 ≡ o → has_at o p.slot ≡ true → CanAskIn kinds p
unfolding has_at
asked_at kinds p None e h = absurd (cc)
asked_at kinds p (Some k) e h = (k, e, h)

small_names : (n : ℕ) (x : Value) → is_small n x ≡ true → ValueIn (is_below n) x
unfolding is_small
small_names n v.Undefined h = tt
small_names n v.Null h = tt
small_names n (v.Bool b) h = tt
small_names n (v.Num z) h = tt
small_names n (v.Str t) h = tt
small_names n (v.Cell c) h = h

small_numbers : (n : ℕ) (x : Value) → is_small n x ≡ true → ValueNumbers x
unfolding is_small
small_numbers n v.Undefined h = tt
small_numbers n v.Null h = tt
small_numbers n (v.Bool b) h = tt
small_numbers n (v.Num z) h = absurd (cc)
small_numbers n (v.Str t) h = tt
small_numbers n (v.Cell c) h = tt

fits_put : (kinds : List CellKind) (p : Place) (x : Answer) → fits_at kinds p x ≡ true → CanPutIn kinds p x
unfolding fits_at
fits_put kinds p (a.One x) h =
    let outer = both_true (has_at (slice_get kinds p.cell.0) p.slot) (suits_one (sort_of p.slot) x && is_small (length kinds) x) h in
    let inner = both_true (suits_one (sort_of p.slot) x) (is_small (length kinds) x) outer.1 in
    record {
      there = asked_at kinds p (slice_get kinds p.cell.0) refl outer.0;
      suits = inner.0;
      names = small_names (length kinds) x inner.1;
      numbers = small_numbers (length kinds) x inner.1;
    }
fits_put kinds p a.Absent h = absurd (cc)
fits_put kinds p (a.Names ns) h = absurd (cc)
fits_put kinds p (a.Cells cs) h = absurd (cc)
fits_put kinds p (a.Heard next ls) h = absurd (cc)
fits_put kinds p (a.Timers ts) h = absurd (cc)
fits_put kinds p (a.Guesses gs) h = absurd (cc)

-- a row that fits can be put
pub row_put : (kinds : List CellKind) (r : Row) → row_fits kinds r ≡ true → CanPutIn kinds r.0 r.1
unfolding row_fits
row_put kinds r h = fits_put kinds r.0 r.1 h

sound_value : (kinds : List CellKind) (p : Place) (x : Value) → row_is_sound kinds (p, a.One x) ≡ true → AnswerIsSound kinds (a.One x)
unfolding row_is_sound
sound_value kinds p v.Undefined h = tt
sound_value kinds p v.Null h = tt
sound_value kinds p (v.Bool b) h = tt
sound_value kinds p (v.Num z) h = tt
sound_value kinds p (v.Str t) h = tt
sound_value kinds p (v.Cell n) h = h

-- and one that is sound gives a sound answer
pub row_sound : (kinds : List CellKind) (p : Place) (x : Answer) → row_is_sound kinds (p, x) ≡ true → AnswerIsSound kinds x
unfolding row_is_sound
row_sound kinds p (a.One x) h = sound_value kinds p x h
row_sound kinds p a.Absent h = absurd (cc)
row_sound kinds p (a.Names ns) h = absurd (cc)
row_sound kinds p (a.Cells cs) h = absurd (cc)
row_sound kinds p (a.Heard next ls) h = absurd (cc)
row_sound kinds p (a.Timers ts) h = absurd (cc)
row_sound kinds p (a.Guesses gs) h = absurd (cc)

-- ---- the start

-- Kinds that a page can start with: its page and document in their places, and all rows of the tables fit and are sound.
pub record Founds (kinds : List CellKind) : Type 0 where
  pub count : length kinds ≡ 128
  pub start : take 128 kinds ≡ start_kinds
  pub page : slice_get kinds 1 ≡ Some k.Page
  pub document : slice_get kinds 2 ≡ Some k.Document
  pub each : (n : ℕ) (kind : CellKind) → slice_get kinds n ≡ Some kind → is_first kind ≡ true
  pub rows : list_all (row_fits kinds) built_in_rows ≡ true
  pub sound : list_all (row_is_sound kinds) built_in_rows ≡ true

-- the kinds that a page starts with are such
pub start_founds : Founds start_kinds
unfolding has_at is_small fits_at row_fits row_is_sound
start_founds = record {
  count = refl;
  start = refl;
  page = refl;
  document = refl;
  each = each_passes is_first start_kinds refl;
  rows = refl;
  sound = refl;
}
