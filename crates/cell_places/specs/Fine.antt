-- What speaks of no cell but those that are there, each of the kind that it has to be (this project's own).
use Rattle.std.specs.Prelude.{◌≡◌, ◌<◌, ◌≤◌, ◌+◌, ℕ, true, List, length, slice_get}
use Rattle.page_units.specs.declared.value.CellName.{CellName}
use Rattle.page_units.specs.declared.value.Value.{Value}
use Rattle.page_units.specs.declared.value.Value.TheVariants as v
use Rattle.cell_places.specs.declared.answer.Answer.TheVariants as a
use Rattle.cell_places.specs.declared.kind.CellKind.{CellKind}
use Rattle.cell_places.specs.Kinds.{is_scope, is_object, is_function}
use Rattle.cell_places.specs.Heap.{Heap, kind_in, weight_left}
use Rattle.cell_places.specs.Known.{object_prototype, function_prototype}
use Rattle.cell_places.specs.Within.{ValueIn, KindIn, is_below}
use Rattle.cell_places.specs.Valid.{ValueNumbers}
use Rattle.cell_places.specs.Sound.{AnswerIsSound, KindIsSound, IsSound}

-- a value that may stand wherever a value may
pub record FineValue (kinds : List CellKind) (x : Value) : Type 0 where
  pub there : ValueIn (is_below (length kinds)) x
  pub object : AnswerIsSound kinds (a.One x)
  pub number : ValueNumbers x

pub record FineScope (kinds : List CellKind) (n : CellName) : Type 0 where
  pub scope : is_scope (kind_in kinds n) ≡ true

-- a cell that is there and that a value may name
pub record FineObject (kinds : List CellKind) (n : CellName) : Type 0 where
  pub there : n.0 < length kinds
  pub object : is_object (kind_in kinds n) ≡ true

-- one that can be called
pub record FineFunction (kinds : List CellKind) (n : CellName) : Type 0 where
  pub called : is_function (kind_in kinds n) ≡ true

-- a kind that a cell may be made of
pub record FineKind (codes : ℕ) (kinds : List CellKind) (k : CellKind) : Type 0 where
  pub there : KindIn (is_below (length kinds)) k
  pub sound : KindIsSound codes kinds k

-- Cells are only added, and none changes its kind.
pub record Grows (kinds more : List CellKind) : Type 0 where
  pub count : length kinds ≤ length more
  pub same : (n : ℕ) → n < length kinds → slice_get more n ≡ slice_get kinds n

-- a sound heap under a name that no proof opens unasked
unfoldable pub SoundHeap : ℕ → Heap → Type 0
SoundHeap codes H = IsSound codes H

-- A sound heap, with what is read of it: there is room for the weight that is left, and the prototypes of objects and
-- of functions are values.
pub record Sound (codes : ℕ) (H : Heap) : Type 0 where
  pub is : SoundHeap codes H
  pub room : length H.kinds + weight_left H ≤ 3999999999
  pub objects : FineValue H.kinds (v.Cell object_prototype)
  pub functions : FineValue H.kinds (v.Cell function_prototype)
