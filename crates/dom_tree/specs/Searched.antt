-- A search among siblings, between its start and its end.
use Rattle.std.specs.Prelude.{◌≡◌, ◌<◌, ◌≤◌, ℕ, ◌+◌, List, Option, length}
use Rattle.page_units.specs.declared.value.CellName.{CellName}
use Rattle.cell_places.specs.Lists.{Every}
use Rattle.cell_places.specs.Heap.{Heap}
use Rattle.cell_places.specs.Valid.{IsValid}
use Rattle.cell_places.specs.View.{View, run}
use Rattle.dom_tree.specs.Ids.{InTreeOrder, first_with, visited, visits}

-- The cells are there, and the nodes among them and below them, with the elements that were counted, are no more than
-- there can be cells.
pub record CanSearch (H : Heap) (cells : List CellName) (count : ℕ) : Type 0 where
  pub valid : IsValid H
  pub there : Every (λ (n : CellName). n.0 < length H.kinds) cells
  pub nodes : List CellName
  pub ordered : InTreeOrder H cells nodes
  pub room : count + length nodes ≤ 4000000000

-- what was found among nodes, counted and done
pub record Searched (H : Heap) (id : List ℕ) (v w : View) (nodes : List CellName) (cell : Option CellName) (old new : ℕ) : Type 0 where
  pub found : cell ≡ first_with H id nodes
  pub counted : new ≡ old + visited H id nodes
  pub done : w ≡ run v (visits H id nodes)
