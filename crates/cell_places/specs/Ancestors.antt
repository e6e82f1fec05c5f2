-- Ancestors among nodes.
use Rattle.page_units.specs.declared.value.CellName.{CellName}
use Rattle.cell_places.specs.Heap.{Heap}
use Rattle.cell_places.specs.Sound.{HasParent}

-- an inclusive ancestor (WHATWG DOM, 4.2): the node itself, or one above it
pub data IsAncestor (H : Heap) (ancestor : CellName) : CellName → Type 0 where
  itself : IsAncestor H ancestor ancestor
  above : (n m : CellName) → HasParent H n m → IsAncestor H ancestor m → IsAncestor H ancestor n
