-- Nodes that are found, and their children.
use Rattle.std.proofs.Common.{◌≡◌, ◌<◌, length, List, Option, Some, slice_get, ap, ◌∙◌}
use Rattle.std.proofs.lemmas.Bool.{ltb-true}
use Rattle.page_units.specs.declared.value.CellName.{CellName}
use Rattle.cell_places.specs.declared.place.Slot.TheVariants as s
use Rattle.cell_places.specs.declared.kind.CellKind.{CellKind}
use Rattle.cell_places.specs.declared.answer.Answer.{Answer}
use Rattle.cell_places.specs.declared.answer.Answer.TheVariants as a
use Rattle.cell_places.specs.Lists.{Every}
use Rattle.cell_places.specs.Heap.{Heap, place, or_plain, kind_at, cells_in, children_at}
use Rattle.cell_places.specs.Valid.{Stands, IsValid}
use Rattle.cell_places.specs.View.{View, heap}
use Rattle.cell_places.specs.Rooted.{Still}
use Rattle.cell_places.proofs.Runs.{Still-heap}
use Rattle.cell_places.proofs.Grown.{Every-map}

-- a kind that is found is the kind of the cell
found : (o : Option CellKind) (k : CellKind) → o ≡ Some k → or_plain o ≡ k
found o k e = ap or_plain e

pub kind_found : (H : Heap) (n : CellName) (k : CellKind) → slice_get H.kinds n.0 ≡ Some k → kind_at H n ≡ k
kind_found H n k e = found (slice_get H.kinds n.0) k e

-- the children that were asked for are those of the heap before
pub children_still : (v w : View) (n : CellName) (cells : List CellName) (answer : Answer) → Still v w → cells ≡ cells_in answer → answer ≡ (heap w).at (place n s.Children) → cells ≡ children_at (heap v) n
children_still v w n cells answer still e f = e ∙ (ap cells_in f ∙ ap (λ (H : Heap). children_at H n) (Still-heap v w still))

stands_there : (kinds : List CellKind) (n : CellName) (x : Answer) → Stands kinds (place n s.Children) x → Every (λ (m : CellName). m.0 < length kinds) (cells_in x)
stands_there kinds n a.Absent h = tt
stands_there kinds n (a.One x) h = tt
stands_there kinds n (a.Names ns) h = tt
stands_there kinds n (a.Cells cs) h = Every-map _ _ (λ (m : CellName) e. ltb-true m.0 (length kinds) e) cs h.names
stands_there kinds n (a.Heard next ls) h = tt
stands_there kinds n (a.Timers ts) h = tt
stands_there kinds n (a.Guesses gs) h = tt

-- children are there
pub children_there : (H : Heap) → IsValid H → (n : CellName) → Every (λ (m : CellName). m.0 < length H.kinds) (children_at H n)
children_there H valid n = stands_there H.kinds n (H.at (place n s.Children)) (valid.places (place n s.Children))
