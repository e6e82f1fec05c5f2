-- Rows that are put in a start, and those of the program's tables.
use Rattle.std.specs.Prelude.{◌≡◌, List}
use Rattle.cell_places.specs.declared.kind.CellKind.{CellKind}
use Rattle.cell_places.specs.Lists.{Every}
use Rattle.cell_places.specs.Valid.{CanPutIn}
use Rattle.cell_places.specs.Acts.{after}
use Rattle.cell_places.specs.StartRows.{Row, puts, method_row, constructor_rows, fault_rows, object_binding}
use Rattle.cell_heap.specs.declared.base.Base.{Base}
use Rattle.cell_heap.specs.declared.tables.Method.{Method}
use Rattle.cell_heap.specs.declared.tables.Constructor.{Constructor}
use Rattle.cell_heap.specs.declared.tables.FaultPrototype.{FaultPrototype}
use Rattle.cell_heap.specs.declared.tables.GlobalName.{GlobalName}
use Rattle.cell_heap.specs.Base.{heap_of}

-- each of the rows can be put
abbrev pub CanPutAll : List CellKind → List Row → Type 0
CanPutAll kinds rows = Every (λ (r : Row). CanPutIn kinds r.0 r.1) rows

-- these were put in a base, one after another
abbrev pub HasPut : Base → Base → List Row → Type 0
HasPut old new rows = heap_of new ≡ after (heap_of old) (puts rows)

-- ---- the rows of a line of a table

abbrev pub method_of : Method → Row
method_of m = method_row (m.0, m.1.now, m.2)

abbrev pub constructor_of : Constructor → List Row
constructor_of c = constructor_rows (c.0.now, c.1, c.2)

abbrev pub fault_of : FaultPrototype → List Row
fault_of f = fault_rows (f.0, f.1.now)

abbrev pub global_of : GlobalName → Row
global_of g = object_binding (g.0.now, g.1)
