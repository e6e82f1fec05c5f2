-- The heap that a page starts with (this project's own): its 128 cells, and what stands at their slots.
use Rattle.std.specs.Prelude.{ℕ, ℤ, ◌+◌, zero, suc, List, [], ◌∷◌, ◌++◌, None, replicate}
use Rattle.cell_places.specs.declared.answer.Answer.TheVariants.{Absent}
use Rattle.cell_places.specs.declared.kind.FaultName.TheVariants as f
use Rattle.cell_places.specs.declared.kind.CellKind.{CellKind}
use Rattle.cell_places.specs.declared.kind.CellKind.TheVariants.{Scope, Plain, List as ListKind, Fault, Native, Page, Document}
use Rattle.cell_places.specs.Heap.{Heap}
use Rattle.cell_places.specs.Acts.{Act, after}
use Rattle.cell_places.specs.Known.{native_count, reserve_count}
use Rattle.cell_places.specs.StartRows.{puts, start_rows}
pub use Rattle.cell_places.specs.Known.{page_cell, document_cell, node_prototype}

-- so many built-in functions, from a number on
abbrev pub natives : ℕ → ℕ → List CellKind
natives from zero = []
natives from (suc many) = Native from ∷ natives (from + 1) many

-- 0 the global scope, 1 the page, 2 the document, 3 and 4 the prototypes of objects and functions, 5 that of lists,
-- 6 to 8 those of texts, numbers and truth values, 9 to 13 those of faults, 14 and 15 those of nodes and events,
-- 16 to 20 Math, JSON, console, net and crom
abbrev pub start_objects : List CellKind
start_objects =
    Scope None ∷ Page ∷ Document ∷ Plain ∷ Plain ∷ ListKind ∷ Plain ∷ Plain ∷ Plain
    ∷ Fault f.Error ∷ Fault f.TypeError ∷ Fault f.RangeError ∷ Fault f.ReferenceError ∷ Fault f.SyntaxError
    ∷ Plain ∷ Plain ∷ Plain ∷ Plain ∷ Plain ∷ Plain ∷ Plain ∷ []

-- from 21 on the built-in functions; behind them plain objects in reserve
abbrev pub start_kinds : List CellKind
start_kinds = start_objects ++ (natives 0 native_count ++ replicate reserve_count Plain)

-- cells without answers
abbrev pub bare_heap : List CellKind → ℕ → Heap
bare_heap kinds weight = record { at = λ p. Absent; kinds = kinds; spent = 0; limit = weight }

abbrev pub start_puts : ℤ → List Act
start_puts now = puts (start_rows now)

abbrev pub start : (weight : ℕ) (now : ℤ) → Heap
start weight now = after (bare_heap start_kinds weight) (start_puts now)
