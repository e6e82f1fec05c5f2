use Rattle.page_units.specs.declared.value.CellName.{CellName}
use Rattle.std.proofs.Common.{◌≡◌, [], ◌∷◌, subst}
use Rattle.std.specs.Prelude.{codes, OnOk}
use Rattle.std.proofs.lemmas.Result.{on_ok_weaker}
use Rattle.page_units.specs.declared.value.Value.TheVariants.{Cell}
use Rattle.cell_places.specs.Acts.{after}
use Rattle.cell_places.specs.StartRows.{Row, puts, property, binding}
use Rattle.cell_heap.specs.Base.{heap_of}
use Rattle.cell_heap.proofs.Putting.{rows_then}
use Rattle.cell_heap.proofs.base.Base.put_constructor.Goals as goal

pub returns : goal.returns
returns c =
    let function = c.function_cell-function.result in
    let back : CellName → Row = λ n. property c.args.constructor.2 (codes "constructor") (Cell n) in
    let made : CellName → Row = λ n. property n (codes "prototype") (Cell c.args.constructor.2) in
    let bound : CellName → Row = λ n. binding c.args.constructor.0.now (Cell n) in
    let P : CellName → Type 0 = λ n. OnOk c.bind.result (heap_of c.bind.new.self ≡ after (heap_of c.args.self.now) (puts (back n ∷ made n ∷ bound n ∷ []))) in
    let all : P function =
    on_ok_weaker c.bind.result
    (λ last. rows_then (heap_of c.args.self.now) _ _ (back function ∷ []) (made function ∷ bound function ∷ []) c.in_ok-put_own.ensures
    (rows_then (heap_of c.put_own.new.self) _ _ (made function ∷ []) (bound function ∷ []) c.in_ok-put_own-2.ensures last))
    c.bind.ensures in
    subst P c.function_cell-function.ensures all
