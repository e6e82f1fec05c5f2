use Rattle.page_units.specs.declared.value.CellName.{CellName}
use Rattle.page_units.specs.declared.value.Value.TheVariants.{Cell}
use Rattle.cell_places.specs.declared.place.Slot.TheVariants.{Proto}
use Rattle.cell_places.specs.declared.answer.Answer.TheVariants.{One}
use Rattle.cell_places.specs.Heap.{place}
use Rattle.cell_places.specs.Valid.{CanPutIn}
use Rattle.cell_places.specs.Acts.{placed, moved}
use Rattle.cell_places.specs.Known.{function_prototype}
use Rattle.cell_places.specs.StartRows.{function_prototype_rows}
use Rattle.cell_heap.specs.Base.{heap_of}
use Rattle.std.proofs.Common.{◌≡◌, sym, subst, arith}
use Rattle.cell_heap.proofs.StartRows.{function_row, function_put}
use Rattle.cell_heap.proofs.Putting.{kinds_kept, put_there, function_more, functions_all}
use Rattle.cell_heap.proofs.base.Base.put_function_prototypes.Goals as goal

pub put_value-requires : goal.put_value-requires
put_value-requires c =
    let kinds = kinds_kept (heap_of c.args.self.now) (heap_of c.loop-which.self) (function_prototype_rows c.loop-which.which) c.requires c.loop-which.invariant in
    let P : CellName → Type 0 = λ n. CanPutIn (heap_of c.loop-which.self).kinds (place n Proto) (One (Cell function_prototype)) in
    subst P (sym c.function_cell.ensures)
    (put_there _ (function_row c.loop-which.which) kinds (function_put c.loop-which.which c.loop-which-test.true))

pub loop-which-preserved : goal.loop-which-preserved
loop-which-preserved c =
    let P : CellName → Type 0 = λ n. heap_of c.put_value.new.self ≡ moved (heap_of c.loop-which.self) (placed (place n Proto) (One (Cell function_prototype))) in
    function_more c.loop-which.which _ _ _ c.loop-which.invariant (subst P c.function_cell.ensures c.in_ok-put_value.ensures)

pub returns : goal.returns
returns c =
    let past = c.loop-which-test.false in
    let few = c.loop-which.auto.which-end in
    functions_all c.loop-which.which _ _ (omega arith) c.loop-which.invariant
