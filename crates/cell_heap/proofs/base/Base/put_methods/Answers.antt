use Rattle.page_units.specs.declared.value.CellName.{CellName}
use Rattle.page_units.specs.declared.value.Value.TheVariants.{Cell}
use Rattle.cell_places.specs.declared.place.Slot.TheVariants.{Own}
use Rattle.cell_places.specs.declared.answer.Answer.TheVariants.{One}
use Rattle.cell_places.specs.Heap.{place}
use Rattle.cell_places.specs.Valid.{CanPutIn}
use Rattle.cell_places.specs.Acts.{placed, moved}
use Rattle.std.proofs.Common.{◌≡◌, map, take, get_or, sym, subst}
use Rattle.cell_heap.specs.Base.{heap_of}
use Rattle.cell_heap.specs.StartParts.{method_of}
use Rattle.cell_heap.proofs.Putting.{kinds_kept, item_put, row_more}
use Rattle.cell_heap.proofs.base.Base.put_methods.Goals as goal

pub put_own-requires : goal.put_own-requires
put_own-requires c =
    let kinds = kinds_kept (heap_of c.args.self.now) (heap_of c.loop-method.self) (map method_of (take c.loop-method.method-index c.args.methods.now)) c.requires.kinds c.loop-method.invariant in
    let m = get_or c.args.methods.now c.loop-method.method-index _ in
    let P : CellName → Type 0 = λ n. CanPutIn (heap_of c.loop-method.self).kinds (place m.0 (Own m.1.now)) (One (Cell n)) in
    subst P (sym c.function_cell.ensures)
    (item_put method_of c.args.methods.now c.loop-method.method-index _ _ kinds c.requires.allowed c.loop-method-test.true)

pub loop-method-preserved : goal.loop-method-preserved
loop-method-preserved c =
    let m = get_or c.args.methods.now c.loop-method.method-index _ in
    let P : CellName → Type 0 = λ n. heap_of c.put_own.new.self ≡ moved (heap_of c.loop-method.self) (placed (place m.0 (Own m.1.now)) (One (Cell n))) in
    row_more method_of c.args.methods.now c.loop-method.method-index _ _ _ _ c.loop-method-test.true c.loop-method.invariant
    (subst P c.function_cell.ensures c.in_ok-put_own.ensures)
