use Rattle.std.proofs.Common.{[], ◌∷◌, refl, ap, ◌∙◌, pos, arith, rules, w64}
use Rattle.std.proofs.lemmas.Int.{ints, to_z-of_z}
use Rattle.std.proofs.lemmas.Result.{on_ok_weaker}
use mir.Val.{SFits}
use Rattle.page_units.specs.declared.value.Value.TheVariants.{Num}
use Rattle.cell_places.specs.declared.place.Slot.TheVariants.{Clock, NextTimer, NextGuess}
use Rattle.cell_places.specs.declared.answer.Answer.TheVariants.{One}
use Rattle.cell_places.specs.Heap.{Heap, place}
use Rattle.cell_places.specs.Known.{page_cell}
use Rattle.cell_places.specs.StartRows.{Row}
use Rattle.cell_places.proofs.StartIsSound.{number_allowed}
use Rattle.cell_heap.proofs.Putting.{rows_then}
use Rattle.cell_heap.proofs.base.Base.put_page.Goals as goal

pub put_value-requires : goal.put_value-requires
put_value-requires c =
    let fits : SFits w64 c.args.now = search rules in
    simp to_z-of_z (number_allowed _ _ _ c.requires.kinds refl refl c.requires.from c.requires.to)

pub put_value-requires-2 : goal.put_value-requires-2
put_value-requires-2 c =
    let kinds = ap (λ (H : Heap). H.kinds) c.in_ok-put_value.ensures ∙ c.requires.kinds in
    number_allowed _ _ _ kinds refl refl (omega (arith, ints)) (omega (arith, ints))

pub put_value-requires-3 : goal.put_value-requires-3
put_value-requires-3 c =
    let kinds = ap (λ (H : Heap). H.kinds) c.in_ok-put_value-2.ensures ∙ (ap (λ (H : Heap). H.kinds) c.in_ok-put_value.ensures ∙ c.requires.kinds) in
    number_allowed _ _ _ kinds refl refl (omega (arith, ints)) (omega (arith, ints))

pub returns : goal.returns
returns c =
    let fits : SFits w64 c.args.now = search rules in
    let after_clock = simp to_z-of_z at c.in_ok-put_value.ensures in
    let clock : Row = (place page_cell Clock, One (Num c.args.now)) in
    let timer : Row = (place page_cell NextTimer, One (Num (pos 1))) in
    let guess : Row = (place page_cell NextGuess, One (Num (pos 1))) in
    on_ok_weaker c.put_value-3.result
    (λ last. rows_then _ _ _ (clock ∷ []) (timer ∷ guess ∷ []) after_clock (rows_then _ _ _ (timer ∷ []) (guess ∷ []) c.in_ok-put_value-2.ensures last))
    c.put_value-3.ensures
