-- An ask changes nothing, and what was true of the heap before is true after it.
use Rattle.std.proofs.Common.{◌≡◌, Result, Ok, Err, IfOk, OnErr, subst, sym}
use Rattle.cell_places.specs.declared.place.Place.{Place}
use Rattle.cell_places.specs.declared.answer.Answer.{Answer}
use Rattle.cell_places.specs.Heap.{Heap}
use Rattle.cell_places.specs.Acts.{asked}
use Rattle.cell_places.specs.View.{View, heap, step, Lapsed}
use Rattle.cell_places.specs.Rooted.{Still}
use Rattle.cell_places.proofs.Runs.{Still-ask, Still-heap, Lapsed-Still}

-- whether the answer came or memory was wanting
pub asked_still : {E : Type 0} (v w : View) (p : Place) (r : Result Answer E) → IfOk r (λ a. w ≡ step v (asked p a)) → OnErr r (Lapsed v w p) → Still v w
asked_still v w p (Ok a) e l = subst (Still v) (sym e) (Still-ask v p a)
asked_still v w p (Err x) e l = Lapsed-Still v w p l

-- what is true of a heap is true after reads, and was true before them
pub still_on : (P : Heap → Type 0) (v w : View) → Still v w → P (heap v) → P (heap w)
still_on P v w s h = subst P (sym (Still-heap v w s)) h

pub still_back : (P : Heap → Type 0) (v w : View) → Still v w → P (heap w) → P (heap v)
still_back P v w s h = subst P (Still-heap v w s) h
