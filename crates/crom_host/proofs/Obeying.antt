-- Commands that change nothing.
use Rattle.std.proofs.Common.{◌≡◌, [], sym, subst}
use Rattle.std.specs.Prelude.{Result}
use Rattle.cell_places.specs.Heap.{Heap}
use Rattle.http_wire.specs.Asked.{Asked}
use Rattle.http_wire.specs.Refusal.{Refusal}
use Rattle.crom_host.specs.Replying.{Reply}
use Rattle.crom_host.specs.Plain.{Settings, PlainHost, hosted, PlainStep, Answered}

-- a step of a command leaves the heap
pub step_same : (s : Settings) (H H' : Heap) (asked it : Asked) (r : Reply) → asked ≡ it → H' ≡ H → PlainStep s (hosted H) it [] [] r (hosted H) → PlainStep s (hosted H) asked [] [] r (hosted H')
step_same s H H' asked it r is same step =
    subst (λ (K : Heap). PlainStep s (hosted H) asked [] [] r (hosted K)) (sym same) (subst (λ (x : Asked). PlainStep s (hosted H) x [] [] r (hosted H)) (sym is) step)

-- what came is answered so
pub answered_so : (s : Settings) (h h' : PlainHost) (came it : Result Asked Refusal) (r : Reply) → came ≡ it → Answered s h it [] [] r h' → Answered s h came [] [] r h'
answered_so s h h' came it r is answered = subst (λ (x : Result Asked Refusal). Answered s h x [] [] r h') (sym is) answered
