use Rattle.std.proofs.Common.{◌≡◌, ℕ, List, [], ◌∙◌, ap, sym, drop, arith}
use Rattle.std.proofs.lemmas.List.{nil_from_length}
use Rattle.page_reader.specs.Raw.{is_called}
use Rattle.page_reader.proofs.Called.{called_short}
use Rattle.page_reader.proofs.raw.is_called.Goals as goal

pub returns-in-None : goal.returns-in-None
returns-in-None c =
    let none : c.loop-letter.rest.now ≡ [] = nil_from_length _ c.in-None.ensures.cases in
    sym (c.loop-letter.invariant ∙ ap (λ (r : List ℕ). is_called (drop c.loop-letter.letter-index c.args.name.now) r) none ∙ called_short c.args.name.now c.loop-letter.letter-index (omega arith))
