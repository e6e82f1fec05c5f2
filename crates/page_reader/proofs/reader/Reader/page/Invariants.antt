use Rattle.std.proofs.Common.{◌≡◌, length}
use Rattle.grammar.specs.Grammar.{again, done}
use Rattle.grammar.specs.Reading.{read, and_then}
use Rattle.placed_chars.specs.Chars.{stop}
use Rattle.page_reader.specs.PageForm as form
use Rattle.page_reader.specs.Content.{found}
use Rattle.page_reader.proofs.reader.Reader.page.Given as goal

abbrev pub invariant-front_pads : goal.invariant-front_pads
invariant-front_pads l = record {
  reading : read stop (form.page l.fn.room) l.fn.self
      ≡ and_then (read stop (again form.outside_goes form.pad_before l.outside) l.self) (λ o r. and_then (read stop (form.root l.fn.room o) r) (λ f r'. and_then (read stop (again form.pad_goes form.pad_behind tt) r') (λ _ r''. and_then (read stop form.last r'') (λ _ s. read stop (done f) s))));
}

abbrev pub decreases-front_pads : goal.decreases-front_pads
decreases-front_pads l = length l.self

abbrev pub invariant-back_pads : goal.invariant-back_pads
invariant-back_pads l = record {
  reading : read stop (form.page l.fn.room) l.fn.self
      ≡ and_then (read stop (again form.pad_goes form.pad_behind tt) l.self) (λ _ r. and_then (read stop form.last r) (λ _ s. read stop (done (found l.node l.scripts)) s));
}

abbrev pub decreases-back_pads : goal.decreases-back_pads
decreases-back_pads l = length l.self
