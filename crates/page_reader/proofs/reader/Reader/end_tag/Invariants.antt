use Rattle.std.proofs.Common.{◌≡◌, length}
use Rattle.grammar.specs.Grammar.{again}
use Rattle.grammar.specs.Reading.{read, and_then}
use Rattle.placed_chars.specs.Chars.{stop}
use Rattle.page_reader.specs.declared.fault.PageRule.TheVariants.{BadTag}
use Rattle.page_reader.specs.Classes.{is_gt}
use Rattle.page_reader.specs.Rules.{must, cut_off, fault}
use Rattle.page_reader.specs.Tags as form
use Rattle.page_reader.proofs.reader.Reader.end_tag.Given as goal

abbrev pub invariant-spaces : goal.invariant-spaces
invariant-spaces l = record {
  reading : read stop (form.end_tag l.fn.at l.fn.name) l.fn.self ≡ and_then (read stop (again form.white_goes form.white tt) l.self) (λ _ r. read stop (must is_gt (cut_off l.fn.at (fault BadTag l.fn.at))) r);
}

abbrev pub decreases-spaces : goal.decreases-spaces
decreases-spaces l = length l.self
