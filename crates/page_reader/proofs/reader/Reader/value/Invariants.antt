use Rattle.std.proofs.Common.{◌≡◌, length}
use Rattle.grammar.specs.Grammar.{again, done}
use Rattle.grammar.specs.Reading.{read, and_then}
use Rattle.grammar.specs.Words.{◌>>◌}
use Rattle.placed_chars.specs.Chars.{stop}
use Rattle.page_reader.specs.declared.fault.PageRule.TheVariants.{Unclosed}
use Rattle.page_reader.specs.Attributes as form
use Rattle.page_reader.specs.Rules.{must, fault}
use Rattle.page_reader.proofs.reader.Reader.value.Given as goal

abbrev pub invariant-pieces : goal.invariant-pieces
invariant-pieces l = record {
  reading : read stop (form.value l.fn.tag_at l.fn.quote) l.fn.self
      ≡ and_then (read stop (again (form.value_goes l.fn.quote) (form.value_piece l.fn.tag_at l.fn.quote) l.units.items) l.self) (λ units r. read stop (must (form.ends_value l.fn.quote) (λ _. fault Unclosed l.fn.tag_at) >> done units) r);
}

abbrev pub decreases-pieces : goal.decreases-pieces
decreases-pieces l = length l.self
