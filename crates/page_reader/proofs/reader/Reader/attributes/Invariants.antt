use Rattle.std.proofs.Common.{◌≡◌, length}
use Rattle.grammar.specs.Grammar.{again, done}
use Rattle.grammar.specs.Reading.{read, and_then}
use Rattle.placed_chars.specs.Chars.{stop}
use Rattle.page_reader.specs.Attributes as form
use Rattle.page_reader.specs.Attributes.{Listing, listed}
use Rattle.page_reader.proofs.reader.Reader.attributes.Given as goal

abbrev pub invariant-pieces : goal.invariant-pieces
invariant-pieces l = record {
  reading : read stop (form.attributes l.fn.tag_at l.fn.tag) l.fn.self
      ≡ and_then (read stop (again form.attributes_go (form.attributes_piece l.fn.tag_at l.fn.tag) (Listing l.earlier l.is_spaced)) l.self) (λ s r. read stop (done (listed s)) r);
}

abbrev pub decreases-pieces : goal.decreases-pieces
decreases-pieces l = length l.self
