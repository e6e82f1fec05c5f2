use Rattle.std.proofs.Common.{◌≡◌, ◌≤◌, length}
use Rattle.grammar.specs.Grammar.{again, done}
use Rattle.grammar.specs.Reading.{read, and_then}
use Rattle.grammar.specs.Words.{◌>>◌}
use Rattle.placed_chars.specs.Chars.{stop}
use Rattle.page_reader.specs.References as form
use Rattle.page_reader.specs.Rules.{must}
use Rattle.page_reader.proofs.reader.Reader.number.Given as goal

abbrev pub invariant-digits : goal.invariant-digits
invariant-digits l = record {
  small : l.number ≤ 0x10_FFFF;
  reading : read stop (form.number l.fn.owner l.fn.at l.fn.base) l.fn.self
      ≡ and_then (read stop (again (form.number_goes l.fn.base) (form.more_number l.fn.base) l.number) l.self) (λ n r. read stop (must (form.number_ends n) (form.bad_reference l.fn.owner l.fn.at) >> done n) r);
}

abbrev pub decreases-digits : goal.decreases-digits
decreases-digits l = length l.self
