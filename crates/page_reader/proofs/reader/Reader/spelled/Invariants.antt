use Rattle.std.proofs.Common.{◌≡◌, drop}
use Rattle.grammar.specs.Reading.{read}
use Rattle.placed_chars.specs.Chars.{stop}
use Rattle.page_reader.specs.References as form
use Rattle.page_reader.proofs.reader.Reader.spelled.Given as goal

abbrev pub invariant-loop-letter : goal.invariant-loop-letter
invariant-loop-letter l = read stop (form.spelled l.fn.owner l.fn.at l.fn.c l.fn.letters) l.fn.self ≡ read stop (form.spelled l.fn.owner l.fn.at l.fn.c (drop l.letter-index l.fn.letters)) l.self
