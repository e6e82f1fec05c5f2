use Rattle.std.proofs.Common.{◌≡◌, drop}
use Rattle.grammar.specs.Reading.{read}
use Rattle.placed_chars.specs.Chars.{stop}
use Rattle.page_reader.specs.Tags as form
use Rattle.page_reader.proofs.reader.Reader.same_name.Given as goal

abbrev pub invariant-loop-letter : goal.invariant-loop-letter
invariant-loop-letter l = read stop (form.same_name l.fn.at l.fn.name) l.fn.self ≡ read stop (form.same_name l.fn.at (drop l.letter-index l.fn.name)) l.self
