use Rattle.std.proofs.Common.{◌≡◌, length}
use Rattle.grammar.specs.Grammar.{again}
use Rattle.grammar.specs.Reading.{read}
use Rattle.placed_chars.specs.Chars.{stop}
use Rattle.page_reader.specs.Names as form
use Rattle.page_reader.proofs.reader.Reader.name.Given as goal

abbrev pub invariant-characters : goal.invariant-characters
invariant-characters l = record { reading : read stop (form.name l.fn.letter) l.fn.self ≡ read stop (again form.name_goes form.more_name l.name.items) l.self }

abbrev pub decreases-characters : goal.decreases-characters
decreases-characters l = length l.self
