use Rattle.std.proofs.Common.{◌≡◌, length}
use Rattle.grammar.specs.Grammar.{again}
use Rattle.grammar.specs.Reading.{read, and_then}
use Rattle.placed_chars.specs.Chars.{stop}
use Rattle.page_reader.specs.Comments as form
use Rattle.page_reader.specs.Rules.{closed}
use Rattle.page_reader.proofs.reader.Reader.comment.Given as goal

abbrev pub invariant-characters : goal.invariant-characters
invariant-characters l = record { reading : read stop (form.comment l.fn.at) l.fn.self ≡ and_then (read stop (again form.comment_goes form.comment_character l.dashes) l.self) (λ _ r. read stop (closed l.fn.at) r) }

abbrev pub decreases-characters : goal.decreases-characters
decreases-characters l = length l.self
