use Rattle.std.proofs.Common.{◌≡◌, ◌+◌, ◌*◌, length}
use Rattle.grammar.specs.Grammar.{again}
use Rattle.grammar.specs.Reading.{read, and_then}
use Rattle.placed_chars.specs.Chars.{stop}
use Rattle.page_reader.specs.Content as form
use Rattle.page_reader.specs.Reads.{content}
use Rattle.page_reader.proofs.reader.Reader.+element.Given as goal

abbrev pub decreases-opened : goal.decreases-opened
decreases-opened l = 8 * l.room

abbrev pub decreases-markup : goal.decreases-markup
decreases-markup l = 8 * l.room + 1

abbrev pub decreases-piece : goal.decreases-piece
decreases-piece l = 8 * l.room + 2

abbrev pub decreases-full_body : goal.decreases-full_body
decreases-full_body l = 8 * l.room + 3

abbrev pub decreases-body : goal.decreases-body
decreases-body l = 8 * l.room + 4

abbrev pub decreases-element : goal.decreases-element
decreases-element l = 8 * l.room + 5

abbrev pub invariant-full_body-pieces : goal.invariant-full_body-pieces
invariant-full_body-pieces l = record {
  reading : read stop (form.full_body (form.opened l.room) l.tag_at l.fn.tag l.started l.fn.scripts) l.fn.self
      ≡ and_then (read stop (again form.content_goes (form.piece (form.opened l.room) l.tag_at l.fn.tag) (content l.is_closed l.children l.units.items l.scripts)) l.self) (λ c r. read stop (form.ended l.tag_at l.fn.tag l.started.attributes c) r);
}

abbrev pub decreases-full_body-pieces : goal.decreases-full_body-pieces
decreases-full_body-pieces l = length l.self
