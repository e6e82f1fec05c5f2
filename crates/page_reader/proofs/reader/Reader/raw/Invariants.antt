use Rattle.std.proofs.Common.{◌≡◌, length}
use Rattle.grammar.specs.Grammar.{again, done}
use Rattle.grammar.specs.Reading.{read, and_then}
use Rattle.grammar.specs.Words.{◌>>=◌}
use Rattle.placed_chars.specs.Chars.{stop}
use Rattle.page_reader.specs.declared.fault.PageRule.TheVariants.{Unclosed}
use Rattle.page_reader.specs.Classes.{is_gt}
use Rattle.page_reader.specs.Raw as form
use Rattle.page_reader.specs.Rules.{need, fault}
use Rattle.page_reader.proofs.reader.Reader.raw.Given as goal

abbrev pub invariant-characters : goal.invariant-characters
invariant-characters l = record {
  reading : read stop (form.raw l.fn.tag_at l.fn.name) l.fn.self
      ≡ and_then (read stop (again (form.raw_goes l.fn.name) (form.raw_character l.fn.name) l.units.items) l.self) (λ units r. read stop (need is_gt (λ _. fault Unclosed l.fn.tag_at) >>= (λ t. done (form.before_end_tag units (form.end_tag_at l.fn.name units) t.at))) r);
}

abbrev pub decreases-characters : goal.decreases-characters
decreases-characters l = length l.self
