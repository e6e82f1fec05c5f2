use Rattle.std.proofs.Common.{◌≡◌, ◌++◌, take}
use Rattle.page_units.proofs.spelling.push_ascii.Given as goal

-- the characters so far were appended
abbrev pub invariant-loop-character : goal.invariant-loop-character
invariant-loop-character l = l.units.items ≡ l.initial.units.items ++ take l.character-index l.characters
