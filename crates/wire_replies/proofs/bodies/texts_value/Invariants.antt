use Rattle.std.proofs.Common.{◌≡◌, ℕ, List, map, take}
use Rattle.serde_json.specs.Data.{string}
use Rattle.serde_json.specs.View.{view}
use Rattle.page_units.specs.Coding.{utf8_of_units}
use Rattle.wire_replies.proofs.bodies.texts_value.Given as goal

-- the values so far are those of the texts so far
abbrev pub invariant-loop-line : goal.invariant-loop-line
invariant-loop-line l = map view l.items.items ≡ map (λ (units : List ℕ). string (utf8_of_units units)) (take l.line-index l.lines)
