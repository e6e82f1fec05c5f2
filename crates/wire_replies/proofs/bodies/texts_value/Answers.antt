use Rattle.std.proofs.Common.{◌≡◌, ℕ, List, ap, ◌∙◌, map, take}
use Rattle.std.proofs.lemmas.List.{take_all}
use Rattle.serde_json.specs.Data.{string, array}
use Rattle.serde_json.specs.View.{items_of}
use Rattle.serde_json.proofs.Views.{view-Array}
use Rattle.page_units.specs.Coding.{utf8_of_units}
use Rattle.wire_replies.proofs.bodies.texts_value.Goals as goal

pub returns : goal.returns
returns c =
    let whole : take c.loop-line.line-index c.args.lines.now ≡ c.args.lines.now = take_all _ _ c.loop-line-test.false in
    view-Array c.loop-line.items
    ∙ ap (λ ds. array (items_of ds)) (c.loop-line.invariant ∙ ap (map (λ (units : List ℕ). string (utf8_of_units units))) whole)
