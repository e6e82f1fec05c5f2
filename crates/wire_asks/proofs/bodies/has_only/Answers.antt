use Rattle.std.proofs.Common.{◌∙◌, ℕ, List, map, rules, string_bytes, String, Global, ap, tests}
use Rattle.std.specs.List.{list_any, list_all}
use Rattle.std.specs.Map.Iter.{TakesFirst, deref}
use Rattle.std.specs.Str.{bytes_eq}
use Rattle.std.proofs.lemmas.Iterator.Search.{all_from_yields_List}
use Rattle.std.proofs.lemmas.Iterator.Consumers.{YieldsList-from_shown}
use Rattle.std.proofs.Common.{length}
use Rattle.wire_asks.proofs.Keys.{all_known}
use Rattle.wire_asks.proofs.bodies.has_only.Goals as goal

pub returns : goal.returns
returns c =
    let known : List (List ℕ) = map (λ key. key.now) c.args.keys.now in
    let e = all_from_yields_List (λ (key : String Global). list_any (λ k. bytes_eq (string_bytes key) k) known) _ _ c.all.result c.all.ensures.ran
    (YieldsList-from_shown (TakesFirst deref) deref (λ s. s) (λ s t h. ap length h.0) (λ s x t h. h) c.keys.result)
    (λ x b q k. search (rules, tests)) in
    e ∙ ap (λ keys. list_all (λ key. list_any (λ k. bytes_eq (string_bytes key) k) known) keys) c.keys.ensures.rest ∙ all_known known c.args.members.now.entries
