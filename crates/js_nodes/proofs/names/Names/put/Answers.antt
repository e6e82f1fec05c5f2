use Rattle.std.proofs.Common.{List, ℕ}
use Rattle.js_nodes.proofs.Lookups.{finds_more}
use Rattle.js_nodes.proofs.names.Names.put.Goals as goal

pub invariant_of-result : goal.invariant_of-result
invariant_of-result c = λ n. rw c.in_ok-push.ensures.ok (finds_more (λ (m : List ℕ). m) _ _ _ c.args.name c.self.invariant c.in_ok-sorted.ensures n)
