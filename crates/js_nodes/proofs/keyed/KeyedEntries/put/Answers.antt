use Rattle.js_tree.specs.declared.expr.Entry.{Entry}
use Rattle.js_nodes.proofs.Lookups.{finds_more}
use Rattle.js_nodes.proofs.keyed.KeyedEntries.put.Goals as goal

pub invariant_of-result : goal.invariant_of-result
invariant_of-result c = λ n. rw c.in_ok-push.ensures.ok (finds_more (λ (entry : Entry). entry.key) _ _ _ c.args.entry c.self.invariant c.in_ok-keys.ensures n)
