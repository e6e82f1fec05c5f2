use Rattle.page_reader.proofs.AttributeNames.{names_with}
use Rattle.page_reader.proofs.named.NamedAttributes.push.Goals as goal

pub invariant_of-drop : goal.invariant_of-drop
invariant_of-drop c = λ name. rw c.in_ok-push.ensures.ok (names_with _ _ _ c.args.attribute _ c.earlier.invariant c.in_ok-clone.ensures.cases c.in_ok-insert.ensures.updates name)
