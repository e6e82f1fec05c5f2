use Rattle.std.specs.Prelude.{refl}
use Rattle.js_rules.specs.Does.{tick_refused, by_rule}
use Rattle.js_rules.proofs.node.refused_node.Goals as goal

-- src/node.rt:35:1
pub returns-clause-expressions : goal.returns-clause-expressions
returns-clause-expressions c = λ fixed depth f x old above. by_rule (tick_refused above refl refl)

-- src/node.rt:35:1
pub returns-clause-statements : goal.returns-clause-statements
returns-clause-statements c = λ fixed depth f x old above. by_rule (tick_refused above refl refl)
