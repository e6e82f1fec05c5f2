-- The numbers of limits.
use Rattle.std.specs.Prelude.{◌≡◌, ◌≤◌, ℕ}
use Rattle.page_units.specs.declared.limits.Limit.{Limit}
use Rattle.page_units.specs.declared.limits.Limits.{Limits}
use Rattle.page_units.specs.declared.limits.Limit.TheVariants.{Text, SpecSteps, TaskSteps}
use Rattle.page_units.specs.Limits.{numbers, default_limit}

-- the number of each limit
abbrev pub number_of : Limits → Limit → ℕ
number_of l = numbers l.weight l.task_steps l.depth l.text l.dom_text l.requests l.firings l.guesses l.contexts l.per_idle l.spec_steps l.spec_weight l.sketch_steps l.served

-- the limits may have this number for this limit
abbrev pub Takes : Limits → Limit → ℕ → Type 0
Takes l Text number = number ≡ l.text
Takes l SpecSteps number = number ≤ l.task_steps
Takes l TaskSteps number = (l.spec_steps ≤ number) × (number ≤ default_limit TaskSteps)
Takes l limit number = number ≤ default_limit limit
