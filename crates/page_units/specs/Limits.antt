-- The numbers that bound a page's work (this project's own).
use Rattle.std.specs.Prelude.{◌≡◌, ◌≢◌, ◌≤◌, ℕ}
use Rattle.page_units.specs.declared.limits.Limit.{Limit}
use Rattle.page_units.specs.declared.limits.Limit.TheVariants as l
use Rattle.page_units.specs.Texts.{longest_text}

-- what each number is where nothing else is asked for
abbrev pub default_limit : Limit → ℕ
default_limit l.Weight = 2000000
default_limit l.TaskSteps = 1000000
default_limit l.Depth = 600
default_limit l.Text = longest_text
default_limit l.DomText = 1048576
default_limit l.Requests = 32
default_limit l.Firings = 1000
default_limit l.Guesses = 64
default_limit l.Contexts = 16
default_limit l.PerIdle = 8
default_limit l.SpecSteps = 200000
default_limit l.SpecWeight = 100000
default_limit l.SketchSteps = 20000
default_limit l.Served = 100000

-- These numbers may be limits: none but the steps of a speculation is more than its default, and those aren't more than
-- a task's; the length of a text is just its default.
pub record AreLimits (value : Limit → ℕ) : Type 0 where
  pub at_most : (limit : Limit) → limit ≢ l.SpecSteps → value limit ≤ default_limit limit
  pub spec_steps : value l.SpecSteps ≤ value l.TaskSteps
  pub text : value l.Text ≡ default_limit l.Text

-- these numbers, by their limits
abbrev pub numbers : (weight task_steps depth text dom_text requests firings guesses contexts per_idle spec_steps spec_weight sketch_steps served : ℕ) → Limit → ℕ
numbers weight _ _ _ _ _ _ _ _ _ _ _ _ _ l.Weight = weight
numbers _ task_steps _ _ _ _ _ _ _ _ _ _ _ _ l.TaskSteps = task_steps
numbers _ _ depth _ _ _ _ _ _ _ _ _ _ _ l.Depth = depth
numbers _ _ _ text _ _ _ _ _ _ _ _ _ _ l.Text = text
numbers _ _ _ _ dom_text _ _ _ _ _ _ _ _ _ l.DomText = dom_text
numbers _ _ _ _ _ requests _ _ _ _ _ _ _ _ l.Requests = requests
numbers _ _ _ _ _ _ firings _ _ _ _ _ _ _ l.Firings = firings
numbers _ _ _ _ _ _ _ guesses _ _ _ _ _ _ l.Guesses = guesses
numbers _ _ _ _ _ _ _ _ contexts _ _ _ _ _ l.Contexts = contexts
numbers _ _ _ _ _ _ _ _ _ per_idle _ _ _ _ l.PerIdle = per_idle
numbers _ _ _ _ _ _ _ _ _ _ spec_steps _ _ _ l.SpecSteps = spec_steps
numbers _ _ _ _ _ _ _ _ _ _ _ spec_weight _ _ l.SpecWeight = spec_weight
numbers _ _ _ _ _ _ _ _ _ _ _ _ sketch_steps _ l.SketchSteps = sketch_steps
numbers _ _ _ _ _ _ _ _ _ _ _ _ _ served l.Served = served

-- the second numbers are the first ones, but for this number of one limit
pub record IsChanged (limit : Limit) (number : ℕ) (old new : Limit → ℕ) : Type 0 where
  pub there : new limit ≡ number
  pub others : (other : Limit) → other ≢ limit → new other ≡ old other
