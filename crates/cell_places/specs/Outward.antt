-- What a run gives to the outside besides its heap (this project's own). A heap ignores it all.
use Rattle.std.specs.Prelude.{ℕ, List}
use Rattle.page_units.specs.declared.event.Request.{Request}

pub data Outward : Type 0 where
  -- a line of the page's console, in UTF-16 units
  line : List ℕ → Outward
  -- a request that page code added
  request : Request → Outward
  -- a task ended, and this text says how
  ended : List ℕ → Outward
  -- a listener was called to its end
  handled : Outward
  -- a task began, with so many steps
  began : ℕ → Outward
