-- The requests of the bytes of a stream, and how it ends behind them (RFC 9112, 9.3).
use Rattle.std.specs.Prelude.{◌≡◌, ◌≢◌, ℕ, List, [], ◌∷◌}
use Rattle.wire_asks.specs.declared.asked.Refusal.{Refusal}
use Rattle.http_wire.specs.Messages.{Message, BeginsMessage}
use Rattle.http_wire.specs.Outcomes.{Refuses, IsUnfinished}

-- how a stream of requests ends
pub data Ending : Type 0 where
  -- what comes is refused
  refused : Refusal → Ending
  -- between two requests
  ended : Ending
  -- inside a request
  truncated : Ending

-- the bytes begin no further request, and end so
abbrev pub EndsAs : List ℕ → Ending → Type 0
EndsAs bytes (refused refusal) = Refuses bytes refusal
EndsAs bytes ended = bytes ≡ []
EndsAs bytes truncated = (bytes ≢ []) × IsUnfinished bytes

-- The requests of the bytes of a stream, in order, and how it ends behind them.
pub data RequestsOf : List ℕ → List Message → Ending → Type 0 where
  more : (bytes rest : List ℕ) (m : Message) (others : List Message) (ending : Ending) → BeginsMessage bytes m rest → RequestsOf rest others ending → RequestsOf bytes (m ∷ others) ending
  stop : (bytes : List ℕ) (ending : Ending) → EndsAs bytes ending → RequestsOf bytes [] ending
