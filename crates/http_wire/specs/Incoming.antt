-- What comes of a stream: requests with what they ask, or refusals (RFC 9112; what is asked is this project's own).
use Rattle.std.specs.Prelude.{ℕ, Bool, ◌||◌, List, [], ◌∷◌, ◌++◌, map, Result, Err}
use Rattle.wire_asks.specs.declared.asked.Asked.{Asked}
use Rattle.wire_asks.specs.declared.asked.Refusal.{Refusal}
use Rattle.wire_asks.specs.Asking.{asked_by}
use Rattle.wire_asks.specs.Refusals.{closes, ends_connection}
use Rattle.http_wire.specs.declared.wire.Incoming.{Incoming}
use Rattle.http_wire.specs.Messages.{Message, BeginsMessage}
use Rattle.http_wire.specs.Outcomes.{Refuses}
use Rattle.http_wire.specs.Requests.{Ending, refused, ended, truncated}

-- what a request asks, and whether the connection ends after it: the request says so, or what it asks ends it
abbrev pub incoming_with : (says_close : Bool) → Result Asked Refusal → Incoming
incoming_with says_close asked = record { asked = asked; close = says_close || ends_connection asked }

-- a whole request, with what it asks
abbrev pub incoming_of : Message → Incoming
incoming_of m = incoming_with m.close (asked_by m.method m.target m.body)

-- a refusal of the framing, each of which closes the connection, since the next request can't be found
abbrev pub refused_as : Refusal → Incoming
refused_as r = record { asked = Err r; close = closes r }

-- what comes first of the bytes, and the bytes behind it; behind a refusal of the framing nothing more is read
pub data Comes : List ℕ → Incoming → List ℕ → Type 0 where
  request : (bytes rest : List ℕ) (m : Message) → BeginsMessage bytes m rest → Comes bytes (incoming_of m) rest
  refusal : (bytes : List ℕ) (r : Refusal) → Refuses bytes r → Comes bytes (refused_as r) bytes

-- what comes behind the last whole request
abbrev pub last_of : Ending → List Incoming
last_of (refused r) = refused_as r ∷ []
last_of ended = []
last_of truncated = []

-- all that comes of a stream with these requests and this end
abbrev pub all_of : List Message → Ending → List Incoming
all_of requests ending = map incoming_of requests ++ last_of ending
