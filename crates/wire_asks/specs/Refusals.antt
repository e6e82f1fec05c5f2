-- What a refusal says: its status code (RFC 9110, 15), the method that is allowed, its name, and whether it closes the
-- connection; and what else ends the connection (this project's own).
use Rattle.std.specs.Prelude.{ℕ, Bool, true, false, List, Option, Some, None, Result, Ok, Err, codes}
use Rattle.wire_asks.specs.declared.asked.Asked.{Asked}
use Rattle.wire_asks.specs.declared.asked.Asked.TheVariants as a
use Rattle.wire_asks.specs.declared.asked.Asks.{Asks}
use Rattle.wire_asks.specs.declared.asked.Refusal.{Refusal}
use Rattle.wire_asks.specs.declared.asked.Refusal.TheVariants as r

-- the status code of its reply
abbrev pub code_of : Refusal → ℕ
code_of r.BadHead = 400
code_of r.HeadTooLarge = 431
code_of r.LeftOut = 501
code_of r.BadLength = 400
code_of r.TooLarge = 413
code_of r.NoLength = 411
code_of r.NoRoute = 404
code_of (r.BadMethod asks) = 405
code_of r.BadBody = 400
code_of r.NoTarget = 404

-- the method that the route takes, with 405 alone
abbrev pub allowed_by : Refusal → Option Asks
allowed_by r.BadHead = None
allowed_by r.HeadTooLarge = None
allowed_by r.LeftOut = None
allowed_by r.BadLength = None
allowed_by r.TooLarge = None
allowed_by r.NoLength = None
allowed_by r.NoRoute = None
allowed_by (r.BadMethod asks) = Some asks
allowed_by r.BadBody = None
allowed_by r.NoTarget = None

-- its name in its reply's body
abbrev pub name_of : Refusal → List ℕ
name_of r.BadHead = codes "BadHead"
name_of r.HeadTooLarge = codes "HeadTooLarge"
name_of r.LeftOut = codes "LeftOut"
name_of r.BadLength = codes "BadLength"
name_of r.TooLarge = codes "TooLarge"
name_of r.NoLength = codes "NoLength"
name_of r.NoRoute = codes "NoRoute"
name_of (r.BadMethod asks) = codes "BadMethod"
name_of r.BadBody = codes "BadBody"
name_of r.NoTarget = codes "NoTarget"

-- whether the connection is closed after it: where the next request can't be found
abbrev pub closes : Refusal → Bool
closes r.BadHead = true
closes r.HeadTooLarge = true
closes r.LeftOut = true
closes r.BadLength = true
closes r.TooLarge = true
closes r.NoLength = true
closes r.NoRoute = false
closes (r.BadMethod asks) = false
closes r.BadBody = false
closes r.NoTarget = false

-- whether the connection ends after what came: after a `/halt`, and after a refusal that closes
abbrev pub ends_connection : Result Asked Refusal → Bool
ends_connection (Ok a.Halt) = true
ends_connection (Ok _) = false
ends_connection (Err refusal) = closes refusal
