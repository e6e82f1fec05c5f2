-- Requests with their bodies, at the front of the bytes (RFC 9112, 2.1).
use Rattle.std.specs.Prelude.{◌≡◌, ℕ, ◌≤◌, Bool, List, [], ◌++◌, length, map, Result, Ok}
use Rattle.httparse.specs.Grammar.{RequestHead, print_request, ReadsRequest}
use Rattle.httparse.specs.Spans.{name_and_value}
use Rattle.http_wire.specs.Bounds.{head_bytes}
use Rattle.http_wire.specs.Fields.{NameValue, body_length, closes}
use Rattle.wire_asks.specs.declared.asked.Refusal.{Refusal}
use Rattle.http_wire.specs.declared.request.Request.{Request}

-- a request: its head's method, target and minor version, whether it ends the connection, and its body
pub record Message : Type 0 where
  pub method : List ℕ
  pub target : List ℕ
  pub minor : ℕ
  pub close : Bool
  pub body : List ℕ

-- the request that the program's value is
abbrev pub message_of : Request → Message
message_of r = record { method = r.method.items; target = r.target.items; minor = r.minor; close = r.close; body = r.body.items }

-- the fields of a head, as names and values
abbrev pub fields_of : RequestHead → List NameValue
fields_of h = map name_and_value h.fields

-- how many bytes the body behind the head has (RFC 9112, 6.3)
abbrev pub length_behind : RequestHead → Result ℕ Refusal
length_behind h = body_length h.method (fields_of h)

-- a head of at most 16,384 bytes stands at the front
pub record BeginsHead (bytes : List ℕ) (h : RequestHead) (behind : List ℕ) : Type 0 where
  pub reads : ReadsRequest bytes h behind
  pub fits : length (print_request h) ≤ head_bytes

-- the request m stands at the front, and behind it the rest
pub record BeginsMessage (bytes : List ℕ) (m : Message) (rest : List ℕ) : Type 0 where
  pub h : RequestHead
  pub head : BeginsHead bytes h (m.body ++ rest)
  pub length_is : length_behind h ≡ Ok (length m.body)
  pub method : m.method ≡ h.method
  pub target : m.target ≡ h.target
  pub minor : m.minor ≡ h.minor
  pub close : m.close ≡ closes h.minor (fields_of h)

-- the bytes are the request m, and nothing else
abbrev pub IsMessage : List ℕ → Message → Type 0
IsMessage bytes m = BeginsMessage bytes m []
