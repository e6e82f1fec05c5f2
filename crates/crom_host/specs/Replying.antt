-- The replies of the host, and their bytes (RFC 9110, 15; RFC 9112, 4; names and bodies are this project's own).
use Rattle.std.specs.Prelude.{◌≡◌, ℕ, Bool, true, false, List, Option, None, codes}
use Rattle.serde_json.specs.Written.{compact_text}
use Rattle.http_wire.specs.Asks.{Asks}
use Rattle.http_wire.specs.Refusal.{Refusal}
use Rattle.http_wire.specs.Refusals.{code_of, allowed_by}
use Rattle.http_wire.specs.Bodies.{refusal_data, halted_data, long_text_data}
use Rattle.http_wire.specs.ReplyBytes.{reply_text}
use Rattle.http_wire.specs.Reply as written

pub data Reply : Type 0 where
  -- a tree text
  tree : List ℕ → Reply
  -- a tree text is longer than a served one may be
  long_text : Reply
  refused : Refusal → Reply
  -- a command that isn't built yet
  not_built : Reply
  halted : Reply

abbrev pub status : Reply → ℕ
status (tree text) = 200
status long_text = 500
status (refused r) = code_of r
status not_built = 501
status halted = 200

abbrev pub is_html : Reply → Bool
is_html (tree text) = true
is_html long_text = false
is_html (refused r) = false
is_html not_built = false
is_html halted = false

abbrev pub allow : Reply → Option Asks
allow (tree text) = None
allow long_text = None
allow (refused r) = allowed_by r
allow not_built = None
allow halted = None

abbrev pub body : Reply → List ℕ
body (tree text) = text
body long_text = compact_text long_text_data
body (refused r) = compact_text (refusal_data r)
body not_built = codes "{\"refused\":\"NotBuilt\"}"
body halted = compact_text halted_data

-- the bytes of a reply, after which the connection ends or doesn't
abbrev pub bytes_of : Reply → (close : Bool) → List ℕ
bytes_of r close = reply_text (status r) (is_html r) (allow r) (body r) close

-- the program's value is this reply
pub record IsOf (w : written.Reply) (r : Reply) : Type 0 where
  pub code : w.status ≡ status r
  pub html : w.html ≡ is_html r
  pub allowed : w.allow ≡ allow r
  pub text : w.body.items ≡ body r
