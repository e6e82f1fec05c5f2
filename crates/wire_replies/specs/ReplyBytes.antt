-- The bytes of a reply (RFC 9112, 4; the fields and their order are this project's own).
use Rattle.std.specs.Prelude.{◌≡◌, ℕ, ◌==◌, Bool, true, List, [], ◌∷◌, ◌++◌, length, Option, Some, None, cond, codes, decimal, unwrap_or, is_some}
use Rattle.std.specs.List.{list_any}
use Rattle.http.specs.StatusCode.{reason_phrase}
use Rattle.wire_asks.specs.declared.asked.Asks.{Asks}
use Rattle.wire_asks.specs.Routes.{method_name}
use Rattle.wire_replies.specs.declared.reply.Reply.{Reply}

-- the codes that replies have (RFC 9110, 15)
abbrev pub reply_codes : List ℕ
reply_codes = 200 ∷ 400 ∷ 404 ∷ 405 ∷ 411 ∷ 413 ∷ 431 ∷ 500 ∷ 501 ∷ []

abbrev pub is_reply_code : ℕ → Bool
is_reply_code n = list_any (λ code. n == code) reply_codes

-- a reply that can be written: its code is one of these, and it names an allowed method exactly with 405
pub record IsReply (r : Reply) : Type 0 where
  pub code : is_reply_code r.status ≡ true
  pub allow : is_some r.allow ≡ (r.status == 405)

abbrev pub crlf : List ℕ
crlf = codes "\r\n"

-- `HTTP/1.1 `, the code and its phrase
abbrev pub status_line : ℕ → List ℕ
status_line status = codes "HTTP/1.1 " ++ (decimal status ++ (codes " " ++ (unwrap_or (reason_phrase status) [] ++ crlf)))

abbrev pub allow_line : Option Asks → List ℕ
allow_line None = []
allow_line (Some asks) = codes "Allow: " ++ (method_name asks ++ crlf)

-- tree text is HTML, and every other body JSON
abbrev pub media_type : Bool → List ℕ
media_type html = cond html (codes "text/html; charset=utf-8") (codes "application/json")

abbrev pub type_line : Bool → List ℕ
type_line html = codes "Content-Type: " ++ (media_type html ++ crlf)

abbrev pub length_line : ℕ → List ℕ
length_line count = codes "Content-Length: " ++ (decimal count ++ crlf)

abbrev pub close_line : Bool → List ℕ
close_line close = cond close (codes "Connection: close" ++ crlf) []

-- the head's lines in their order, an empty line, and the body
abbrev pub reply_text : (status : ℕ) (html : Bool) (allow : Option Asks) (body : List ℕ) (close : Bool) → List ℕ
reply_text status html allow body close =
    status_line status ++ (allow_line allow ++ (type_line html ++ (length_line (length body)
    ++ (close_line close ++ (crlf ++ body)))))

-- the bytes of a reply
abbrev pub reply_bytes : Reply → (close : Bool) → List ℕ
reply_bytes r close = reply_text r.status r.html r.allow r.body.items close
