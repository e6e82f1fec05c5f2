-- What the fields of a request's head say of its body and of the connection (RFC 9112, 6 and 9).
use Prim.Native.Char.{code}
use Rattle.std.specs.Prelude.{ℕ, ◌==◌, ◌&&◌, ◌||◌, Bool, if◌then◌else◌, nat_lt, nat_le, List, [], ◌∷◌, ◌++◌, length, codes, Result, Ok, Err}
use Rattle.std.specs.List.{list_any, list_all}
use Rattle.std.specs.Char.{is_ascii_digit}
use Rattle.std.specs.Str.{bytes_eq, str_eq_ignore_ascii_case}
use Rattle.std.specs.Str.Parse.{digits_value}
use Rattle.httparse.specs.Grammar.{trim_ows}
use Rattle.wire_asks.specs.declared.asked.Refusal.{Refusal}
use Rattle.wire_asks.specs.declared.asked.Refusal.TheVariants.{LeftOut, BadLength, TooLarge, NoLength}
use Rattle.http_wire.specs.Bounds.{length_digits, body_bytes}

-- a field: its name, and its value without the white space around it
abbrev pub NameValue : Type 0
NameValue = List ℕ × List ℕ

-- the values of the fields of this name, in order; names compare without ASCII case (RFC 9110, 5.1)
abbrev pub values_named : List ℕ → List NameValue → List (List ℕ)
values_named name [] = []
values_named name (field ∷ fields) = if str_eq_ignore_ascii_case field.0 name then field.1 ∷ values_named name fields else values_named name fields

-- ---- the length of the body (RFC 9112, 6.3)

-- 1 to 19 digits
abbrev pub is_length : List ℕ → Bool
is_length value = nat_lt 0 (length value) && nat_le (length value) length_digits && list_all is_ascii_digit value

-- the length that the value of a Content-Length field gives (RFC 9110, 8.6): 1 to 19 digits, at most 65,536
abbrev pub length_in : List ℕ → Result ℕ Refusal
length_in value = if is_length value then (if nat_le (digits_value 10 value) body_bytes then Ok (digits_value 10 value) else Err TooLarge) else Err BadLength

-- the length that the values of the Content-Length fields give: with none it is 0, and a POST needs one
abbrev pub length_of : (method : List ℕ) → List (List ℕ) → Result ℕ Refusal
length_of method [] = if bytes_eq method (codes "POST") then Err NoLength else Ok 0
length_of method (value ∷ []) = length_in value
length_of method (value ∷ second ∷ others) = Err BadLength

-- a transfer coding is left out (RFC 9112, 6.1), and otherwise Content-Length counts
abbrev pub length_unless_coded : (codings : List (List ℕ)) → Result ℕ Refusal → Result ℕ Refusal
length_unless_coded [] counted = counted
length_unless_coded (coding ∷ others) counted = Err LeftOut

-- how many bytes the body has
abbrev pub body_length : (method : List ℕ) → List NameValue → Result ℕ Refusal
body_length method fields = length_unless_coded (values_named (codes "transfer-encoding") fields) (length_of method (values_named (codes "content-length") fields))

-- ---- the end of the connection (RFC 9112, 9.6)

-- the parts of a list between its commas (RFC 9110, 5.6.1), the first of which begins with these bytes
abbrev pub parts_from : List ℕ → List ℕ → List (List ℕ)
parts_from part [] = part ∷ []
parts_from part (byte ∷ bytes) = if byte == code "," then part ∷ parts_from [] bytes else parts_from (part ++ byte ∷ []) bytes

-- the part is the option `close`, in any ASCII case
abbrev pub is_close : List ℕ → Bool
is_close part = str_eq_ignore_ascii_case (trim_ows part) (codes "close")

-- the value of a Connection field has the option `close` (RFC 9110, 7.6.1)
abbrev pub has_close : List ℕ → Bool
has_close value = list_any is_close (parts_from [] value)

-- the connection ends behind the request: HTTP/1.0, or the option `close`
abbrev pub closes : (minor : ℕ) → List NameValue → Bool
closes minor fields = minor == 0 || list_any has_close (values_named (codes "connection") fields)
