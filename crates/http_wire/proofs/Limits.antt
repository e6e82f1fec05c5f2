-- The limit of a body.
use Rattle.std.proofs.Common.{◌≡◌, ℕ, ◌+◌, ◌<◌, ◌≤◌, ap, ◌∙◌, length-append, Bool, true, false, nat_le, cond, List, [], ◌∷◌, length, codes, refl, arith}
use Rattle.std.proofs.lemmas.Bool.{leb-true}
use Rattle.std.specs.Prelude.{Result, Ok, Err}
use Rattle.std.specs.Str.{bytes_eq}
use Rattle.std.specs.Str.Parse.{digits_value}
use Rattle.wire_asks.specs.declared.asked.Refusal.{Refusal}
use Rattle.wire_asks.specs.declared.asked.Refusal.TheVariants.{BadLength, TooLarge, NoLength}
use Rattle.http_wire.specs.Bounds.{body_bytes, held_bytes}
use Rattle.http_wire.specs.Fields.{NameValue, values_named, is_length, length_of, length_unless_coded, body_length}
use Rattle.httparse.specs.Grammar.{print_request}
use Rattle.http_wire.specs.Outcomes.{IsUnfinished, in_head, in_body}
use Rattle.http_wire.specs.Messages.{Message, BeginsMessage, fields_of}

-- a length, as an answer
abbrev counted : ℕ → Result ℕ Refusal
counted count = Ok count

-- a refusal, as an answer
abbrev refused : Refusal → Result ℕ Refusal
refused refusal = Err refusal

-- a number that passes both tests is at most the limit
number_limit : (digits small : Bool) (number count : ℕ) → nat_le number body_bytes ≡ small → cond digits (cond small (counted number) (refused TooLarge)) (refused BadLength) ≡ counted count → count ≤ body_bytes
number_limit true true number count fits e = let same : number ≡ count = cc in let few : number ≤ body_bytes = leb-true number body_bytes fits in omega (arith, same, few)
number_limit true false number count fits e = absurd (cc)
number_limit false small number count fits e = absurd (cc)

-- no length is asked for, or none is there
none_limit : (post : Bool) (count : ℕ) → cond post (refused NoLength) (counted 0) ≡ counted count → count ≤ body_bytes
none_limit true count e = absurd (cc)
none_limit false count e = let same : 0 ≡ count = cc in omega (arith, same)

-- one value or none
of_limit : (method : List ℕ) (values : List (List ℕ)) (count : ℕ) → length_of method values ≡ Ok count → count ≤ body_bytes
of_limit method [] count e = none_limit (bytes_eq method (codes "POST")) count e
of_limit method (value ∷ []) count e = number_limit (is_length value) (nat_le (digits_value 10 value) body_bytes) (digits_value 10 value) count refl e
of_limit method (value ∷ second ∷ others) count e = absurd (cc)

-- without a transfer coding
coded_limit : (codings : List (List ℕ)) (method : List ℕ) (values : List (List ℕ)) (count : ℕ) → length_unless_coded codings (length_of method values) ≡ Ok count → count ≤ body_bytes
coded_limit [] method values count e = of_limit method values count e
coded_limit (coding ∷ others) method values count e = absurd (cc)

-- a body that is read has at most 65,536 bytes
pub body_limit : (method : List ℕ) (fields : List NameValue) (count : ℕ) → body_length method fields ≡ Ok count → count ≤ body_bytes
body_limit method fields count e = coded_limit (values_named (codes "transfer-encoding") fields) method (values_named (codes "content-length") fields) count e

-- a request's body has at most 65,536 bytes
pub message_limit : (bytes rest : List ℕ) (m : Message) → BeginsMessage bytes m rest → length m.body ≤ body_bytes
message_limit bytes rest m begins = body_limit begins.h.method (fields_of begins.h) (length m.body) begins.length_is

-- an unfinished request is short of what is held at the most
pub unfinished_short : (held : List ℕ) → IsUnfinished held → length held < held_bytes
unfinished_short held (in_head _ few none may) = omega (arith, few)
unfinished_short held (in_body _ h behind count head told short) =
    let small : count ≤ body_bytes = body_limit h.method (fields_of h) count told in
    let long : length held ≡ length (print_request h) + length behind = ap length head.reads.1 ∙ length-append (print_request h) behind in
    omega (arith, small, long, short, head.fits)
