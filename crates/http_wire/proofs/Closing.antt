-- Each refusal of the framing closes the connection.
use Rattle.std.proofs.Common.{◌≡◌, ℕ, Bool, true, false, nat_le, cond, List, [], ◌∷◌, codes, refl, subst}
use Rattle.std.specs.Prelude.{Result, Ok, Err}
use Rattle.std.specs.Str.{bytes_eq}
use Rattle.std.specs.Str.Parse.{digits_value}
use Rattle.wire_asks.specs.declared.asked.Refusal.{Refusal}
use Rattle.wire_asks.specs.declared.asked.Refusal.TheVariants.{LeftOut, BadLength, TooLarge, NoLength}
use Rattle.wire_asks.specs.Refusals.{closes}
use Rattle.http_wire.specs.Bounds.{body_bytes}
use Rattle.http_wire.specs.Fields.{NameValue, values_named, is_length, length_of, length_unless_coded, body_length}
use Rattle.http_wire.specs.Messages.{fields_of}
use Rattle.http_wire.specs.Outcomes.{Refuses, bad_head, long_head, no_body}

-- the answer is refused with a refusal that closes, if it is refused
abbrev OnlyCloses : Result ℕ Refusal → Type 0
OnlyCloses answer = (refusal : Refusal) → answer ≡ Err refusal → closes refusal ≡ true

counted_closes : (count : ℕ) → OnlyCloses (Ok count)
counted_closes count refusal e = absurd (cc)

refused_closes : (r : Refusal) → closes r ≡ true → OnlyCloses (Err r)
refused_closes r closing refusal e = let same : r ≡ refusal = cc in subst (λ z. closes z ≡ true) same closing

-- of two answers one
either_closes : (first : Bool) (a b : Result ℕ Refusal) → OnlyCloses a → OnlyCloses b → OnlyCloses (cond first a b)
either_closes true a b x y = x
either_closes false a b x y = y

length_closes : (method : List ℕ) (values : List (List ℕ)) → OnlyCloses (length_of method values)
length_closes method [] = either_closes (bytes_eq method (codes "POST")) (Err NoLength) (Ok 0) (refused_closes NoLength refl) (counted_closes 0)
length_closes method (value ∷ []) =
    let number = digits_value 10 value in
    either_closes (is_length value) (cond (nat_le number body_bytes) (Ok number) (Err TooLarge)) (Err BadLength)
    (either_closes (nat_le number body_bytes) (Ok number) (Err TooLarge) (counted_closes number) (refused_closes TooLarge refl)) (refused_closes BadLength refl)
length_closes method (value ∷ second ∷ others) = refused_closes BadLength refl

unless_coded_closes : (codings : List (List ℕ)) (counted : Result ℕ Refusal) → OnlyCloses counted → OnlyCloses (length_unless_coded codings counted)
unless_coded_closes [] counted x = x
unless_coded_closes (coding ∷ others) counted x = refused_closes LeftOut refl

body_closes : (method : List ℕ) (fields : List NameValue) → OnlyCloses (body_length method fields)
body_closes method fields =
    let values = values_named (codes "content-length") fields in
    unless_coded_closes (values_named (codes "transfer-encoding") fields) (length_of method values) (length_closes method values)

-- bytes are refused as they are framed with a refusal that closes
pub framing_closes : (bytes : List ℕ) (refusal : Refusal) → Refuses bytes refusal → closes refusal ≡ true
framing_closes bytes _ (bad_head _ never) = refl
framing_closes bytes _ (long_head _ many none may) = refl
framing_closes bytes _ (no_body _ h after refusal head told) = body_closes h.method (fields_of h) refusal told
