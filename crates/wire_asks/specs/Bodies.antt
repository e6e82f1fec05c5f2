-- What the bodies of `/event` and `/tick` mean: the objects that the JSON reader reads from them (RFC 8259), where the
-- last value of a repeated key stays (this project's own).
use Rattle.std.specs.Prelude.{ℕ, Bool, true, ◌&&◌, List, [], ◌∷◌, length, Option, Some, None, option_and_then, codes, nat_lt, nat_le, if◌then◌else◌}
use Rattle.std.specs.List.{list_any}
use Rattle.std.specs.Str.{is_utf8, bytes_eq}
use Rattle.serde_json.specs.Data.{Data, Members, member, no_members, null, boolean, number, string, array, object}
use Rattle.serde_json.specs.Read.{read}
use Rattle.serde_json.specs.Find.{get_member, as_number, as_u64, as_object}
use Rattle.page_units.specs.Coding.{units_of_utf8}
use Rattle.page_units.specs.declared.event.PageEvent.{PageEvent}

-- what is read from the bytes; nothing where they are no UTF-8 or no JSON text
abbrev pub json_of : List ℕ → Option Data
json_of bytes = if is_utf8 bytes then read bytes else None

-- each key is one of these
abbrev pub keys_are_among : List (List ℕ) → Members → Bool
keys_are_among keys no_members = true
keys_are_among keys (member key d more) = list_any (λ known. bytes_eq key known) keys && keys_are_among keys more

-- ---- `/tick`: an object with `ms` alone, a number without point and exponent from 1 to 86,400,000

-- a day, in milliseconds
abbrev pub day : ℕ
day = 86_400_000

abbrev pub within_day : ℕ → Option ℕ
within_day n = if nat_le 1 n && nat_le n day then Some n else None

abbrev pub tick_in : Members → Option ℕ
tick_in members =
    if keys_are_among (codes "ms" ∷ []) members
    then option_and_then within_day (option_and_then as_u64 (option_and_then as_number (get_member (codes "ms") members)))
    else None

abbrev pub tick_of : List ℕ → Option ℕ
tick_of body = option_and_then tick_in (option_and_then as_object (json_of body))

-- ---- `/event`: an object with the texts `target` and `type`, which isn't empty, and optionally `value`, a text or null

-- the units of a text
abbrev pub units_in : Data → Option (List ℕ)
units_in (string bytes) = Some (units_of_utf8 bytes)
units_in null = None
units_in (boolean b) = None
units_in (number n) = None
units_in (array items) = None
units_in (object entries) = None

abbrev pub if_not_empty : List ℕ → Option (List ℕ)
if_not_empty units = if nat_lt 0 (length units) then Some units else None

-- the value of an event: none where the key isn't there or has null
abbrev pub value_in : Option Data → Option (Option (List ℕ))
value_in None = Some None
value_in (Some null) = Some None
value_in (Some (string bytes)) = Some (Some (units_of_utf8 bytes))
value_in (Some (boolean b)) = None
value_in (Some (number n)) = None
value_in (Some (array items)) = None
value_in (Some (object entries)) = None

abbrev pub event_with : Option (List ℕ) → Option (List ℕ) → Option (Option (List ℕ)) → Option PageEvent
event_with (Some target) (Some type_text) (Some value) = Some (record { target = target; type_text = type_text; value = value })
event_with _ _ _ = None

abbrev pub event_in : Members → Option PageEvent
event_in members =
    if keys_are_among (codes "target" ∷ codes "type" ∷ codes "value" ∷ []) members
    then event_with (option_and_then units_in (get_member (codes "target") members))
    (option_and_then if_not_empty (option_and_then units_in (get_member (codes "type") members)))
    (value_in (get_member (codes "value") members))
    else None

abbrev pub event_of : List ℕ → Option PageEvent
event_of body = option_and_then event_in (option_and_then as_object (json_of body))
