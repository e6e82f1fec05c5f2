-- The data of bodies have no floats.
use Rattle.std.proofs.Common.{◌≡◌, ℕ, Bool, false, List, [], ◌∷◌, map, refl}
use Rattle.serde_json.specs.Data.{string}
use Rattle.serde_json.specs.View.{items_of}
use Rattle.serde_json.specs.Written.{has_float, items_have_float}
use Rattle.page_units.specs.Coding.{utf8_of_units}
use Rattle.wire_replies.specs.declared.bodies.Outcome.{Outcome}
use Rattle.wire_replies.specs.Bodies.{event_data, tick_data, load_data}

no_floats : (lines : List (List ℕ)) → items_have_float (items_of (map (λ (units : List ℕ). string (utf8_of_units units)) lines)) ≡ false
no_floats [] = refl
no_floats (x ∷ xs) = no_floats xs

pub event_has_no_float : (ends : List (List ℕ)) (handled : ℕ) (lines : List (List ℕ)) (outcome : Outcome) (prevented : Bool) → has_float (event_data ends handled lines outcome prevented) ≡ false
event_has_no_float ends handled lines outcome prevented = rw (no_floats ends, no_floats lines) refl

pub tick_has_no_float : (ends : List (List ℕ)) (fired : ℕ) (lines : List (List ℕ)) (outcome : Outcome) → has_float (tick_data ends fired lines outcome) ≡ false
tick_has_no_float ends fired lines outcome = rw (no_floats ends, no_floats lines) refl

pub load_has_no_float : (ends lines : List (List ℕ)) (outcome : Outcome) → has_float (load_data ends lines outcome) ≡ false
load_has_no_float ends lines outcome = rw (no_floats ends, no_floats lines) refl
