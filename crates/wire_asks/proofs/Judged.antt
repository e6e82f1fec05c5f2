-- What a request asks, case by case.
use Rattle.std.proofs.Common.{◌≡◌, ℕ, Bool, true, false, List, Option, Some, None, not, Ok, Err, refl, ap, option_map, ℤ, pos}
use Rattle.std.specs.Str.{IsUtf8, is_utf8, bytes_eq}
use Rattle.std.proofs.lemmas.Str.{IsUtf8-from_is_utf8, is_utf8-from_IsUtf8}
use Rattle.wire_asks.specs.declared.asked.Asked.TheVariants as a
use Rattle.wire_asks.specs.declared.asked.Refusal.TheVariants.{NoRoute, BadMethod, BadBody}
use Rattle.wire_asks.specs.declared.route.Route.{Route}
use Rattle.wire_asks.specs.Routes.{path_of, route_of, method_of, method_name}
use Rattle.wire_asks.specs.Asking.{asked_by, asked_at, tick_or_bad}

no_text_if : (b : Bool) (method target body : List ℕ) → is_utf8 (path_of target) ≡ b → (IsUtf8 (path_of target) → ⊥) → Err NoRoute ≡ asked_by method target body
no_text_if true method target body e bad = absurd (bad (IsUtf8-from_is_utf8 (path_of target) e))
no_text_if false method target body e bad = rw e refl

pub no_text : (method target body : List ℕ) → (IsUtf8 (path_of target) → ⊥) → Err NoRoute ≡ asked_by method target body
no_text method target body bad = no_text_if _ method target body refl bad

pub other_method : (method target body : List ℕ) (r : Route) → IsUtf8 (path_of target) → Some r ≡ route_of (path_of target)
    → bytes_eq method (method_name (method_of r)) ≡ false → Err (BadMethod (method_of r)) ≡ asked_by method target body
other_method method target body r utf8 some differs = rw (is_utf8-from_IsUtf8 (path_of target) utf8, ← some, differs) refl

pub asks : (method target body : List ℕ) (r : Route) → IsUtf8 (path_of target) → Some r ≡ route_of (path_of target)
    → bytes_eq method (method_name (method_of r)) ≡ true → asked_at r (path_of target) body ≡ asked_by method target body
asks method target body r utf8 some same = rw (is_utf8-from_IsUtf8 (path_of target) utf8, ← some, same) refl

pub differs : (b : Bool) → true ≡ not b → b ≡ false
differs true e = cc
differs false e = refl

pub agrees : (b : Bool) → false ≡ not b → b ≡ true
agrees true e = refl
agrees false e = cc

pub ticks : (ms : Option ℕ) (z : ℤ) → Some z ≡ option_map pos ms → Ok (a.Tick z) ≡ tick_or_bad ms
ticks None z e = cc
ticks (Some n) z e = let same : z ≡ pos n = cc in ap (λ z. Ok (a.Tick z)) same

pub ticks_not : (ms : Option ℕ) → None ≡ option_map pos ms → Err BadBody ≡ tick_or_bad ms
ticks_not None e = refl
ticks_not (Some n) e = cc
