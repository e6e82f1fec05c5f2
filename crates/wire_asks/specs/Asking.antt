-- What a request asks: first its path is tested, then its method, then its body (this project's own).
use Rattle.std.specs.Prelude.{ℕ, List, cond, Option, Some, None, Result, Ok, Err, pos}
use Rattle.std.specs.Str.{is_utf8, bytes_eq}
use Rattle.page_units.specs.Coding.{units_of_utf8}
use Rattle.page_units.specs.declared.event.PageEvent.{PageEvent}
use Rattle.wire_asks.specs.declared.asked.Asked.{Asked}
use Rattle.wire_asks.specs.declared.asked.Asked.TheVariants as a
use Rattle.wire_asks.specs.declared.asked.Refusal.{Refusal}
use Rattle.wire_asks.specs.declared.asked.Refusal.TheVariants.{NoRoute, BadMethod, BadBody}
use Rattle.wire_asks.specs.declared.route.Route.{Route}
use Rattle.wire_asks.specs.declared.route.Route.TheVariants as route
use Rattle.wire_asks.specs.Routes.{path_of, id_of, route_of, method_of, method_name}
use Rattle.wire_asks.specs.Bodies.{tick_of, event_of}

abbrev pub event_or_bad : Option PageEvent → Result Asked Refusal
event_or_bad None = Err BadBody
event_or_bad (Some event) = Ok (a.Event event)

abbrev pub tick_or_bad : Option ℕ → Result Asked Refusal
tick_or_bad None = Err BadBody
tick_or_bad (Some ms) = Ok (a.Tick (pos ms))

-- what a route's request asks; the bodies of all but two aren't looked at
abbrev pub asked_at : Route → (path body : List ℕ) → Result Asked Refusal
asked_at route.Dom path body = Ok a.Dom
asked_at route.Load path body = Ok a.Load
asked_at route.Node path body = Ok (a.Node (units_of_utf8 (id_of path)))
asked_at route.Stats path body = Ok a.Stats
asked_at route.Event path body = event_or_bad (event_of body)
asked_at route.Tick path body = tick_or_bad (tick_of body)
asked_at route.Halt path body = Ok a.Halt

abbrev pub asked_of : Option Route → (method path body : List ℕ) → Result Asked Refusal
asked_of None method path body = Err NoRoute
asked_of (Some r) method path body = cond (bytes_eq method (method_name (method_of r))) (asked_at r path body) (Err (BadMethod (method_of r)))

-- a path that isn't UTF-8 names no route
abbrev pub asked_by : (method target body : List ℕ) → Result Asked Refusal
asked_by method target body = asked_of (cond (is_utf8 (path_of target)) (route_of (path_of target)) None) method (path_of target) body
