-- The rows of the router that holds the seven routes, in the router's order.
use Rattle.std.specs.Prelude.{◌≡◌, ℕ, List, [], ◌∷◌, ◌++◌, codes, None, Result, Ok, Err}
use Rattle.matchit.specs.Order.{placed}
use Rattle.matchit.specs.Route.{Scan}
use Rattle.matchit.specs.Rows.{RowsOf, param_token}
use Rattle.matchit.specs.Router.{RouteOf, route_from, nearest}
use Rattle.matchit.specs.declared.error.InsertError.{InsertError}
use Rattle.wire_asks.specs.declared.route.Route.{Route}
use Rattle.wire_asks.specs.declared.route.Route.TheVariants.{Dom, Load, Node, Stats, Event, Tick, Halt}

-- a route without a parameter
abbrev pub plain : List ℕ → Route → List ℕ × RouteOf Route
plain text route = (text, record { pattern = text; text = text; names = []; value = route })

-- the route with the parameter `id`, whose name stands from 7 to 9
abbrev pub node_row : List ℕ × RouteOf Route
node_row = (codes "/node/" ++ param_token ∷ [], record { pattern = codes "/node/" ++ param_token ∷ []; text = codes "/node/{id}"; names = (7, 9) ∷ []; value = Node })

abbrev pub seven : RowsOf (RouteOf Route)
seven = plain (codes "/dom") Dom ∷ plain (codes "/event") Event ∷ plain (codes "/halt") Halt ∷ plain (codes "/load") Load
    ∷ node_row ∷ plain (codes "/stats") Stats ∷ plain (codes "/tick") Tick ∷ []

abbrev pub IsTable : RowsOf (RouteOf Route) → Type 0
IsTable rows = rows ≡ seven

-- the pattern that was read conflicts with no row
abbrev pub IsFree : Result Scan InsertError → RowsOf (RouteOf Route) → Type 0
IsFree (Ok pattern) rows = nearest pattern.pattern rows ≡ None
IsFree (Err e) rows = ⊥

-- the rows with the pattern that was read in its place
abbrev pub with_route : Result Scan InsertError → Route → RowsOf (RouteOf Route) → RowsOf (RouteOf Route)
with_route (Ok pattern) route rows = placed (pattern.pattern, route_from pattern route) rows
with_route (Err e) route rows = rows
