-- The routes: which path names which, and the method that it takes (this project's own).
use Prim.Native.Char.{code}
use Rattle.std.specs.Prelude.{ℕ, ◌==◌, Bool, not, ◌&&◌, cond, List, take, drop, Option, Some, None, nat_lt, length, codes}
use Rattle.std.specs.List.{prefix_len, list_any}
use Rattle.std.specs.Str.{bytes_eq}
use Rattle.wire_asks.specs.declared.asked.Asks.{Asks}
use Rattle.wire_asks.specs.declared.asked.Asks.TheVariants.{Get, Post}
use Rattle.wire_asks.specs.declared.route.Route.{Route}
use Rattle.wire_asks.specs.declared.route.Route.TheVariants.{Dom, Load, Node, Stats, Event, Tick, Halt}

-- a `?`, behind which the query stands
abbrev pub is_query_mark : ℕ → Bool
is_query_mark b = b == code "?"

-- the path of a target: what stands before its first `?` (RFC 9112, 3.2.1; RFC 3986, 3.4)
abbrev pub path_of : List ℕ → List ℕ
path_of target = take (prefix_len (λ b. not (is_query_mark b)) target) target

-- `/node/` and an id
abbrev pub node_prefix : List ℕ
node_prefix = codes "/node/"

-- what stands behind `/node/`, as it came: percent escapes stay
abbrev pub id_of : List ℕ → List ℕ
id_of path = drop (length node_prefix) path

-- one segment that isn't empty
abbrev pub is_segment : List ℕ → Bool
is_segment bytes = nat_lt 0 (length bytes) && not (list_any (λ b. b == code "/") bytes)

abbrev pub names_node : List ℕ → Bool
names_node path = bytes_eq (take (length node_prefix) path) node_prefix && is_segment (id_of path)

-- the route that a path names
abbrev pub route_of : List ℕ → Option Route
route_of path =
    cond (bytes_eq path (codes "/dom")) (Some Dom)
    (cond (bytes_eq path (codes "/load")) (Some Load)
    (cond (names_node path) (Some Node)
    (cond (bytes_eq path (codes "/stats")) (Some Stats)
    (cond (bytes_eq path (codes "/event")) (Some Event)
    (cond (bytes_eq path (codes "/tick")) (Some Tick)
    (cond (bytes_eq path (codes "/halt")) (Some Halt) None))))))

-- the method that a route takes
abbrev pub method_of : Route → Asks
method_of Dom = Get
method_of Load = Get
method_of Node = Get
method_of Stats = Get
method_of Event = Post
method_of Tick = Post
method_of Halt = Post

-- its name; methods compare by case (RFC 9110, 9.1)
abbrev pub method_name : Asks → List ℕ
method_name Get = codes "GET"
method_name Post = codes "POST"
