-- The routes of a path again, byte by byte, as the router's search goes.
use Prim.Native.Char.{code}
use Rattle.std.proofs.Common.{◌≡◌, ℕ, suc, ◌&&◌, ◌||◌, ◌==◌, List, [], ◌∷◌, take, drop, length, codes, Bool, true, false, not, cond, Option, Some, None, refl, ap, eqb, nat_lt, arith}
use Rattle.std.specs.List.{list_any}
use Rattle.std.specs.Option.{option_map_or}
use Rattle.std.specs.Str.{bytes_eq}
use Rattle.matchit.specs.Seek.{has_slash}
use Rattle.wire_asks.specs.declared.route.Route.{Route}
use Rattle.wire_asks.specs.declared.route.Route.TheVariants.{Dom, Load, Node, Stats, Event, Tick, Halt}
use Rattle.wire_asks.specs.Routes.{is_segment, names_node, route_of}
use Rattle.wire_asks.proofs.Keys.{eqb_sym}

-- what follows a prefix of the text
abbrev pub strip : List ℕ → List ℕ → Option (List ℕ)
strip [] path = Some path
strip (x ∷ xs) [] = None
strip (x ∷ xs) (b ∷ path) = cond (x == b) (strip xs path) None

-- the text is not empty and has no slash
abbrev pub is_id : List ℕ → Bool
is_id [] = false
is_id (b ∷ bs) = not (has_slash (b ∷ bs))

-- the whole text
abbrev pub is_text : List ℕ → List ℕ → Bool
is_text [] [] = true
is_text [] (b ∷ bs) = false
is_text (x ∷ xs) [] = false
is_text (x ∷ xs) (b ∷ bs) = cond (x == b) (is_text xs bs) false

abbrev pub is_node : List ℕ → Bool
is_node path = option_map_or is_id (strip (codes "/node/") path) false

abbrev pub named_by : List ℕ → Option Route
named_by path =
    cond (is_text (codes "/dom") path) (Some Dom) (cond (is_text (codes "/load") path) (Some Load)
    (cond (is_node path) (Some Node) (cond (is_text (codes "/stats") path) (Some Stats)
    (cond (is_text (codes "/event") path) (Some Event) (cond (is_text (codes "/tick") path) (Some Tick)
    (cond (is_text (codes "/halt") path) (Some Halt) None))))))

cond_and : (b c : Bool) → cond b c false ≡ (b && c)
cond_and true c = refl
cond_and false c = refl

pub same_text : (text path : List ℕ) → is_text text path ≡ bytes_eq path text
same_text [] [] = refl
same_text [] (b ∷ path) = refl
same_text (x ∷ text) [] = refl
same_text (x ∷ text) (b ∷ path) = rw (same_text text path, eqb_sym x b) (cond_and (eqb b x) (bytes_eq path text))

slash_any_step : (c : Bool) (b : Bool) → cond c true b ≡ (c || b)
slash_any_step true b = refl
slash_any_step false b = refl

slash_any : (path : List ℕ) → has_slash path ≡ list_any (λ b. b == code "/") path
slash_any [] = refl
slash_any (b ∷ path) = rw (slash_any path) (slash_any_step (eqb b (code "/")) (list_any (λ b. b == code "/") path))

some_bytes : (path : List ℕ) → true ≡ nat_lt 0 (suc (length path))
some_bytes path = grind arith

same_id : (path : List ℕ) → is_id path ≡ is_segment path
same_id [] = refl
same_id (b ∷ path) = rw (slash_any (b ∷ path)) (ap (λ some. some && not (list_any (λ b. b == code "/") (b ∷ path))) (some_bytes path))

and_step : (c : Bool) (o : Option (List ℕ)) (b d : Bool) → option_map_or is_id o false ≡ (b && d)
    → option_map_or is_id (cond c o None) false ≡ ((c && b) && d)
and_step true o b d h = h
and_step false o b d h = refl

same_strip : (text path : List ℕ)
    → option_map_or is_id (strip text path) false ≡ (bytes_eq (take (length text) path) text && is_segment (drop (length text) path))
same_strip [] path = same_id path
same_strip (x ∷ text) [] = refl
same_strip (x ∷ text) (b ∷ path) = rw (eqb_sym x b) (and_step (eqb b x) (strip text path) _ _ (same_strip text path))

pub same_node : (path : List ℕ) → is_node path ≡ names_node path
same_node path = same_strip (codes "/node/") path

pub same_route : (path : List ℕ) → named_by path ≡ route_of path
same_route path =
    rw (
      same_text (codes "/dom") path,
      same_text (codes "/load") path,
      same_node path,
      same_text (codes "/stats") path,
      same_text (codes "/event") path,
      same_text (codes "/tick") path,
      same_text (codes "/halt") path,
    ) refl
