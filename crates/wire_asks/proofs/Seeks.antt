-- What the router's search finds among the seven routes.
use Prim.Native.Char.{code}
use Rattle.std.proofs.Common.{◌≡◌, ℕ, zero, suc, ◌<◌, ◌-◌, ◌⊎◌, inl, inr, List, [], ◌∷◌, ◌++◌, Bool, true, false, cond, Option, Some, None, length, codes, refl, sym, subst, ◌∙◌, arith, eqb, not, option_map, get_or}
use Rattle.std.specs.Option.{option_map_or}
use Rattle.matchit.specs.Rows.{RowsOf, param_token, catch_all_token}
use Rattle.matchit.specs.Level.{IsText}
use Rattle.matchit.specs.Seek.{seek, step, first, has_slash, or_else, param_step}
use Rattle.matchit.specs.Router.{RouteOf}
use Rattle.wire_asks.specs.declared.route.Route.{Route}
use Rattle.wire_asks.specs.declared.route.Route.TheVariants.{Dom, Load, Stats, Event, Tick, Halt}
use Rattle.wire_asks.specs.Table.{plain, node_row, seven}
use Rattle.wire_asks.proofs.Prefixes.{strip, is_id, is_text, named_by}

abbrev Found : Type 0
Found = Option (RouteOf Route)

abbrev Routes : Type 0
Routes = RowsOf (RouteOf Route)

or_else_none : (x : Found) → or_else x None ≡ x
or_else_none None = refl
or_else_none (Some r) = refl

by_slash : (c : Bool) (n : ℕ) (path : List ℕ) → ((m : ℕ) → ◌≡◌ {A = Found} (seek m [] path) None)
    → ◌≡◌ {A = Found} (seek ((cond {A = ℕ × Routes} c (0, []) (n, [])).0 - 1) (cond {A = ℕ × Routes} c (0, []) (n, [])).1 path) None
by_slash true n path h = h 0
by_slash false n path h = h (n - 1)

pub seek_none : (path : List ℕ) (n : ℕ) → ◌≡◌ {A = Found} (seek n [] path) None
unfolding seek param_step
seek_none [] n = refl
seek_none (b ∷ path) zero = rw (seek_none path 0) (or_else_none _ ∙ by_slash (has_slash (b ∷ path)) (suc (length path)) path (seek_none path))
seek_none (b ∷ path) (suc n) = seek_none path n

pub seek_all : (r : RouteOf Route) (path : List ℕ) → ◌≡◌ {A = Found} (seek (length path) (([], r) ∷ []) path) (Some r)
unfolding seek param_step
seek_all r [] = refl
seek_all r (b ∷ path) = seek_all r path

pub no_param : (b : ℕ) (path : List ℕ) → ◌≡◌ {A = Found} (seek ((param_step {K = RouteOf Route} [] (b ∷ path)).0 - 1) (param_step {K = RouteOf Route} [] (b ∷ path)).1 path) None
unfolding seek param_step
no_param b path = by_slash (has_slash (b ∷ path)) (suc (length path)) path (seek_none path)

apart : (x k : ℕ) → x < k → eqb x k ≡ false
apart x k h = grind (arith, h)

chain_step : (c : Bool) (b : ℕ) (text : List ℕ) (r : RouteOf Route) (path : List ℕ)
    → ◌≡◌ {A = Found} (seek 0 ((text, r) ∷ []) path) (cond (is_text text path) (Some r) None)
    → ◌≡◌ {A = Found} (seek 0 (cond {A = Routes} c ((text, r) ∷ []) []) path) (cond (cond c (is_text text path) false) (Some r) None)
chain_step true b text r path ih = ih
chain_step false b text r path ih = seek_none path 0

pub chain : (text : List ℕ) (r : RouteOf Route) (path : List ℕ) → IsText text
    → ◌≡◌ {A = Found} (seek 0 ((text, r) ∷ []) path) (cond (is_text text path) (Some r) None)
unfolding seek
chain [] r [] t = refl
chain [] r (b ∷ path) t = rw (no_param b path, seek_none path 0) refl
chain (x ∷ text) r [] t = refl
chain (x ∷ text) r (b ∷ path) t =
    rw (apart x param_token t.0, apart x catch_all_token (omega (arith, t.0)), no_param b path, or_else_none)
    (chain_step (eqb x b) b text r path (chain text r path t.1))

-- ---- after `/node/`

end_step : (s : Bool) (path : List ℕ) (r : RouteOf Route)
    → ◌≡◌ {A = Found} (seek ((cond {A = ℕ × Routes} s (0, []) (suc (length path), ([], r) ∷ [])).0 - 1) (cond {A = ℕ × Routes} s (0, []) (suc (length path), ([], r) ∷ [])).1 path) (cond (not s) (Some r) None)
end_step true path r = seek_none path 0
end_step false path r = subst (λ k. ◌≡◌ {A = Found} (seek k (([], r) ∷ []) path) (Some r)) (omega arith) (seek_all r path)

apart_left : (b : ℕ) → b < 256 → eqb param_token b ≡ false
apart_left b h = grind (arith, h)

node_end : (path : List ℕ) (r : RouteOf Route) → IsText path → ◌≡◌ {A = Found} (seek 0 ((param_token ∷ [], r) ∷ []) path) (cond (is_id path) (Some r) None)
unfolding seek param_step
node_end [] r t = refl
node_end (b ∷ path) r t = rw (apart_left b t.0, seek_none path 0, or_else_none) (end_step (has_slash (b ∷ path)) path r)

node_step : (c : Bool) (text : List ℕ) (r : RouteOf Route) (path : List ℕ)
    → ◌≡◌ {A = Found} (seek 0 ((text ++ param_token ∷ [], r) ∷ []) path) (cond (option_map_or is_id (strip text path) false) (Some r) None)
    → ◌≡◌ {A = Found} (seek 0 (cond {A = Routes} c ((text ++ param_token ∷ [], r) ∷ []) []) path) (cond (option_map_or is_id (cond c (strip text path) None) false) (Some r) None)
node_step true text r path ih = ih
node_step false text r path ih = seek_none path 0

pub node_chain : (text : List ℕ) (r : RouteOf Route) (path : List ℕ) → IsText text → IsText path
    → ◌≡◌ {A = Found} (seek 0 ((text ++ param_token ∷ [], r) ∷ []) path) (cond (option_map_or is_id (strip text path) false) (Some r) None)
unfolding seek
node_chain [] r path t u = node_end path r u
node_chain (x ∷ text) r [] t u = refl
node_chain (x ∷ text) r (b ∷ path) t u =
    rw (apart x param_token t.0, apart x catch_all_token (omega (arith, t.0)), no_param b path, or_else_none)
    (node_step (eqb x b) text r path (node_chain text r path t.1 u.1))

-- ---- the whole

differs_by : (b k : ℕ) (c : Bool) → eqb k b ≡ c → (b ≡ k) ⊎ (eqb k b ≡ false)
differs_by b k true e = inl (grind (arith, e))
differs_by b k false e = inr e

differs : (b k : ℕ) → (b ≡ k) ⊎ (eqb k b ≡ false)
differs b k = differs_by b k (eqb k b) refl

abbrev pub value_of : Found → Option Route
value_of = option_map (λ (r : RouteOf Route). r.value)

value_cond : (c : Bool) (r : RouteOf Route) → ◌≡◌ {A = Option Route} (cond c (Some r.value) None) (value_of (cond c (Some r) None))
value_cond true r = refl
value_cond false r = refl

abbrev tails : Routes
tails = step (code "/") seven

Meets : ℕ → List ℕ → Type 0
Meets b path = named_by (code "/" ∷ b ∷ path) ≡ value_of (seek 0 tails (b ∷ path))

at_d : (path : List ℕ) → Meets (code "d") path
unfolding Meets seek
at_d path =
    rw (
      no_param (code "d") path,
      or_else_none,
      chain (codes "om") (plain (codes "/dom") Dom).1 path (omega arith, (omega arith, tt)),
    )
    (value_cond (is_text (codes "om") path) (plain (codes "/dom") Dom).1)

at_e : (path : List ℕ) → Meets (code "e") path
unfolding Meets seek
at_e path =
    rw (
      no_param (code "e") path,
      or_else_none,
      chain (codes "vent") (plain (codes "/event") Event).1 path (omega arith, (omega arith, (omega arith, (omega arith, tt)))),
    )
    (value_cond (is_text (codes "vent") path) (plain (codes "/event") Event).1)

at_h : (path : List ℕ) → Meets (code "h") path
unfolding Meets seek
at_h path =
    rw (
      no_param (code "h") path,
      or_else_none,
      chain (codes "alt") (plain (codes "/halt") Halt).1 path (omega arith, (omega arith, (omega arith, tt))),
    )
    (value_cond (is_text (codes "alt") path) (plain (codes "/halt") Halt).1)

at_l : (path : List ℕ) → Meets (code "l") path
unfolding Meets seek
at_l path =
    rw (
      no_param (code "l") path,
      or_else_none,
      chain (codes "oad") (plain (codes "/load") Load).1 path (omega arith, (omega arith, (omega arith, tt))),
    )
    (value_cond (is_text (codes "oad") path) (plain (codes "/load") Load).1)

at_n : (path : List ℕ) → IsText path → Meets (code "n") path
unfolding Meets seek
at_n path u =
    rw (
      no_param (code "n") path,
      or_else_none,
      node_chain (codes "ode/") node_row.1 path (omega arith, (omega arith, (omega arith, (omega arith, tt)))) u,
    )
    (value_cond (option_map_or is_id (strip (codes "ode/") path) false) node_row.1)

at_s : (path : List ℕ) → Meets (code "s") path
unfolding Meets seek
at_s path =
    rw (
      no_param (code "s") path,
      or_else_none,
      chain (codes "tats") (plain (codes "/stats") Stats).1 path (omega arith, (omega arith, (omega arith, (omega arith, tt)))),
    )
    (value_cond (is_text (codes "tats") path) (plain (codes "/stats") Stats).1)

at_t : (path : List ℕ) → Meets (code "t") path
unfolding Meets seek
at_t path =
    rw (
      no_param (code "t") path,
      or_else_none,
      chain (codes "ick") (plain (codes "/tick") Tick).1 path (omega arith, (omega arith, (omega arith, tt))),
    )
    (value_cond (is_text (codes "ick") path) (plain (codes "/tick") Tick).1)

second : (path : List ℕ) → IsText path → named_by (code "/" ∷ path) ≡ value_of (seek 0 tails path)
unfolding Meets seek
second [] t = refl
second (b ∷ path) t =
    elim (differs b (code "d")) [
      | inl e ↦ subst (λ k. Meets k path) (sym e) (at_d path)
      | inr not_d ↦
          elim (differs b (code "e")) [
            | inl e ↦ subst (λ k. Meets k path) (sym e) (at_e path)
            | inr not_e ↦
                elim (differs b (code "h")) [
                  | inl e ↦ subst (λ k. Meets k path) (sym e) (at_h path)
                  | inr not_h ↦
                      elim (differs b (code "l")) [
                        | inl e ↦ subst (λ k. Meets k path) (sym e) (at_l path)
                        | inr not_l ↦
                            elim (differs b (code "n")) [
                              | inl e ↦ subst (λ k. Meets k path) (sym e) (at_n path t.1)
                              | inr not_n ↦
                                  elim (differs b (code "s")) [
                                    | inl e ↦ subst (λ k. Meets k path) (sym e) (at_s path)
                                    | inr not_s ↦
                                        elim (differs b (code "t")) [
                                          | inl e ↦ subst (λ k. Meets k path) (sym e) (at_t path)
                                          | inr not_t ↦
                                              rw (not_d, not_e, not_h, not_l, not_n, not_s, not_t, seek_none path 0, no_param b path) refl
                                        ]
                                  ]
                            ]
                      ]
                ]
          ]
    ]

pub finds : (path : List ℕ) → IsText path → named_by path ≡ value_of (first seven path)
unfolding seek
finds [] t = refl
finds (b ∷ path) t = elim (differs b (code "/")) [
  | inl e ↦ subst (λ k. named_by (k ∷ path) ≡ value_of (first seven (k ∷ path))) (sym e) (rw (no_param (code "/") path, or_else_none) (second path t.1))
  | inr n ↦ rw (n, seek_none path 0, no_param b path) refl
]

pub bytes_text : (path : List ℕ) → ((i : ℕ) → get_or path i 0 < 256) → IsText path
bytes_text [] h = tt
bytes_text (b ∷ path) h = (h 0, bytes_text path (λ i. h (suc i)))
