-- What `insert` gives for a pattern that conflicts with no row.
use Rattle.std.proofs.Common.{◌≡◌, ℕ, List, Result, Ok, Err, None, refl}
use Rattle.matchit.specs.Rows.{RowsOf}
use Rattle.matchit.specs.Route.{Scan}
use Rattle.matchit.specs.Router.{RouteOf, InsertsRead, Refused, nearest}
use Rattle.matchit.specs.declared.error.InsertError.{InsertError}
use Rattle.matchit.specs.declared.error.InsertError.TheVariants.{Conflict, InvalidParam, InvalidParamSegment, InvalidCatchAll, OutOfMemory}
use Rattle.wire_asks.specs.declared.route.Route.{Route}
use Rattle.wire_asks.specs.Table.{IsFree, with_route}

pub takes : (read : Result Scan InsertError) (route : Route) (old new : RowsOf (RouteOf Route))
    → IsFree read old → InsertsRead read route old new (Ok tt) → new ≡ with_route read route old
takes (Ok pattern) route old new free inserted = inserted.1
takes (Err e) route old new free inserted = absurd free

is_memory : (pattern : List ℕ) (rows : RowsOf (RouteOf Route)) (e : InsertError) → nearest pattern rows ≡ None → Refused pattern rows e → e ≡ OutOfMemory
is_memory pattern rows (Conflict with) free refused = let found = refused.1 in cc
is_memory pattern rows OutOfMemory free refused = refl
is_memory pattern rows InvalidParamSegment free refused = absurd refused
is_memory pattern rows InvalidParam free refused = absurd refused
is_memory pattern rows InvalidCatchAll free refused = absurd refused

-- only memory can be wanting
pub only_memory : (read : Result Scan InsertError) (route : Route) (old new : RowsOf (RouteOf Route)) (e : InsertError)
    → IsFree read old → InsertsRead read route old new (Err e) → e ≡ OutOfMemory
only_memory (Ok pattern) route old new e free inserted = is_memory pattern.pattern old e free inserted.1
only_memory (Err f) route old new e free inserted = absurd free
