-- How the requests of a command are settled, each answer as a task of its own (this project's own).
use Rattle.std.specs.Prelude.{◌≡◌, ℕ, ◌+◌, ◌<◌, ◌≤◌, List, [], ◌∷◌, Option, Ok, Err}
use Rattle.page_units.specs.declared.event.Request.{Request}
use Rattle.page_units.specs.declared.event.Response.{Response}
use Rattle.page_units.specs.declared.event.Verb.TheVariants as verb
use Rattle.page_units.specs.declared.fault.RunFault.{RunFault}
use Rattle.js_rules.specs.declared.stop.Stop.TheVariants as stop
use Rattle.js_rules.specs.Fixed.{Fixed}
use Rattle.js_rules.specs.World.{World, world}
use Rattle.js_rules.specs.Tasks.{Nothing, Answered}
use Rattle.js_rules.specs.Does.{Evaluates}

-- how settling ended: with no request left, at a POST, at the limit, or at a bound of a task
pub data Settled : Type 0 where
  empty : Settled
  at_post : Settled
  too_many : Settled
  bound : RunFault → Settled

abbrev pub with_queue : List Request → World → World
with_queue q w = world w.seen w.meter (record { lines = w.sent.lines; queue = q }) w.told

-- From `asked` requests of the command on, of which at most `limit` are allowed, with these answers to the GETs
-- that are taken, in order (None for a failed one): the worlds before and after, how many were asked then, and
-- how it ended. Each answer is a task of its own, at the whole depth d.
pub data Settles (fixed : Fixed) (d limit : ℕ) : ℕ → List (Option Response) → World → World → ℕ →
    Settled → Type 0 where
  nothing_waits : {asked : ℕ} {w : World} → w.sent.queue ≡ [] →
      Settles fixed d limit asked [] w w asked empty
  limit_reached : {asked : ℕ} {w : World} {r : Request} {more : List Request} →
      w.sent.queue ≡ r ∷ more → limit ≤ asked → Settles fixed d limit asked [] w w asked too_many
  post_waits : {asked : ℕ} {w : World} {r : Request} {more : List Request} →
      w.sent.queue ≡ r ∷ more → asked < limit → r.verb ≡ verb.Post →
      Settles fixed d limit asked [] w w asked at_post
  get_answered : {asked after : ℕ} {old mid new : World} {r : Request} {more : List Request}
      {got : Option Response} {gets : List (Option Response)} {end : Settled} →
      old.sent.queue ≡ r ∷ more → asked < limit → r.verb ≡ verb.Get →
      Evaluates fixed d Nothing (Answered r.callback got) (with_queue more old) mid (Ok tt) →
      Settles fixed d limit (asked + 1) gets mid new after end →
      Settles fixed d limit asked (got ∷ gets) old new after end
  get_stopped : {asked : ℕ} {old new : World} {r : Request} {more : List Request}
      {got : Option Response} {fault : RunFault} →
      old.sent.queue ≡ r ∷ more → asked < limit → r.verb ≡ verb.Get →
      Evaluates fixed d Nothing (Answered r.callback got) (with_queue more old) new (Err (stop.Fault fault)) →
      Settles fixed d limit asked (got ∷ []) old new (asked + 1) (bound fault)
