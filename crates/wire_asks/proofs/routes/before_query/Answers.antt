use Rattle.std.proofs.Common.{ap, take}
use Rattle.wire_asks.proofs.Paths.{ends_at, all_before}
use Rattle.wire_asks.proofs.routes.before_query.Goals as goal

pub returns-in-Some : goal.returns-in-Some
returns-in-Some c = ap (λ n. take n c.args.target.now) (ends_at _ c.args.target.now c.in-Some.end c.in-Some.ensures)

pub returns-in-None : goal.returns-in-None
returns-in-None c = all_before _ c.args.target.now c.in-None.ensures
