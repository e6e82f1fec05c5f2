use Rattle.std.proofs.Common.{arith, ap, sym, ◌∙◌}
use Rattle.wire_asks.proofs.Prefixes.{same_route}
use Rattle.wire_asks.proofs.Seeks.{finds, bytes_text, value_of}
use Rattle.wire_asks.proofs.routes.Routes.route_at.Goals as goal

pub returns-in-Ok : goal.returns-in-Ok
returns-in-Ok c =
    let f = finds c.args.path.now (bytes_text c.args.path.now (λ i. omega (arith, c.type_inv.path i))) in
    let found = rw c.args.self.now.is_table at c.in-Ok.ensures.found in
    sym (sym (same_route c.args.path.now) ∙ f ∙ ap value_of found)

pub returns-in-Err : goal.returns-in-Err
returns-in-Err c =
    let f = finds c.args.path.now (bytes_text c.args.path.now (λ i. omega (arith, c.type_inv.path i))) in
    let missing = rw c.args.self.now.is_table at c.in-Err.ensures.missing in
    sym (sym (same_route c.args.path.now) ∙ f ∙ ap value_of missing)
