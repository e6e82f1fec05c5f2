use Rattle.wire_asks.proofs.Table.{only_memory}
use Rattle.wire_asks.proofs.routes.add.Goals as goal

pub unreachable-requires : goal.unreachable-requires
unreachable-requires c = c.in_default.not-OutOfMemory (only_memory _ c.args.route c.args.router.now _ c.in-Err.error c.requires c.in-Err.ensures)
