use Rattle.std.proofs.Common.{arith, rules}
use Rattle.http_wire.proofs.head.read_head.Goals as goal
use Rattle.http_wire.proofs.Room.{never_exceeds}

pub unreachable-requires : goal.unreachable-requires
unreachable-requires c =
    let exceeds = c.in-Err-TooManyHeaders.ensures.too_many (search rules) in
    absurd (omega (arith, c.requires.fits, c.requires.room, never_exceeds _ _ exceeds))
