use Rattle.std.proofs.Common.{ℕ, ◌+◌, ◌-◌, drop, Some, ap, arith, rules}
use Rattle.byte_ports.proofs.Pieces.{came}
use Rattle.byte_ports.proofs.source.SureSourceSource.read.Goals as goal

pub returns-clause-came : goal.returns-clause-came
returns-clause-came c =
    let n : ℕ = c.min-count.result in
    let at : ℕ = c.args.self.now.at in
    ap Some (came c.args.self.now.bytes.items c.copy_from_slice.new.self (drop n c.args.into.now) at n (at + n - at) (search rules) (omega arith) (search rules))
