use Rattle.std.proofs.Common.{ℕ, ◌^◌, ◌<◌, ◌≤◌, arith}
use Rattle.std.proofs.Math.Nat.{pow-le-pow_right}
use Rattle.http_wire.specs.Bounds.{length_digits}
use Rattle.http_wire.proofs.lengths.number_of.Goals as goal

-- one digit more than at most 18 digits
digit_room : (n i : ℕ) → n < 10 ^ i → i < length_digits → n < 10 ^ 18
digit_room n i small short =
    let few : i ≤ 18 = omega arith in
    let power : 10 ^ i ≤ 10 ^ 18 = pow-le-pow_right {n = 10} (omega arith) few in
    omega (arith, small, power)

pub overflow_mul-number : goal.overflow_mul-number
overflow_mul-number c =
    let few = digit_room c.loop-byte.number c.loop-byte.byte-index c.loop-byte.invariant.small (omega arith) in
    omega (arith, few)

pub overflow_add-number : goal.overflow_add-number
overflow_add-number c =
    let few = digit_room c.loop-byte.number c.loop-byte.byte-index c.loop-byte.invariant.small (omega arith) in
    omega (arith, few)
