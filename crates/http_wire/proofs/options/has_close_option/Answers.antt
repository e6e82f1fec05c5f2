use Rattle.std.proofs.Common.{arith}
use Rattle.http_wire.specs.Fields.{has_close}
use Rattle.http_wire.proofs.Parts.{comma_passed, byte_added}
use Rattle.http_wire.proofs.options.has_close_option.Goals.{then-byte-eq44+else-is_close_option, else-byte-eq44}
use Rattle.http_wire.proofs.options.has_close_option.Goals as goal

pub loop-at-preserved : goal.loop-at-preserved
loop-at-preserved c =
    let value = c.args.value.now in
    let at = c.loop-at.at in
    elim c.if-byte-eq44.branch [
      | then-byte-eq44+else-is_close_option w ↦ record {
        ordered = omega arith;
        left = rw w.start-is (comma_passed value c.loop-at.start at (has_close value) c.loop-at-test.true w.if-byte-eq44.true w.if-is_close_option.ensures c.loop-at.invariant.left);
      }
      | else-byte-eq44 w ↦ record {
        ordered = omega arith;
        left = rw w.start-is (byte_added value c.loop-at.start at (has_close value) c.loop-at.invariant.ordered c.loop-at-test.true w.if-byte-eq44.false c.loop-at.invariant.left);
      }
    ]
