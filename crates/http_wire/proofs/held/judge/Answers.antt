use Rattle.std.proofs.Common.{◌≡◌, min, length, drop, sym, rules}
use Rattle.std.proofs.lemmas.List.{take-append-drop}
use Rattle.http_wire.specs.Bounds.{head_bytes}
use Rattle.http_wire.specs.Outcomes.{bad_head, long_head}
use Rattle.http_wire.proofs.Heads.{bad_look, open_look, unfinished_head}
use Rattle.http_wire.proofs.held.judge.Goals as goal

pub judge_body-requires-clause-prefix : goal.judge_body-requires-clause-prefix
judge_body-requires-clause-prefix c = (drop c.min.result c.args.bytes.now, sym (take-append-drop c.min.result c.args.bytes.now))

pub returns-in-Bad : goal.returns-in-Bad
returns-in-Bad c =
    let few : c.min.result ≡ min (length c.args.bytes.now) head_bytes = search rules in
    bad_head c.args.bytes.now (bad_look c.args.bytes.now c.min.result few c.in-Bad.ensures)

pub returns-in-Unfinished : goal.returns-in-Unfinished
returns-in-Unfinished c =
    let few : c.min.result ≡ min (length c.args.bytes.now) head_bytes = search rules in
    unfinished_head c.args.bytes.now c.min.result few c.if-bytes-lt-HEAD_BYTES.true c.in-Unfinished.ensures

pub returns-in-Unfinished-2 : goal.returns-in-Unfinished-2
returns-in-Unfinished-2 c =
    let few : c.min.result ≡ min (length c.args.bytes.now) head_bytes = search rules in
    let seen = open_look c.args.bytes.now c.min.result few c.in-Unfinished-2.ensures in
    long_head c.args.bytes.now c.if-bytes-lt-HEAD_BYTES.false seen.0 seen.1
