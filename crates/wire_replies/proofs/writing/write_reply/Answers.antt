use Rattle.wire_replies.proofs.Fronts.{front_of_head, front_of_both, all_of_both}
use Rattle.wire_replies.proofs.writing.write_reply.Goals as goal

pub returns-in_err-write_all-clause-front : goal.returns-in_err-write_all-clause-front
returns-in_err-write_all-clause-front g c =
    front_of_head _ _ _ _ _ _ c.in_ok-head.ensures c.as_bytes.ensures.value c.write_all.ensures.front

pub returns-in-All-clause-all : goal.returns-in-All-clause-all
returns-in-All-clause-all g c =
    all_of_both _ _ _ _ _ _ _ _ _ c.in_ok-head.ensures c.as_bytes.ensures.value c.as_slice.ensures.value
    (rw c.in-All.is at c.in_ok-write_all.ensures.all) c.write_all-in-All.ensures.all

pub returns-in-All-clause-front : goal.returns-in-All-clause-front
returns-in-All-clause-front g c =
    front_of_both _ _ _ _ _ _ _ _ c.in_ok-head.ensures c.as_bytes.ensures.value c.as_slice.ensures.value
    (rw c.in-All.is at c.in_ok-write_all.ensures.all) c.write_all-in-All.ensures.front

pub returns-clause-front : goal.returns-clause-front
returns-clause-front g c =
    front_of_head _ _ _ _ _ _ c.in_ok-head.ensures c.as_bytes.ensures.value c.write_all.ensures.front
