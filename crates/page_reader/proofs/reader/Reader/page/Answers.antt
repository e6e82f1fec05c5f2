use Rattle.grammar.proofs.Words.{onward}
use Rattle.page_reader.proofs.Turns.{outside_turned, pad_turned}
use Rattle.page_reader.proofs.reader.Reader.page.Goals as goal

pub front_pads-smaller : goal.front_pads-smaller
front_pads-smaller c = (outside_turned c.front_pads.outside c.front_pads.self c.in_ok-outside-2.outside c.pad_before.new.self (cc) c.in_ok-outside-2.ensures).1

pub front_pads-preserved : goal.front_pads-preserved
front_pads-preserved c = record {
  reading = onward _ _ _ _ c.front_pads.invariant.reading (outside_turned c.front_pads.outside c.front_pads.self c.in_ok-outside-2.outside c.pad_before.new.self (cc) c.in_ok-outside-2.ensures).0;
}

pub back_pads-smaller : goal.back_pads-smaller
back_pads-smaller c = (pad_turned c.back_pads.self c.pad_behind.new.self (cc) c.in_ok-pad_behind.ensures).1

pub back_pads-preserved : goal.back_pads-preserved
back_pads-preserved c = record {
  reading = onward _ _ _ _ c.back_pads.invariant.reading (pad_turned c.back_pads.self c.pad_behind.new.self (cc) c.in_ok-pad_behind.ensures).0;
}
