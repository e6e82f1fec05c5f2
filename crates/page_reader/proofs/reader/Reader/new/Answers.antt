use Rattle.std.proofs.Common.{length}
use Rattle.page_reader.specs.Bounds.{page_bytes}
use Rattle.page_reader.proofs.Within.{within_more}
use Rattle.page_reader.proofs.reader.Reader.new.Goals as goal

pub invariant_of-result : goal.invariant_of-result
invariant_of-result c = within_more (length c.args.text.now) page_bytes c.new.result c.requires c.new.ensures.within
