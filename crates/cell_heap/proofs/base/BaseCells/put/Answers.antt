use Rattle.std.proofs.Common.{None, subst, sym}
use Rattle.cell_places.specs.Valid.{CanAskIn}
use Rattle.cell_heap.proofs.Bare.{bare_updated, bare_inserted}
use Rattle.cell_heap.proofs.base.BaseCells.put.Goals as goal

pub invariant_of-self : goal.invariant_of-self
invariant_of-self c = record {
  few = c.args.self.now.few;
  bare = bare_updated c.args.self.now.slots c.remove.new.self c.args.self.now.kinds.items c.args.place.now None c.args.self.now.bare c.requires.there c.remove.ensures.updates;
}

pub invariant_of-self-in_default : goal.invariant_of-self-in_default
invariant_of-self-in_default c = record {
  few = c.args.self.now.few;
  bare =
      let there = subst (CanAskIn c.args.self.now.kinds.items) (sym c.in_ok-key-in_default.ensures.cases) c.requires.there in
      bare_inserted c.insert.result c.args.self.now.slots c.insert.new.self c.args.self.now.kinds.items c.in_ok-key-in_default.key c.args.answer c.args.self.now.bare there c.insert.ensures.updates c.insert.ensures.err;
}
