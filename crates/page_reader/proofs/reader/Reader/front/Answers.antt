use Rattle.page_reader.proofs.Turns.{front_reads}
use Rattle.page_reader.proofs.reader.Reader.front.Goals as goal

pub returns-then-is_at : goal.returns-then-is_at
returns-then-is_at c = front_reads c.args.self.now c.advance.new.self c.before_root.new.self c.place-at.result c.before_root.result (cc) c.place-at.ensures c.advance.ensures c.before_root.ensures
