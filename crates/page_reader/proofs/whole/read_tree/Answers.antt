use Rattle.std.proofs.Common.{◌∙◌, arith}
use Rattle.page_reader.proofs.WholePages.{long_found, text_found}
use Rattle.page_reader.proofs.whole.read_tree.Goals as goal

pub returns-then-bytes-gt-PAGE_BYTES : goal.returns-then-bytes-gt-PAGE_BYTES
returns-then-bytes-gt-PAGE_BYTES c = long_found c.args.bytes.now c.number.result c.if-bytes-gt-PAGE_BYTES.true c.number.ensures

pub returns-in-Err : goal.returns-in-Err
returns-in-Err c =
    text_found c.args.bytes.now c.number-in-Err.result c.valid_up_to.result (omega arith) c.in-Err.ensures.cases.0 (c.valid_up_to.ensures ∙ c.in-Err.ensures.valid_len) c.number-in-Err.ensures
