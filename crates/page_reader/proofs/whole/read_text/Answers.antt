use Rattle.std.proofs.Common.{◌≤◌, ap, List, length, arith}
use Rattle.page_reader.specs.declared.node.Node.{Node}
use Rattle.page_reader.specs.declared.node.Slice.{Slice}
use Rattle.page_reader.specs.Content.{found}
use Rattle.page_reader.specs.Bounds.{page_bytes}
use Rattle.page_reader.proofs.WholePages.{page_of, fault_found, read_few}
use Rattle.page_reader.proofs.whole.read_text.Goals as goal

pub numbered-requires : goal.numbered-requires
numbered-requires c =
    let few = (read_few c.args.text.now (found c.in-Ok.root c.read_characters.new.slices) c.in-Ok.ensures.0 c.utf8.text c.in-Ok.ensures.1 c.in-Ok.ensures.2).scripts in
    let same = ap (λ (l : List Slice). length l) c.as_slice.ensures in
    let short : length c.args.text.now ≤ page_bytes = c.requires in
    omega arith

pub returns-in-Ok : goal.returns-in-Ok
returns-in-Ok c =
    page_of c.args.text.now c.in-Ok.root c.read_characters.new.slices c.in_ok-scripts-in-Ok.scripts.items c.in-Ok.ensures.0 c.requires c.utf8.text c.in-Ok.ensures.1 c.in-Ok.ensures.2 (rw (← c.as_slice.ensures) c.in_ok-scripts-in-Ok.ensures)

pub returns : goal.returns
returns c = fault_found c.args.text.now c.in-Err.error c.into_fault.result c.in-Err.ensures.0 Node (λ root. found root c.read_characters.new.slices) c.requires c.utf8.text c.in-Err.ensures.1 c.into_fault.ensures
