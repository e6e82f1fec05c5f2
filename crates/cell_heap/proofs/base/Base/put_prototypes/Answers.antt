use Rattle.std.proofs.Common.{◌++◌}
use Rattle.std.proofs.lemmas.Result.{on_ok_weaker}
use Rattle.cell_places.specs.Known.{native_count, node_prototype, document_cell}
use Rattle.cell_places.specs.StartRows.{prototype_row, function_prototype_rows}
use Rattle.cell_heap.proofs.StartRows.{plain_rows, error_rows, document_rows, plain_put, errors_put, document_put}
use Rattle.cell_heap.proofs.Putting.{kinds_kept, put_there, rows_then}
use Rattle.cell_heap.proofs.base.Base.put_prototypes.Goals as goal

pub put_prototype-requires-clause-allowed : goal.put_prototype-requires-clause-allowed
put_prototype-requires-clause-allowed c = plain_put

pub put_prototype-requires-2-clause-allowed : goal.put_prototype-requires-2-clause-allowed
put_prototype-requires-2-clause-allowed c = errors_put

pub put_value-requires : goal.put_value-requires
put_value-requires c =
    let plain = kinds_kept _ _ plain_rows c.requires c.in_ok-put_prototype.ensures in
    let errors = kinds_kept _ _ error_rows plain c.in_ok-put_prototype-2.ensures in
    let functions = kinds_kept _ _ (function_prototype_rows native_count) errors c.in_ok-put_function_prototypes.ensures in
    put_there _ (prototype_row node_prototype document_cell) functions document_put

pub returns : goal.returns
returns c =
    on_ok_weaker c.put_value.result
    (λ last. rows_then _ _ _ plain_rows (error_rows ++ (function_prototype_rows native_count ++ document_rows)) c.in_ok-put_prototype.ensures
    (rows_then _ _ _ error_rows (function_prototype_rows native_count ++ document_rows) c.in_ok-put_prototype-2.ensures
    (rows_then _ _ _ (function_prototype_rows native_count) document_rows c.in_ok-put_function_prototypes.ensures last)))
    c.put_value.ensures
