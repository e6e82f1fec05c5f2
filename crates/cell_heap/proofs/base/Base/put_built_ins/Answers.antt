use Rattle.std.proofs.Common.{[], ◌∷◌, ◌++◌, map}
use Rattle.std.specs.List.{flat_map}
use Rattle.std.proofs.lemmas.Result.{on_ok_weaker}
use Rattle.cell_places.specs.StartTable.{methods, constructors, fault_names}
use Rattle.cell_places.specs.StartRows.{prototype_rows, method_row, constructor_rows, fault_rows}
use Rattle.cell_heap.proofs.StartRows.{methods_put, constructors_put, faults_put, globals_put, undefined_put}
use Rattle.cell_heap.proofs.StartRows.{methods_on, constructors_on, faults_on, global_rows, undefined_row}
use Rattle.cell_heap.proofs.Putting.{kinds_kept, put_there, rows_then}
use Rattle.cell_heap.proofs.base.Base.put_built_ins.Goals as goal

pub put_methods-requires-clause-allowed : goal.put_methods-requires-clause-allowed
put_methods-requires-clause-allowed c = methods_put

pub put_constructors-requires-clause-allowed : goal.put_constructors-requires-clause-allowed
put_constructors-requires-clause-allowed c = constructors_put

pub put_faults-requires-clause-allowed : goal.put_faults-requires-clause-allowed
put_faults-requires-clause-allowed c = faults_put

pub bind_globals-requires-clause-allowed : goal.bind_globals-requires-clause-allowed
bind_globals-requires-clause-allowed c = globals_put

pub bind-requires : goal.bind-requires
bind-requires c =
    let prototypes = kinds_kept _ _ prototype_rows c.requires c.in_ok-put_prototypes.ensures in
    let methods = kinds_kept _ _ (map method_row methods) prototypes c.in_ok-put_methods.ensures in
    let constructors = kinds_kept _ _ (flat_map constructor_rows constructors) methods c.in_ok-put_constructors.ensures in
    let faults = kinds_kept _ _ (flat_map fault_rows fault_names) constructors c.in_ok-put_faults.ensures in
    let globals = kinds_kept _ _ global_rows faults c.in_ok-bind_globals.ensures in
    put_there _ undefined_row globals undefined_put

pub returns : goal.returns
returns c =
    on_ok_weaker c.bind.result
    (λ last. rows_then _ _ _ prototype_rows methods_on c.in_ok-put_prototypes.ensures
    (rows_then _ _ _ (map method_row methods) constructors_on c.in_ok-put_methods.ensures
    (rows_then _ _ _ (flat_map constructor_rows constructors) faults_on c.in_ok-put_constructors.ensures
    (rows_then _ _ _ (flat_map fault_rows fault_names) (global_rows ++ undefined_row ∷ []) c.in_ok-put_faults.ensures
    (rows_then _ _ _ global_rows (undefined_row ∷ []) c.in_ok-bind_globals.ensures last)))))
    c.bind.ensures
