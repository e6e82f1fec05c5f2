-- What can be put at a start, table by table.
use Rattle.std.proofs.Common.{ℕ, ◌<◌, List, [], ◌∷◌, ◌++◌, map, sym, subst, ◌∙◌, zero-add}
use Rattle.std.specs.Prelude.{codes}
use Rattle.std.specs.List.{flat_map, range_with_len}
use Rattle.std.proofs.lemmas.List.FromFn.{get_or-range_with_len, length-range_with_len}
use Rattle.page_units.specs.declared.value.Value.TheVariants as v
use Rattle.cell_places.specs.Lists.{Every}
use Rattle.cell_places.specs.Valid.{CanPutIn}
use Rattle.cell_places.specs.Known.{object_prototype, function_prototype, error_prototype, node_prototype, document_cell}
use Rattle.cell_places.specs.Known.{native_count, function_cell}
use Rattle.cell_places.specs.StartTable.{methods, constructors, fault_names, plain_objects, kinds_of_error}
use Rattle.cell_places.specs.StartTable.{global_functions, global_objects}
use Rattle.cell_places.specs.StartRows.{Row, method_row, constructor_rows, fault_rows, prototype_row, function_prototype_rows}
use Rattle.cell_places.specs.StartRows.{binding, function_binding, object_binding, prototype_rows, binding_rows, built_in_rows}
use Rattle.cell_places.specs.Start.{start_kinds}
use Rattle.cell_places.proofs.EachPut.{Every-left, Every-right, Every-map_back, Every-flat, Every-at}
use Rattle.cell_places.proofs.StartKinds.{start_founds}
use Rattle.cell_places.proofs.StartIsSound.{rows_put}
use Rattle.cell_heap.specs.StartParts.{CanPutAll}

abbrev pub CanStand : Row → Type 0
CanStand r = CanPutIn start_kinds r.0 r.1

-- ---- the tables apart

built_ins_put : CanPutAll start_kinds built_in_rows
built_ins_put = rows_put start_kinds start_founds

abbrev pub faults_on : List Row
faults_on = flat_map fault_rows fault_names ++ binding_rows

abbrev pub constructors_on : List Row
constructors_on = flat_map constructor_rows constructors ++ faults_on

abbrev pub methods_on : List Row
methods_on = map method_row methods ++ constructors_on

methods_on_put : CanPutAll start_kinds methods_on
methods_on_put = Every-right CanStand prototype_rows methods_on built_ins_put

constructors_on_put : CanPutAll start_kinds constructors_on
constructors_on_put = Every-right CanStand (map method_row methods) constructors_on methods_on_put

faults_on_put : CanPutAll start_kinds faults_on
faults_on_put = Every-right CanStand (flat_map constructor_rows constructors) faults_on constructors_on_put

pub methods_put : CanPutAll start_kinds (map method_row methods)
methods_put = Every-left CanStand (map method_row methods) constructors_on methods_on_put

pub constructors_put : Every (λ c. CanPutAll start_kinds (constructor_rows c)) constructors
constructors_put =
    Every-flat CanStand constructor_rows constructors (Every-left CanStand (flat_map constructor_rows constructors) faults_on constructors_on_put)

pub faults_put : Every (λ f. CanPutAll start_kinds (fault_rows f)) fault_names
faults_put = Every-flat CanStand fault_rows fault_names (Every-left CanStand (flat_map fault_rows fault_names) binding_rows faults_on_put)

bindings_put : CanPutAll start_kinds binding_rows
bindings_put = Every-right CanStand (flat_map fault_rows fault_names) binding_rows faults_on_put

-- what the global scope names besides the constructors and undefined
abbrev pub global_rows : List Row
global_rows = map function_binding global_functions ++ map object_binding global_objects

abbrev pub undefined_row : Row
undefined_row = binding (codes "undefined") v.Undefined

pub globals_put : CanPutAll start_kinds global_rows
globals_put = Every-left CanStand global_rows (undefined_row ∷ []) bindings_put

pub undefined_put : CanStand undefined_row
undefined_put = (Every-right CanStand global_rows (undefined_row ∷ []) bindings_put).0

-- ---- prototypes

prototypes_put : CanPutAll start_kinds prototype_rows
prototypes_put = Every-left CanStand prototype_rows methods_on built_ins_put

abbrev pub plain_rows : List Row
plain_rows = map (prototype_row object_prototype) plain_objects

abbrev pub error_rows : List Row
error_rows = map (prototype_row error_prototype) kinds_of_error

abbrev pub document_rows : List Row
document_rows = prototype_row node_prototype document_cell ∷ []

pub plain_put : CanPutAll start_kinds plain_rows
plain_put = Every-left CanStand plain_rows (error_rows ++ (function_prototype_rows native_count ++ document_rows)) prototypes_put

errors_on_put : CanPutAll start_kinds (error_rows ++ (function_prototype_rows native_count ++ document_rows))
errors_on_put = Every-right CanStand plain_rows (error_rows ++ (function_prototype_rows native_count ++ document_rows)) prototypes_put

pub errors_put : CanPutAll start_kinds error_rows
errors_put = Every-left CanStand error_rows (function_prototype_rows native_count ++ document_rows) errors_on_put

functions_on_put : CanPutAll start_kinds (function_prototype_rows native_count ++ document_rows)
functions_on_put = Every-right CanStand error_rows (function_prototype_rows native_count ++ document_rows) errors_on_put

pub document_put : CanStand (prototype_row node_prototype document_cell)
document_put = (Every-right CanStand (function_prototype_rows native_count) document_rows functions_on_put).0

abbrev pub function_row : ℕ → Row
function_row which = prototype_row function_prototype (function_cell which)

functions_put : Every (λ which. CanStand (function_row which)) (range_with_len 0 native_count)
functions_put =
    Every-map_back CanStand function_row (range_with_len 0 native_count)
    (Every-left CanStand (function_prototype_rows native_count) document_rows functions_on_put)

-- the prototype of each function can be put
pub function_put : (which : ℕ) → which < native_count → CanStand (function_row which)
function_put which few =
    let P : ℕ → Type 0 = λ n. CanStand (function_row n) in
    subst P (get_or-range_with_len 0 native_count which 0 few ∙ zero-add which)
    (Every-at P (range_with_len 0 native_count) which 0 functions_put (subst (λ (n : ℕ). which < n) (sym (length-range_with_len 0 native_count)) few))
