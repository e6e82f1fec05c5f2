-- Rows put one after another.
use Rattle.std.proofs.Common.{◌≡◌, ℕ, ◌+◌, ◌<◌, List, [], ◌∷◌, ◌++◌, length, map, take, get_or, ap, sym, subst, ◌∙◌, zero-add}
use Rattle.std.specs.Prelude.{OnOk}
use Rattle.std.specs.declared.result.Result.{Result}
use Rattle.std.specs.List.{flat_map}
use Rattle.std.proofs.lemmas.Result.{on_ok_weaker}
use Rattle.std.proofs.lemmas.List.{map_more, take_more, append-nil}
use Rattle.std.proofs.lemmas.List.FromFn.{map-range_with_len_more}
use Rattle.std.proofs.lemmas.Grind.{flat_map-append}
use Rattle.cell_places.specs.declared.kind.CellKind.{CellKind}
use Rattle.cell_places.specs.Heap.{Heap}
use Rattle.cell_places.specs.Valid.{CanPutIn}
use Rattle.cell_places.specs.Acts.{placed, moved, after}
use Rattle.cell_places.specs.StartRows.{Row, puts, function_prototype_rows}
use Rattle.cell_places.specs.Known.{native_count}
use Rattle.cell_places.specs.Start.{start_kinds}
use Rattle.cell_places.proofs.EachPut.{puts-kinds, puts-append, Every-map_back, Every-at}
use Rattle.cell_heap.specs.StartParts.{CanPutAll}
use Rattle.cell_heap.proofs.StartRows.{function_row}

-- ---- what can be put

-- puts leave the kinds of a start
pub kinds_kept : (H K : Heap) (rows : List Row) → H.kinds ≡ start_kinds → K ≡ after H (puts rows) → K.kinds ≡ start_kinds
kinds_kept H K rows h e = ap (λ (x : Heap). x.kinds) e ∙ (puts-kinds H rows ∙ h)

-- what can be put at a start can be put where its kinds are
pub put_there : (kinds : List CellKind) (r : Row) → kinds ≡ start_kinds → CanPutIn start_kinds r.0 r.1 → CanPutIn kinds r.0 r.1
put_there kinds r e h = subst (λ (ks : List CellKind). CanPutIn ks r.0 r.1) (sym e) h

-- and the row of one item
pub item_put : {X : Type 0} (f : X → Row) (xs : List X) (i : ℕ) (d : X) (kinds : List CellKind) → kinds ≡ start_kinds → CanPutAll start_kinds (map f xs) → i < length xs
    → CanPutIn kinds (f (get_or xs i d)).0 (f (get_or xs i d)).1
item_put f xs i d kinds e h few =
    let P : Row → Type 0 = λ r. CanPutIn start_kinds r.0 r.1 in
    put_there kinds (f (get_or xs i d)) e (Every-at (λ x. P (f x)) xs i d (Every-map_back P f xs h) few)

-- ---- what stands after

-- rows behind rows
pub rows_then : (H K M : Heap) (rows more : List Row) → K ≡ after H (puts rows) → M ≡ after K (puts more) → M ≡ after H (puts (rows ++ more))
rows_then H K M rows more e f = f ∙ (ap (λ (x : Heap). after x (puts more)) e ∙ sym (puts-append H rows more))

-- and where the last of them is a function's result
pub ok_then : {T E : Type 0} (r : Result T E) (H K M : Heap) (rows more : List Row) → K ≡ after H (puts rows) → OnOk r (M ≡ after K (puts more)) → OnOk r (M ≡ after H (puts (rows ++ more)))
ok_then r H K M rows more e h = on_ok_weaker r (rows_then H K M rows more e) h

-- the row of one more item
pub row_more : {X : Type 0} (f : X → Row) (xs : List X) (i : ℕ) (d : X) (H K M : Heap) → i < length xs → K ≡ after H (puts (map f (take i xs)))
    → M ≡ moved K (placed (f (get_or xs i d)).0 (f (get_or xs i d)).1) → M ≡ after H (puts (map f (take (i + 1) xs)))
row_more f xs i d H K M few e h =
    rows_then H K M (map f (take i xs)) (f (get_or xs i d) ∷ []) e h
    ∙ ap (λ (rows : List Row). after H (puts rows)) (sym (map_more f xs i d few))

-- one more item
flat_more : {X : Type 0} (f : X → List Row) (xs : List X) (i : ℕ) (d : X) → i < length xs → flat_map f (take (i + 1) xs) ≡ flat_map f (take i xs) ++ f (get_or xs i d)
flat_more f xs i d few =
    ap (flat_map f) (take_more xs i d few)
    ∙ (flat_map-append f (take i xs) (get_or xs i d ∷ []) ∙ ap (λ (rows : List Row). flat_map f (take i xs) ++ rows) (append-nil (f (get_or xs i d))))

-- the rows of one more item
pub rows_more : {X : Type 0} (f : X → List Row) (xs : List X) (i : ℕ) (d : X) (H K M : Heap) → i < length xs → K ≡ after H (puts (flat_map f (take i xs)))
    → M ≡ after K (puts (f (get_or xs i d))) → M ≡ after H (puts (flat_map f (take (i + 1) xs)))
rows_more f xs i d H K M few e h =
    rows_then H K M (flat_map f (take i xs)) (f (get_or xs i d)) e h
    ∙ ap (λ (rows : List Row). after H (puts rows)) (sym (flat_more f xs i d few))

-- the prototype of one more function
pub function_more : (which : ℕ) (H K M : Heap) → K ≡ after H (puts (function_prototype_rows which)) → M ≡ moved K (placed (function_row which).0 (function_row which).1)
    → M ≡ after H (puts (function_prototype_rows (which + 1)))
function_more which H K M e h =
    rows_then H K M (function_prototype_rows which) (function_row which ∷ []) e h
    ∙ ap (λ (rows : List Row). after H (puts rows)) (sym (map-range_with_len_more function_row 0 which which (zero-add which)))

-- the prototypes of all of them
pub functions_all : (which : ℕ) (H K : Heap) → which ≡ native_count → K ≡ after H (puts (function_prototype_rows which)) → K ≡ after H (puts (function_prototype_rows native_count))
functions_all which H K e h = subst (λ (n : ℕ). K ≡ after H (puts (function_prototype_rows n))) e h
