-- Nothing comes to stand at a cell that isn't there.
use Rattle.std.proofs.Common.{◌≡◌, ◌≤◌, ℕ, List, length, Option, Some, Result, Ok, Err, OnOk, OnErr, ap, ◌∙◌, subst}
use Rattle.std.specs.BTreeMap.{BTreeMap, get, Updates, UpdatesBy, IsUnchanged, is_at}
use Rattle.std.specs.Map.{lookup}
use Rattle.cell_places.specs.declared.place.Place.{Place}
use Rattle.cell_places.specs.declared.answer.Answer.{Answer}
use Rattle.cell_places.specs.declared.kind.CellKind.{CellKind}
use Rattle.cell_places.specs.Places.{place_cmp}
use Rattle.cell_places.specs.Valid.{CanAskIn}
use Rattle.cell_places.proofs.SamePlace.{apart_places}
use Rattle.cell_places.proofs.Grown.{nothing_past}
use Rattle.cell_heap.specs.Slots.{or_absent, NothingPast}

-- after an answer was put at a cell that is there, or taken from it
pub bare_updated : (slots new : BTreeMap Place Answer) (kinds : List CellKind) (p : Place) (x : Option Answer) → NothingPast slots kinds → CanAskIn kinds p → UpdatesBy place_cmp (place_cmp p) slots new x → NothingPast new kinds
bare_updated slots new kinds p x bare can updates q past =
    let apart = apart_places p q (λ (e : p ≡ q). nothing_past kinds q past (subst (CanAskIn kinds) e can)) in
    ap or_absent (updates.2 q apart) ∙ bare q past

-- and after it could not be put
pub bare_inserted : {T E : Type 0} (r : Result T E) (slots new : BTreeMap Place Answer) (kinds : List CellKind) (p : Place) (x : Answer) → NothingPast slots kinds → CanAskIn kinds p
    → OnOk r (Updates place_cmp slots new p (Some x)) → OnErr r (IsUnchanged slots new) → NothingPast new kinds
bare_inserted (Ok t) slots new kinds p x bare can updates same = bare_updated slots new kinds p (Some x) bare can updates
bare_inserted (Err e) slots new kinds p x bare can updates same =
    let kept : (q : Place) → get place_cmp new q ≡ get place_cmp slots q = λ q. ap (lookup (is_at (place_cmp q))) same in
    λ q past. ap or_absent (kept q) ∙ bare q past
