-- A child is taken away from its parent: nodes stay trees, and the heap sound.
use Rattle.std.proofs.Common.{◌≡◌, ℕ, List, ap, sym, ◌∙◌, subst, inl, inr, ◌⊎◌}
use Rattle.page_units.specs.declared.value.CellName.{CellName}
use Rattle.page_units.specs.declared.value.Value.TheVariants as v
use Rattle.cell_places.specs.declared.place.Place.{Place}
use Rattle.cell_places.specs.declared.place.Slot.TheVariants as s
use Rattle.cell_places.specs.declared.answer.Answer.{Answer}
use Rattle.cell_places.specs.declared.answer.Answer.TheVariants as a
use Rattle.cell_places.specs.Lists.{Among, Distinct}
use Rattle.cell_places.specs.Heap.{Heap, place, cells_in, children_at}
use Rattle.cell_places.specs.Valid.{CanPut}
use Rattle.cell_places.specs.Sound.{HasParent, ParentsEnd, top, up, NodesAreTrees}
use Rattle.cell_places.specs.Spare.{Spare}
use Rattle.cell_places.specs.Ancestors.{IsAncestor, itself, above}
use Rattle.cell_places.proofs.ListsKept.{name_cases, IsWithout}
use Rattle.cell_places.proofs.Links.{LinksAre, relinked, relinked_links, spare_relinked}

-- n is a child of m, and m has these children besides
pub record CanUnlink (H : Heap) (n m : CellName) (cs : List CellName) : Type 0 where
  pub parent : HasParent H n m
  pub rest : IsWithout n (children_at H m) cs

cell_of : Answer → CellName → CellName
cell_of (a.One (v.Cell c)) d = c
cell_of _ d = d

pub same_cell : (c d : CellName) → a.One (v.Cell c) ≡ a.One (v.Cell d) → c ≡ d
unfolding cell_of
same_cell c d e = ap (λ x. cell_of x c) e

-- with f the answers before, and g those then
abbrev With : Heap → (Place → Answer) → Heap
With H g = record H { at = g }

-- n has no parent then
orphan_then : (H : Heap) (g : Place → Answer) (n m : CellName) (cs : List CellName) (x y : CellName) → LinksAre H.at g n m v.Null cs → y ≡ n → HasParent (With H g) y x → ⊥
orphan_then H g n m cs x y is e h =
    let here : g (place n s.Parent) ≡ a.One (v.Cell x) = ap (λ z. g (place z s.Parent)) (sym e) ∙ h in
    let none = is.parent_new in
    cc

-- a parent then is one of before
parent_before : (H : Heap) (g : Place → Answer) (n m : CellName) (cs : List CellName) (x y : CellName) → LinksAre H.at g n m v.Null cs → HasParent (With H g) y x → HasParent H y x
parent_before H g n m cs x y is h = sym (is.parent_old y (λ e. orphan_then H g n m cs x y is e h)) ∙ h

-- so is an ancestor
pub ancestor_before : (H : Heap) (g : Place → Answer) (n m : CellName) (cs : List CellName) (c x : CellName) → LinksAre H.at g n m v.Null cs → IsAncestor (With H g) c x → IsAncestor H c x
ancestor_before H g n m cs c _ is itself = itself
ancestor_before H g n m cs c _ is (above x y h rest) = above x y (parent_before H g n m cs y x is h) (ancestor_before H g n m cs c y is rest)

ends_then : (H : Heap) (g : Place → Answer) (n m : CellName) (cs : List CellName) → LinksAre H.at g n m v.Null cs → (x : CellName) → ParentsEnd H x → ParentsEnd (With H g) x
ends_then H g n m cs is x (top _ none) = top x (λ y h. none y (parent_before H g n m cs y x is h))
ends_then H g n m cs is x (up _ y h rest) =
    elim (name_cases x n) [
      | inl e ↦ top x (λ z k. orphan_then H g n m cs z x is e k)
      | inr apart ↦ up x y (is.parent_old x apart ∙ h) (ends_then H g n m cs is y rest)
    ]

-- a child then was one before, and isn't n
child_before : (H : Heap) (g : Place → Answer) (n m : CellName) (cs : List CellName) (x y : CellName) → NodesAreTrees H → CanUnlink H n m cs → LinksAre H.at g n m v.Null cs → (x ≡ m) ⊎ (x ≡ m → ⊥) → Among y (children_at (With H g) x) → Among y (children_at H x) × (y ≡ n → ⊥)
child_before H g n m cs x y nodes can is (inl e) h =
    let k = can.rest.kept y (subst (Among y) (ap (λ z. cells_in (g (place z s.Children))) e ∙ is.children_new) h) in
    (subst (Among y) (sym (ap (children_at H) e)) k.0, k.1)
child_before H g n m cs x y nodes can is (inr apart) h =
    let was = subst (Among y) (ap cells_in (is.children_old x apart)) h in
    (was, λ e. apart (same_cell x m (sym (nodes.parents x y was) ∙ (ap (λ z. H.at (place z s.Parent)) e ∙ can.parent))))

child_then : (H : Heap) (g : Place → Answer) (n m : CellName) (cs : List CellName) (x y : CellName) → CanUnlink H n m cs → LinksAre H.at g n m v.Null cs → (x ≡ m) ⊎ (x ≡ m → ⊥) → (y ≡ n → ⊥) → Among y (children_at H x) → Among y (children_at (With H g) x)
child_then H g n m cs x y can is (inl e) other h =
    subst (Among y) (sym (ap (λ z. cells_in (g (place z s.Children))) e ∙ is.children_new)) (can.rest.left y (subst (Among y) (ap (children_at H) e) h) other)
child_then H g n m cs x y can is (inr apart) other h = subst (Among y) (sym (ap cells_in (is.children_old x apart))) h

once_then : (H : Heap) (g : Place → Answer) (n m : CellName) (cs : List CellName) (x : CellName) → NodesAreTrees H → CanUnlink H n m cs → LinksAre H.at g n m v.Null cs → (x ≡ m) ⊎ (x ≡ m → ⊥) → Distinct (children_at (With H g) x)
once_then H g n m cs x nodes can is (inl e) = subst Distinct (sym (ap (λ z. cells_in (g (place z s.Children))) e ∙ is.children_new)) can.rest.once
once_then H g n m cs x nodes can is (inr apart) = subst Distinct (sym (ap cells_in (is.children_old x apart))) (nodes.once x)

pub nodes_unlinked : (H : Heap) (g : Place → Answer) (n m : CellName) (cs : List CellName) → NodesAreTrees H → CanUnlink H n m cs → LinksAre H.at g n m v.Null cs → NodesAreTrees (record H { at = g })
nodes_unlinked H g n m cs nodes can is = record {
  kinds = λ x y h. nodes.kinds x y (child_before H g n m cs x y nodes can is (name_cases x m) h).0;
  parents = λ x y h. let k = child_before H g n m cs x y nodes can is (name_cases x m) h in is.parent_old y k.1 ∙ nodes.parents x y k.0;
  once = λ x. once_then H g n m cs x nodes can is (name_cases x m);
  children = λ x y h. child_then H g n m cs x y can is (name_cases x m) (λ e. orphan_then H g n m cs x y is e h) (nodes.children x y (parent_before H g n m cs x y is h));
  ends = λ x. ends_then H g n m cs is x (nodes.ends x);
}

-- n is no more a child of m
abbrev pub unlinked : Heap → CellName → CellName → List CellName → Heap
unlinked H n m cs = relinked H n m v.Null cs

pub spare_unlinked : (codes credit : ℕ) (H : Heap) (n m : CellName) (cs : List CellName) → Spare codes credit H → CanUnlink H n m cs → CanPut H (place m s.Children) (a.Cells cs) → CanPut H (place n s.Parent) (a.One v.Null) → Spare codes credit (unlinked H n m cs)
spare_unlinked codes credit H n m cs spare can can_children can_parent =
    spare_relinked codes credit H n m v.Null cs spare can_children can_parent tt
    (nodes_unlinked H (unlinked H n m cs).at n m cs spare.sound.nodes can (relinked_links H n m v.Null cs))
