-- A node without a parent becomes a child, between any others: nodes stay trees, and the heap sound.
use Rattle.std.proofs.Common.{◌≡◌, ℕ, List, true, ap, sym, ◌∙◌, subst, inl, inr, ◌⊎◌}
use Rattle.page_units.specs.declared.value.CellName.{CellName}
use Rattle.page_units.specs.declared.value.Value.TheVariants as v
use Rattle.cell_places.specs.declared.place.Place.{Place}
use Rattle.cell_places.specs.declared.place.Slot.TheVariants as s
use Rattle.cell_places.specs.declared.answer.Answer.{Answer}
use Rattle.cell_places.specs.declared.answer.Answer.TheVariants as a
use Rattle.cell_places.specs.Lists.{Among, Distinct}
use Rattle.cell_places.specs.Kinds.{is_child, is_object}
use Rattle.cell_places.specs.Heap.{Heap, place, cells_in, kind_at, children_at}
use Rattle.cell_places.specs.Valid.{CanPut}
use Rattle.cell_places.specs.Sound.{HasParent, ParentsEnd, top, up, NodesAreTrees}
use Rattle.cell_places.specs.Spare.{Spare}
use Rattle.cell_places.specs.Ancestors.{IsAncestor, itself, above}
use Rattle.cell_places.proofs.ListsKept.{name_cases, IsWith}
use Rattle.cell_places.proofs.Links.{LinksAre, relinked, relinked_links, spare_relinked}
use Rattle.cell_places.proofs.ChildRemoved.{CanUnlink, unlinked, spare_unlinked, ancestor_before, same_cell}

-- n has no parent, isn't m or above it, and comes among the children of m
pub record CanInsert (H : Heap) (n m : CellName) (cs : List CellName) : Type 0 where
  pub orphan : (x : CellName) → HasParent H n x → ⊥
  pub below : IsAncestor H n m → ⊥
  pub child : is_child (kind_at H n) ≡ true
  pub siblings : IsWith n (children_at H m) cs

abbrev With : Heap → (Place → Answer) → Heap
With H g = record H { at = g }

-- the parents of what n isn't above
ends_apart : (H : Heap) (g : Place → Answer) (n m : CellName) (cs : List CellName) → LinksAre H.at g n m (v.Cell m) cs → (x : CellName) → (IsAncestor H n x → ⊥) → ParentsEnd H x → ParentsEnd (With H g) x
ends_apart H g n m cs is x below (top _ none) =
    let keep = is.parent_old x (λ e. below (subst (IsAncestor H n) (sym e) itself)) in
    top x (λ y h. none y (sym keep ∙ h))
ends_apart H g n m cs is x below (up _ y h rest) =
    let keep = is.parent_old x (λ e. below (subst (IsAncestor H n) (sym e) itself)) in
    up x y (keep ∙ h) (ends_apart H g n m cs is y (λ k. below (above x y h k)) rest)

-- the parents of n
ends_new : (H : Heap) (g : Place → Answer) (n m : CellName) (cs : List CellName) → NodesAreTrees H → CanInsert H n m cs → LinksAre H.at g n m (v.Cell m) cs → (x : CellName) → x ≡ n → ParentsEnd (With H g) x
ends_new H g n m cs nodes can is x e =
    subst (ParentsEnd (With H g)) (sym e) (up n m is.parent_new (ends_apart H g n m cs is m can.below (nodes.ends m)))

-- and of each node
ends_all : (H : Heap) (g : Place → Answer) (n m : CellName) (cs : List CellName) → NodesAreTrees H → CanInsert H n m cs → LinksAre H.at g n m (v.Cell m) cs → (x : CellName) → ParentsEnd H x → ParentsEnd (With H g) x
ends_all H g n m cs nodes can is x (top _ none) =
    elim (name_cases x n) [
      | inl e ↦ ends_new H g n m cs nodes can is x e
      | inr apart ↦ top x (λ y h. none y (sym (is.parent_old x apart) ∙ h))
    ]
ends_all H g n m cs nodes can is x (up _ y h rest) =
    elim (name_cases x n) [
      | inl e ↦ ends_new H g n m cs nodes can is x e
      | inr apart ↦ up x y (is.parent_old x apart ∙ h) (ends_all H g n m cs nodes can is y rest)
    ]

-- a child then is n under m, or was one before
child_cases : (H : Heap) (g : Place → Answer) (n m : CellName) (cs : List CellName) (x y : CellName) → CanInsert H n m cs → LinksAre H.at g n m (v.Cell m) cs → (x ≡ m) ⊎ (x ≡ m → ⊥) → Among y (children_at (With H g) x) → ((x ≡ m) × (n ≡ y)) ⊎ Among y (children_at H x)
child_cases H g n m cs x y can is (inl e) h =
    elim (can.siblings.cases y (subst (Among y) (ap (λ z. cells_in (g (place z s.Children))) e ∙ is.children_new) h)) [
      | inl f ↦ inl (e, f)
      | inr k ↦ inr (subst (Among y) (sym (ap (children_at H) e)) k)
    ]
child_cases H g n m cs x y can is (inr apart) h = inr (subst (Among y) (ap cells_in (is.children_old x apart)) h)

-- n was no child
not_child : (H : Heap) (n m : CellName) (cs : List CellName) (x y : CellName) → NodesAreTrees H → CanInsert H n m cs → Among y (children_at H x) → y ≡ n → ⊥
not_child H n m cs x y nodes can h e = can.orphan x (ap (λ z. H.at (place z s.Parent)) (sym e) ∙ nodes.parents x y h)

kinds_by : (H : Heap) (n m : CellName) (cs : List CellName) (x y : CellName) → NodesAreTrees H → CanInsert H n m cs → ((x ≡ m) × (n ≡ y)) ⊎ Among y (children_at H x) → is_child (kind_at H y) ≡ true
kinds_by H n m cs x y nodes can (inl e) = ap (λ z. is_child (kind_at H z)) (sym e.1) ∙ can.child
kinds_by H n m cs x y nodes can (inr h) = nodes.kinds x y h

parents_by : (H : Heap) (g : Place → Answer) (n m : CellName) (cs : List CellName) (x y : CellName) → NodesAreTrees H → CanInsert H n m cs → LinksAre H.at g n m (v.Cell m) cs → ((x ≡ m) × (n ≡ y)) ⊎ Among y (children_at H x) → HasParent (With H g) y x
parents_by H g n m cs x y nodes can is (inl e) =
    ap (λ z. g (place z s.Parent)) (sym e.1) ∙ (is.parent_new ∙ ap (λ z. a.One (v.Cell z)) (sym e.0))
parents_by H g n m cs x y nodes can is (inr h) = is.parent_old y (not_child H n m cs x y nodes can h) ∙ nodes.parents x y h

once_by : (H : Heap) (g : Place → Answer) (n m : CellName) (cs : List CellName) (x : CellName) → NodesAreTrees H → CanInsert H n m cs → LinksAre H.at g n m (v.Cell m) cs → (x ≡ m) ⊎ (x ≡ m → ⊥) → Distinct (children_at (With H g) x)
once_by H g n m cs x nodes can is (inl e) = subst Distinct (sym (ap (λ z. cells_in (g (place z s.Children))) e ∙ is.children_new)) can.siblings.once
once_by H g n m cs x nodes can is (inr apart) = subst Distinct (sym (ap cells_in (is.children_old x apart))) (nodes.once x)

is_then : (H : Heap) (g : Place → Answer) (n m : CellName) (cs : List CellName) (x y : CellName) → LinksAre H.at g n m (v.Cell m) cs → x ≡ m → Among y cs → Among y (children_at (With H g) x)
is_then H g n m cs x y is e h = subst (Among y) (sym (ap (λ z. cells_in (g (place z s.Children))) e ∙ is.children_new)) h

old_child : (H : Heap) (g : Place → Answer) (n m : CellName) (cs : List CellName) (x y : CellName) → CanInsert H n m cs → LinksAre H.at g n m (v.Cell m) cs → (x ≡ m) ⊎ (x ≡ m → ⊥) → Among y (children_at H x) → Among y (children_at (With H g) x)
old_child H g n m cs x y can is (inl e) h = is_then H g n m cs x y is e (can.siblings.old y (subst (Among y) (ap (children_at H) e) h))
old_child H g n m cs x y can is (inr apart) h = subst (Among y) (sym (ap cells_in (is.children_old x apart))) h

children_by : (H : Heap) (g : Place → Answer) (n m : CellName) (cs : List CellName) (x y : CellName) → NodesAreTrees H → CanInsert H n m cs → LinksAre H.at g n m (v.Cell m) cs → (y ≡ n) ⊎ (y ≡ n → ⊥) → HasParent (With H g) y x → Among y (children_at (With H g) x)
children_by H g n m cs x y nodes can is (inl e) h =
    let same = same_cell x m (sym h ∙ (ap (λ z. g (place z s.Parent)) e ∙ is.parent_new)) in
    subst (λ z. Among z (children_at (With H g) x)) (sym e) (is_then H g n m cs x n is same can.siblings.new)
children_by H g n m cs x y nodes can is (inr apart) h =
    old_child H g n m cs x y can is (name_cases x m) (nodes.children x y (sym (is.parent_old y apart) ∙ h))

pub nodes_inserted : (H : Heap) (g : Place → Answer) (n m : CellName) (cs : List CellName) → NodesAreTrees H → CanInsert H n m cs → LinksAre H.at g n m (v.Cell m) cs → NodesAreTrees (record H { at = g })
nodes_inserted H g n m cs nodes can is = record {
  kinds = λ x y h. kinds_by H n m cs x y nodes can (child_cases H g n m cs x y can is (name_cases x m) h);
  parents = λ x y h. parents_by H g n m cs x y nodes can is (child_cases H g n m cs x y can is (name_cases x m) h);
  once = λ x. once_by H g n m cs x nodes can is (name_cases x m);
  children = λ x y h. children_by H g n m cs x y nodes can is (name_cases y n) h;
  ends = λ x. ends_all H g n m cs nodes can is x (nodes.ends x);
}

-- n is a child of m, which has these children
abbrev pub inserted : Heap → CellName → CellName → List CellName → Heap
inserted H n m cs = relinked H n m (v.Cell m) cs

pub spare_inserted : (codes credit : ℕ) (H : Heap) (n m : CellName) (cs : List CellName) → Spare codes credit H → CanInsert H n m cs → CanPut H (place m s.Children) (a.Cells cs) → CanPut H (place n s.Parent) (a.One (v.Cell m)) → is_object (kind_at H m) ≡ true
    → Spare codes credit (inserted H n m cs)
spare_inserted codes credit H n m cs spare can can_children can_parent object =
    spare_relinked codes credit H n m (v.Cell m) cs spare can_children can_parent object
    (nodes_inserted H (inserted H n m cs).at n m cs spare.sound.nodes can (relinked_links H n m (v.Cell m) cs))

-- ---- moved from one parent to another, or among the children of one

-- n is a child of `old`, which has the children `rest` besides, and comes among the children of m
pub record CanMove (H : Heap) (n old m : CellName) (rest cs : List CellName) : Type 0 where
  pub leaves : CanUnlink H n old rest
  pub below : IsAncestor H n m → ⊥
  pub siblings : IsWith n (children_at (unlinked H n old rest) m) cs

abbrev pub moved_child : Heap → CellName → CellName → CellName → List CellName → List CellName → Heap
moved_child H n old m rest cs = inserted (unlinked H n old rest) n m cs

can_insert_moved : (H : Heap) (n old m : CellName) (rest cs : List CellName) → NodesAreTrees H → CanMove H n old m rest cs → CanInsert (unlinked H n old rest) n m cs
can_insert_moved H n old m rest cs nodes can =
    let is = relinked_links H n old v.Null rest in
    record {
      orphan = λ x h. let none = is.parent_new in cc;
      below = λ h. can.below (ancestor_before H (unlinked H n old rest).at n old rest n m is h);
      child = nodes.kinds old n (nodes.children old n can.leaves.parent);
      siblings = can.siblings;
    }

pub spare_moved : (codes credit : ℕ) (H : Heap) (n old m : CellName) (rest cs : List CellName) → Spare codes credit H → CanMove H n old m rest cs → CanPut H (place old s.Children) (a.Cells rest) → CanPut H (place n s.Parent) (a.One v.Null)
    → CanPut H (place m s.Children) (a.Cells cs) → CanPut H (place n s.Parent) (a.One (v.Cell m)) → is_object (kind_at H m) ≡ true → Spare codes credit (moved_child H n old m rest cs)
spare_moved codes credit H n old m rest cs spare can can_rest can_none can_children can_parent object =
    spare_inserted codes credit (unlinked H n old rest) n m cs (spare_unlinked codes credit H n old rest spare can.leaves can_rest can_none)
    (can_insert_moved H n old m rest cs spare.sound.nodes can) can_children can_parent object
