-- A node without links behind the children of a parent: nodes stay trees, and the heap sound.
use Rattle.std.proofs.Common.{◌≡◌, ◌≢◌, ℕ, List, [], ◌∷◌, ◌++◌, true, refl, ap, sym, ◌∙◌, subst, inl, inr, ◌⊎◌}
use Rattle.std.proofs.lemmas.Bool.{cases_eq}
use Rattle.page_units.specs.declared.value.CellName.{CellName}
use Rattle.page_units.specs.declared.value.Value.TheVariants as v
use Rattle.cell_places.specs.declared.place.Place.{Place}
use Rattle.cell_places.specs.declared.place.Slot.{Slot}
use Rattle.cell_places.specs.declared.place.Slot.TheVariants as s
use Rattle.cell_places.specs.declared.answer.Answer.{Answer}
use Rattle.cell_places.specs.declared.answer.Answer.TheVariants as a
use Rattle.cell_places.specs.Lists.{Among, Distinct}
use Rattle.cell_places.specs.Places.{slot_rank}
use Rattle.cell_places.specs.Kinds.{is_child, is_object}
use Rattle.cell_places.specs.Heap.{Heap, place, put_at, cells_in, kind_at, children_at}
use Rattle.cell_places.specs.Valid.{CanPut, Stands}
use Rattle.cell_places.specs.Acts.{placed, moved}
use Rattle.cell_places.specs.Sound.{AnswerIsSound, HasParent, ParentsEnd, top, up, NodesAreTrees, IsSound}
use Rattle.cell_places.proofs.SamePlace.{put_at-same, put_at-other, put_at-each}
use Rattle.cell_places.proofs.Grown.{Stands-put}
use Rattle.cell_places.proofs.KeepsSound.{is_free, KeepsOutside-put, KeepsOutside-trans, IsSound-put}

-- n is put under m, behind these children
abbrev pub linked : Heap → CellName → CellName → List CellName → Heap
linked H n m cs = moved (moved H (placed (place n s.Parent) (a.One (v.Cell m)))) (placed (place m s.Children) (a.Cells (cs ++ n ∷ [])))

-- ---- places that differ

-- slots that differ
pub other_slot : (n m : CellName) (x y : Slot) → slot_rank x ≢ slot_rank y → place n x ≢ place m y
other_slot n m x y apart e = apart (ap (λ (p : Place). slot_rank p.slot) e)

-- cells that differ
pub other_cell : (n m : CellName) (x y : Slot) → n ≢ m → place n x ≢ place m y
other_cell n m x y apart e = apart (ap (λ (p : Place). p.cell) e)

name_cases_by : (n m : CellName) → (n.0 ≡ m.0) ⊎ (n.0 ≡ m.0 → ⊥) → (n ≡ m) ⊎ (n ≡ m → ⊥)
name_cases_by n m (inl e) = inl (λ i. record { 0 = e i })
name_cases_by n m (inr e) = inr (λ h. e (ap (λ (x : CellName). x.0) h))

name_cases : (n m : CellName) → (n ≡ m) ⊎ (n ≡ m → ⊥)
name_cases n m = name_cases_by n m (cases_eq n.0 m.0)

-- ---- one more name behind others

-- what stands among them was there before, or is the last
last_cases : (cs : List CellName) (n x : CellName) → Among x (cs ++ n ∷ []) → (n ≡ x) ⊎ Among x cs
last_cases [] n x (inl e) = inl e
last_cases [] n x (inr h) = elim h [ ]
last_cases (c ∷ cs) n x (inl e) = inr (inl e)
last_cases (c ∷ cs) n x (inr h) = elim (last_cases cs n x h) [ inl e ↦ inl e | inr k ↦ inr (inr k) ]

before_last : (cs : List CellName) (n x : CellName) → Among x cs → Among x (cs ++ n ∷ [])
before_last [] n x h = elim h [ ]
before_last (c ∷ cs) n x (inl e) = inl e
before_last (c ∷ cs) n x (inr h) = inr (before_last cs n x h)

the_last : (cs : List CellName) (n : CellName) → Among n (cs ++ n ∷ [])
the_last [] n = inl refl
the_last (c ∷ cs) n = inr (the_last cs n)

last_once : (cs : List CellName) (n : CellName) → Distinct cs → (Among n cs → ⊥) → Distinct (cs ++ n ∷ [])
last_once [] n once new = (λ h. h, tt)
last_once (c ∷ cs) n once new =
    (λ h. elim (last_cases cs n c h) [ inl e ↦ new (inl (sym e)) | inr k ↦ once.0 k ], last_once cs n once.1 (λ h. new (inr h)))

-- ---- what stands then

parent_new : (H : Heap) (n m : CellName) (cs : List CellName) → (linked H n m cs).at (place n s.Parent) ≡ a.One (v.Cell m)
parent_new H n m cs =
    put_at-other (put_at H.at (place n s.Parent) (a.One (v.Cell m))) (place m s.Children) (place n s.Parent) (a.Cells (cs ++ n ∷ [])) (other_slot m n s.Children s.Parent (λ e. cc))
    ∙ put_at-same H.at (place n s.Parent) (a.One (v.Cell m))

parent_old : (H : Heap) (n m : CellName) (cs : List CellName) (x : CellName) → (x ≡ n → ⊥) → (linked H n m cs).at (place x s.Parent) ≡ H.at (place x s.Parent)
parent_old H n m cs x apart =
    put_at-other (put_at H.at (place n s.Parent) (a.One (v.Cell m))) (place m s.Children) (place x s.Parent) (a.Cells (cs ++ n ∷ [])) (other_slot m x s.Children s.Parent (λ e. cc))
    ∙ put_at-other H.at (place n s.Parent) (place x s.Parent) (a.One (v.Cell m)) (other_cell n x s.Parent s.Parent (λ e. apart (sym e)))

children_new : (H : Heap) (n m : CellName) (cs : List CellName) → children_at (linked H n m cs) m ≡ cs ++ n ∷ []
children_new H n m cs = ap cells_in (put_at-same (put_at H.at (place n s.Parent) (a.One (v.Cell m))) (place m s.Children) (a.Cells (cs ++ n ∷ [])))

children_old : (H : Heap) (n m : CellName) (cs : List CellName) (x : CellName) → (x ≡ m → ⊥) → children_at (linked H n m cs) x ≡ children_at H x
children_old H n m cs x apart =
    ap cells_in (put_at-other (put_at H.at (place n s.Parent) (a.One (v.Cell m))) (place m s.Children) (place x s.Children) (a.Cells (cs ++ n ∷ [])) (other_cell m x s.Children s.Children (λ e. apart (sym e)))
    ∙ put_at-other H.at (place n s.Parent) (place x s.Children) (a.One (v.Cell m)) (other_slot n x s.Parent s.Children (λ e. cc)))

-- ---- nodes stay trees

-- n and m differ, m has these children, and n neither parent nor children
pub record CanLink (H : Heap) (n m : CellName) (cs : List CellName) : Type 0 where
  pub apart : n ≡ m → ⊥
  pub siblings : children_at H m ≡ cs
  pub leaf : children_at H n ≡ []
  pub orphan : (x : CellName) → HasParent H n x → ⊥
  pub child : is_child (kind_at H n) ≡ true

none_among : (xs : List CellName) (x : CellName) → xs ≡ [] → Among x xs → ⊥
none_among xs x e h = let none : ⊥ = subst (Among x) e h in none

cell_of : Answer → CellName → CellName
cell_of (a.One (v.Cell c)) d = c
cell_of _ d = d

same_cell : (c d : CellName) → a.One (v.Cell c) ≡ a.One (v.Cell d) → c ≡ d
unfolding cell_of
same_cell c d e = ap (λ x. cell_of x c) e

ends_old : (H : Heap) (n m : CellName) (cs : List CellName) → NodesAreTrees H → CanLink H n m cs → (x : CellName) → (x ≡ n → ⊥) → ParentsEnd H x → ParentsEnd (linked H n m cs) x
ends_old H n m cs nodes can x apart (top _ none) = top x (λ y h. none y (sym (parent_old H n m cs x apart) ∙ h))
ends_old H n m cs nodes can x apart (up _ y h rest) =
    up x y (parent_old H n m cs x apart ∙ h)
    (ends_old H n m cs nodes can y (λ e. none_among (children_at H y) x (ap (children_at H) e ∙ can.leaf) (nodes.children y x h)) rest)

ends_by : (H : Heap) (n m : CellName) (cs : List CellName) → NodesAreTrees H → CanLink H n m cs → (x : CellName) → (x ≡ n) ⊎ (x ≡ n → ⊥) → ParentsEnd (linked H n m cs) x
ends_by H n m cs nodes can x (inr apart) = ends_old H n m cs nodes can x apart (nodes.ends x)
ends_by H n m cs nodes can x (inl e) =
    subst (ParentsEnd (linked H n m cs)) (sym e) (up n m (parent_new H n m cs) (ends_old H n m cs nodes can m (λ f. can.apart (sym f)) (nodes.ends m)))

-- the children of m before
was_child : (H : Heap) (n m : CellName) (cs : List CellName) (x y : CellName) → CanLink H n m cs → x ≡ m → Among y cs → Among y (children_at H x)
was_child H n m cs x y can e h = subst (Among y) (sym (ap (children_at H) e ∙ can.siblings)) h

-- the children of m then
is_then : (H : Heap) (n m : CellName) (cs : List CellName) (x y : CellName) → x ≡ m → Among y (cs ++ n ∷ []) → Among y (children_at (linked H n m cs) x)
is_then H n m cs x y e h = subst (Among y) (sym (ap (children_at (linked H n m cs)) e ∙ children_new H n m cs)) h

-- a child then is n under m, or was one before
child_cases : (H : Heap) (n m : CellName) (cs : List CellName) (x y : CellName) → CanLink H n m cs → (x ≡ m) ⊎ (x ≡ m → ⊥) → Among y (children_at (linked H n m cs) x) → ((x ≡ m) × (n ≡ y)) ⊎ Among y (children_at H x)
child_cases H n m cs x y can (inl e) h =
    elim (last_cases cs n y (subst (Among y) (ap (children_at (linked H n m cs)) e ∙ children_new H n m cs) h)) [
      | inl f ↦ inl (e, f)
      | inr k ↦ inr (was_child H n m cs x y can e k)
    ]
child_cases H n m cs x y can (inr apart) h = inr (subst (Among y) (children_old H n m cs x apart) h)

kinds_by : (H : Heap) (n m : CellName) (cs : List CellName) (x y : CellName) → NodesAreTrees H → CanLink H n m cs → ((x ≡ m) × (n ≡ y)) ⊎ Among y (children_at H x) → is_child (kind_at H y) ≡ true
kinds_by H n m cs x y nodes can (inl e) = ap (λ z. is_child (kind_at H z)) (sym e.1) ∙ can.child
kinds_by H n m cs x y nodes can (inr h) = nodes.kinds x y h

-- n was no child
not_child : (H : Heap) (n m : CellName) (cs : List CellName) (x y : CellName) → NodesAreTrees H → CanLink H n m cs → Among y (children_at H x) → y ≡ n → ⊥
not_child H n m cs x y nodes can h e = can.orphan x (ap (λ z. H.at (place z s.Parent)) (sym e) ∙ nodes.parents x y h)

parents_by : (H : Heap) (n m : CellName) (cs : List CellName) (x y : CellName) → NodesAreTrees H → CanLink H n m cs → ((x ≡ m) × (n ≡ y)) ⊎ Among y (children_at H x) → HasParent (linked H n m cs) y x
parents_by H n m cs x y nodes can (inl e) =
    ap (λ z. (linked H n m cs).at (place z s.Parent)) (sym e.1) ∙ (parent_new H n m cs ∙ ap (λ z. a.One (v.Cell z)) (sym e.0))
parents_by H n m cs x y nodes can (inr h) = parent_old H n m cs y (not_child H n m cs x y nodes can h) ∙ nodes.parents x y h

once_by : (H : Heap) (n m : CellName) (cs : List CellName) (x : CellName) → NodesAreTrees H → CanLink H n m cs → (x ≡ m) ⊎ (x ≡ m → ⊥) → Distinct (children_at (linked H n m cs) x)
once_by H n m cs x nodes can (inl e) =
    subst Distinct (sym (ap (children_at (linked H n m cs)) e ∙ children_new H n m cs))
    (last_once cs n (subst Distinct can.siblings (nodes.once m)) (λ h. not_child H n m cs m n nodes can (was_child H n m cs m n can refl h) refl))
once_by H n m cs x nodes can (inr apart) = subst Distinct (sym (children_old H n m cs x apart)) (nodes.once x)

old_child : (H : Heap) (n m : CellName) (cs : List CellName) (x y : CellName) → CanLink H n m cs → (x ≡ m) ⊎ (x ≡ m → ⊥) → Among y (children_at H x) → Among y (children_at (linked H n m cs) x)
old_child H n m cs x y can (inl e) h = is_then H n m cs x y e (before_last cs n y (subst (Among y) (ap (children_at H) e ∙ can.siblings) h))
old_child H n m cs x y can (inr apart) h = subst (Among y) (sym (children_old H n m cs x apart)) h

children_by : (H : Heap) (n m : CellName) (cs : List CellName) (x y : CellName) → NodesAreTrees H → CanLink H n m cs → (y ≡ n) ⊎ (y ≡ n → ⊥) → HasParent (linked H n m cs) y x → Among y (children_at (linked H n m cs) x)
children_by H n m cs x y nodes can (inl e) h =
    let same = same_cell x m (sym h ∙ (ap (λ z. (linked H n m cs).at (place z s.Parent)) e ∙ parent_new H n m cs)) in
    subst (λ z. Among z (children_at (linked H n m cs) x)) (sym e) (is_then H n m cs x n same (the_last cs n))
children_by H n m cs x y nodes can (inr apart) h =
    old_child H n m cs x y can (name_cases x m) (nodes.children x y (sym (parent_old H n m cs y apart) ∙ h))

NodesAreTrees-linked : (H : Heap) (n m : CellName) (cs : List CellName) → NodesAreTrees H → CanLink H n m cs → NodesAreTrees (linked H n m cs)
NodesAreTrees-linked H n m cs nodes can = record {
  kinds = λ x y h. kinds_by H n m cs x y nodes can (child_cases H n m cs x y can (name_cases x m) h);
  parents = λ x y h. parents_by H n m cs x y nodes can (child_cases H n m cs x y can (name_cases x m) h);
  once = λ x. once_by H n m cs x nodes can (name_cases x m);
  children = λ x y h. children_by H n m cs x y nodes can (name_cases y n) h;
  ends = λ x. ends_by H n m cs nodes can x (name_cases x n);
}

-- the heap stays sound
pub IsSound-linked : (codes : ℕ) (H : Heap) (n m : CellName) (cs : List CellName) → IsSound codes H → CanLink H n m cs
    → CanPut H (place n s.Parent) (a.One (v.Cell m)) → CanPut H (place m s.Children) (a.Cells (cs ++ n ∷ [])) → is_object (kind_at H m) ≡ true → IsSound codes (linked H n m cs)
IsSound-linked codes H n m cs sound can parent children object =
    let f : Place → Answer = put_at H.at (place n s.Parent) (a.One (v.Cell m)) in
    let g : Place → Answer = put_at f (place m s.Children) (a.Cells (cs ++ n ∷ [])) in
    IsSound-put codes H g sound
    (KeepsOutside-trans is_free H.at f g (KeepsOutside-put is_free H.at (place n s.Parent) (a.One (v.Cell m)) refl) (KeepsOutside-put is_free f (place m s.Children) (a.Cells (cs ++ n ∷ [])) refl))
    (put_at-each (Stands H.kinds) f (place m s.Children) (a.Cells (cs ++ n ∷ []))
    (put_at-each (Stands H.kinds) H.at (place n s.Parent) (a.One (v.Cell m)) sound.valid.places (Stands-put H.kinds _ _ parent)) (Stands-put H.kinds _ _ children))
    (put_at-each (λ q. AnswerIsSound H.kinds) f (place m s.Children) (a.Cells (cs ++ n ∷ []))
    (put_at-each (λ q. AnswerIsSound H.kinds) H.at (place n s.Parent) (a.One (v.Cell m)) sound.answers object) tt)
    (NodesAreTrees-linked H n m cs sound.nodes can)
