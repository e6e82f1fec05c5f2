-- The text of siblings, one after another.
use Rattle.std.proofs.Common.{◌≡◌, ℕ, ◌+◌, ◌<◌, ◌≤◌, length, List, [], ◌∷◌, ◌++◌, Bool, true, false, cond, ◌&&◌, refl, ap, sym, ◌∙◌, subst, append_assoc, arith, length-append, get_or, drop}
use Rattle.std.specs.List.{flat_map}
use Rattle.std.proofs.Math.ListN.{drop_of_length-le}
use Rattle.std.proofs.lemmas.List.{append-nil, drop_more}
use Rattle.page_units.specs.declared.value.CellName.{CellName}
use Rattle.page_units.specs.Coding.{utf8_of_units}
use Rattle.cell_places.specs.declared.place.Slot.TheVariants as s
use Rattle.cell_places.specs.Heap.{Heap, place, text_in}
use Rattle.tree_shape.specs.Names.{is_void, is_raw}
use Rattle.tree_shape.specs.Trees.{Trees}
use Rattle.tree_shape.specs.Trees as t
use Rattle.tree_writer.specs.TreeText.{trees_text, start_tag, end_tag, escape_text, is_none}
use Rattle.tree_writer.specs.Appends.{Appended}
use Rattle.tree_shape.specs.Holds as holds
use Rattle.tree_shape.specs.Holds.{Holds, attributes_at}
use Rattle.tree_writer.proofs.OneText.{trees_alike}
use Rattle.tree_shape.proofs.SoundTrees.{Form}

-- their text was appended
abbrev pub Says : Heap → List CellName → Bool → Bool → ℕ → List ℕ → List ℕ → Type 0
Says H cells raw whole most old new = (trees : Trees) → Holds H cells trees → Appended whole most old new (trees_text raw trees)

-- ---- the first of siblings and the others

pub record Parts (H : Heap) (raw : Bool) (n : CellName) (cells : List CellName) (trees : Trees) : Type 0 where
  pub one : Trees
  pub more : Trees
  pub first : Holds H (n ∷ []) one
  pub rest : Holds H cells more
  pub text : trees_text raw trees ≡ trees_text raw one ++ trees_text raw more

-- the end of one text node's text is the start of the next
join_text : (x y : List ℕ) → x ++ y ≡ (x ++ []) ++ y
join_text x y = ap (λ (z : List ℕ). z ++ y) (sym (append-nil x))

-- and so with an element's
join_element : (s m y : List ℕ) → s ++ (m ++ y) ≡ (s ++ (m ++ [])) ++ y
join_element s m y = ap (λ (z : List ℕ). s ++ (z ++ y)) (sym (append-nil m)) ∙ sym (append_assoc s (m ++ []) y)

-- the first sibling and the others, each with its text
pub parts : (H : Heap) (raw : Bool) (n : CellName) (cells : List CellName) (trees : Trees) → Holds H (n ∷ cells) trees → Parts H raw n cells trees
parts H raw _ _ _ (holds.text n cells more k rest) = record {
  one = t.text (text_in (H.at (place n s.Chars))) t.none;
  more = more;
  first = holds.text n [] t.none k holds.none;
  rest = rest;
  text = let units = text_in (H.at (place n s.Chars)) in join_text (cond raw (utf8_of_units units) (utf8_of_units (flat_map escape_text units))) (trees_text raw more);
}
parts H raw _ _ _ (holds.element n name cells children more k below rest) = record {
  one = t.element name (attributes_at H n) children t.none;
  more = more;
  first = holds.element n name [] children t.none k below holds.none;
  rest = rest;
  text = join_element (start_tag name (attributes_at H n)) (cond (is_void name && is_none children) [] (trees_text (is_raw name) children ++ end_tag name)) (trees_text raw more);
}

-- ---- a loop over siblings

-- the first `count` were appended: what is left is the text of the others
pub record Progress (H : Heap) (nodes : List CellName) (raw : Bool) (most count : ℕ) (old new : List ℕ) : Type 0 where
  pub rest : Trees
  pub holds : Holds H (drop count nodes) rest
  pub grown : length old ≤ length new
  pub fits : length new ≤ most
  pub text : (trees : Trees) → Holds H nodes trees → new ++ trees_text raw rest ≡ old ++ trees_text raw trees

-- at first nothing was appended
pub start : (H : Heap) (nodes : List CellName) (raw : Bool) (most : ℕ) (old : List ℕ) → Form H nodes → length old ≤ most → Progress H nodes raw most 0 old old
start H nodes raw most old form fits = record {
  rest = form.0;
  holds = form.1;
  grown = omega arith;
  fits = fits;
  text = λ trees h. ap (λ z. old ++ trees_text raw z) (trees_alike H nodes form.0 trees form.1 h);
}

-- the next node and the others
pub next_parts : (H : Heap) (nodes : List CellName) (raw : Bool) (most count : ℕ) (old new : List ℕ) (d : CellName) → count < length nodes → (p : Progress H nodes raw most count old new)
    → Parts H raw (get_or nodes count d) (drop (count + 1) nodes) p.rest
next_parts H nodes raw most count old new d below p =
    parts H raw (get_or nodes count d) (drop (count + 1) nodes) p.rest (subst (λ cells. Holds H cells p.rest) (drop_more nodes count d below) p.holds)

-- the next node is held as well
pub next_form : (H : Heap) (nodes : List CellName) (raw : Bool) (most count : ℕ) (old new : List ℕ) (d : CellName) → count < length nodes → Progress H nodes raw most count old new
    → Form H (get_or nodes count d ∷ [])
next_form H nodes raw most count old new d below p =
    let q = next_parts H nodes raw most count old new d below p in (q.one, q.first)

-- what was appended to is no longer than what it became
longer : (a b c : List ℕ) → c ≡ a ++ b → length a ≤ length c
longer a b c e = omega (arith, length-append a b, ap length e)

-- the next node's text was appended too
pub next_whole : (H : Heap) (nodes : List CellName) (raw : Bool) (most count : ℕ) (old new newer : List ℕ) (d : CellName) → count < length nodes → Progress H nodes raw most count old new
    → Says H (get_or nodes count d ∷ []) raw true most new newer → Progress H nodes raw most (count + 1) old newer
next_whole H nodes raw most count old new newer d below p says =
    let q = next_parts H nodes raw most count old new d below p in
    let e = says q.one q.first in
    let g = longer new (trees_text raw q.one) newer e.0 in
    let g2 = p.grown in
    record {
      rest = q.more;
      holds = q.rest;
      grown = omega arith;
      fits = e.1;
      text = λ trees h.
          ap (λ (z : List ℕ). z ++ trees_text raw q.more) e.0
          ∙ append_assoc new (trees_text raw q.one) (trees_text raw q.more)
          ∙ ap (λ (z : List ℕ). new ++ z) (sym q.text)
          ∙ p.text trees h;
    }

-- more than `most` bytes already
pub next_long : (H : Heap) (nodes : List CellName) (raw : Bool) (most count : ℕ) (old new newer last : List ℕ) (d : CellName) → count < length nodes → Progress H nodes raw most count old new
    → Says H (get_or nodes count d ∷ []) raw false most new newer → Says H nodes raw false most old last
next_long H nodes raw most count old new newer last d below p says trees h =
    let q = next_parts H nodes raw most count old new d below p in
    let e = says q.one q.first in
    let whole : new ++ (trees_text raw q.one ++ trees_text raw q.more) ≡ old ++ trees_text raw trees = ap (λ (z : List ℕ). new ++ z) (sym q.text) ∙ p.text trees h in
    omega (arith, length-append new (trees_text raw q.one), length-append new (trees_text raw q.one ++ trees_text raw q.more), length-append (trees_text raw q.one) (trees_text raw q.more), ap length whole)

-- no cells hold no trees
no_more : (H : Heap) (cells : List CellName) (trees : Trees) → Holds H cells trees → cells ≡ [] → trees ≡ t.none
no_more H _ _ holds.none e = refl
no_more H _ _ (holds.text n cells more k rest) e = absurd (cc)
no_more H _ _ (holds.element n name cells children more k below rest) e = absurd (cc)

-- after the last node all was appended
pub all_whole : (H : Heap) (nodes : List CellName) (raw : Bool) (most count : ℕ) (old new : List ℕ) → length nodes ≤ count → Progress H nodes raw most count old new → Says H nodes raw true most old new
all_whole H nodes raw most count old new past p trees h =
    let none = no_more H (drop count nodes) p.rest p.holds (drop_of_length-le nodes past) in
    (sym (append-nil new) ∙ ap (λ z. new ++ trees_text raw z) (sym none) ∙ p.text trees h, p.fits)
