-- The text of one node.
use Rattle.std.proofs.Common.{◌+◌, ◌≡◌, ℕ, ◌<◌, length, List, [], ◌∷◌, ◌++◌, Bool, true, false, cond, ◌&&◌, refl, ap, sym, ◌∙◌, subst, arith, length-append, codes, ◌==◌, Result, Ok, Err, IfOk}
use Rattle.std.specs.List.{flat_map}
use Rattle.std.proofs.lemmas.List.{append-nil}
use Rattle.std.proofs.Math.Dec.{eqb-suc-zero}
use Rattle.page_units.specs.declared.value.CellName.{CellName}
use Rattle.page_units.specs.Coding.{utf8_of_units}
use Rattle.cell_places.specs.declared.place.Slot.TheVariants as s
use Rattle.cell_places.specs.declared.kind.CellKind.TheVariants as kind
use Rattle.cell_places.specs.Heap.{Heap, place, kind_at, text_in, children_at}
use Rattle.cell_places.specs.View.{View, heap}
use Rattle.cell_places.specs.Rooted.{Still}
use Rattle.tree_shape.specs.Names.{is_void, is_raw}
use Rattle.tree_shape.specs.Trees.{Trees}
use Rattle.tree_shape.specs.Trees as t
use Rattle.tree_writer.specs.TreeText.{trees_text, start_tag, end_tag, escape_text, attribute_text, is_none}
use Rattle.tree_writer.specs.Appends.{Appended}
use Rattle.tree_shape.specs.Holds as holds
use Rattle.tree_shape.specs.Holds.{Holds, attributes_at}
use Rattle.tree_writer.proofs.Appending.{appended_then, appended_cut, appended_long}
use Rattle.tree_shape.proofs.Asking.{still_back}
use Rattle.tree_writer.proofs.Long.{text_long}
use Rattle.tree_shape.proofs.SoundTrees.{Form}
use Rattle.tree_writer.proofs.Steps.{Says}

-- ---- a text node

-- no cells hold no trees
nothing : (H : Heap) (trees : Trees) → Holds H [] trees → trees ≡ t.none
nothing H _ holds.none = refl

-- a text node's text is what stands there, escaped unless it is raw
text_written : (H : Heap) (raw : Bool) (n : CellName) (trees : Trees) → Holds H (n ∷ []) trees → kind_at H n ≡ kind.Chars
    → trees_text raw trees ≡ utf8_of_units (cond raw (text_in (H.at (place n s.Chars))) (flat_map escape_text (text_in (H.at (place n s.Chars)))))
text_written H raw _ _ (holds.text n cells more k rest) e =
    let units = text_in (H.at (place n s.Chars)) in
    ap (λ z. cond raw (utf8_of_units units) (utf8_of_units (flat_map escape_text units)) ++ trees_text raw z) (nothing H more rest)
    ∙ append-nil _
    ∙ either raw units (flat_map escape_text units)
  where
    either : (raw : Bool) (x y : List ℕ) → cond raw (utf8_of_units x) (utf8_of_units y) ≡ utf8_of_units (cond raw x y)
    either true x y = refl
    either false x y = refl
text_written H raw _ _ (holds.element n name cells children more k below rest) e = absurd (cc)

-- what a text node's text is, and whether it fits
pub chars_say : (H : Heap) (raw whole : Bool) (n : CellName) (most : ℕ) (old new units bytes : List ℕ) → kind_at H n ≡ kind.Chars → units ≡ text_in (H.at (place n s.Chars))
    → bytes ≡ utf8_of_units (cond raw units (flat_map escape_text units)) → Appended whole most old new bytes → Says H (n ∷ []) raw whole most old new
chars_say H raw whole n most old new units bytes k e f a trees h =
    subst (Appended whole most old new) (f ∙ (ap (λ (z : List ℕ). utf8_of_units (cond raw z (flat_map escape_text z))) e ∙ sym (text_written H raw n trees h k))) a

-- the text alone has too many units
pub chars_long : (H : Heap) (raw : Bool) (n : CellName) (most : ℕ) (old last units : List ℕ) → kind_at H n ≡ kind.Chars → units ≡ text_in (H.at (place n s.Chars)) → most < length old + length units → Says H (n ∷ []) raw false most old last
chars_long H raw n most old last units k e long trees h =
    let written = text_written H raw n trees h k in
    appended_long most old last (trees_text raw trees) (omega (arith, long, text_long raw (text_in (H.at (place n s.Chars))), ap length written, ap length e))

-- ---- an element

abbrev inner_text : List ℕ → Trees → List ℕ
inner_text name children = cond (is_void name && is_none children) [] (trees_text (is_raw name) children ++ end_tag name)

-- its children, and its text by theirs
record Within (H : Heap) (raw : Bool) (n : CellName) (name : List ℕ) (trees : Trees) : Type 0 where
  children : Trees
  below : Holds H (children_at H n) children
  text : trees_text raw trees ≡ start_tag name (attributes_at H n) ++ inner_text name children

-- an element is so held
within : (H : Heap) (raw : Bool) (n : CellName) (name : List ℕ) (trees : Trees) → Holds H (n ∷ []) trees → kind_at H n ≡ kind.Element name → Within H raw n name trees
within H raw _ name _ (holds.text n cells more k rest) e = absurd (cc)
within H raw _ name _ (holds.element n other cells children more k below rest) e =
    let same : other ≡ name = cc in
    record {
      children = children;
      below = below;
      text =
          ap (λ z. start_tag other (attributes_at H n) ++ (inner_text other children ++ trees_text raw z)) (nothing H more rest)
          ∙ ap (λ (z : List ℕ). start_tag other (attributes_at H n) ++ z) (append-nil (inner_text other children))
          ∙ ap (λ z. start_tag z (attributes_at H n) ++ inner_text z children) same;
    }

-- the children in their turn
pub children_form : (H : Heap) (n : CellName) (name : List ℕ) → Form H (n ∷ []) → kind_at H n ≡ kind.Element name → Form H (children_at H n)
children_form H n name form k = let w = within H true n name form.0 form.1 k in (w.children, w.below)

-- no trees are no cells
none_is : (H : Heap) (cells : List CellName) (trees : Trees) → Holds H cells trees → is_none trees ≡ (length cells == 0)
none_is H _ _ holds.none = refl
none_is H _ _ (holds.text n cells more k rest) = sym (eqb-suc-zero (length cells))
none_is H _ _ (holds.element n name cells children more k below rest) = sym (eqb-suc-zero (length cells))

-- whether the element ends after its start tag
only_start : (H : Heap) (name : List ℕ) (here cells : List CellName) (children : Trees) (is : Bool) → Holds H cells children → here ≡ cells → is ≡ (is_void name && (length here == 0)) → is_void name && is_none children ≡ is
only_start H name here cells children is held same e =
    ap (λ b. is_void name && b) (none_is H cells children held) ∙ (ap (λ (cs : List CellName). is_void name && (length cs == 0)) (sym same) ∙ sym e)

inner_cases : (name : List ℕ) (children : Trees) (is : Bool) → is_void name && is_none children ≡ is → inner_text name children ≡ cond is [] (trees_text (is_raw name) children ++ end_tag name)
inner_cases name children is e = ap (λ b. cond b [] (trees_text (is_raw name) children ++ end_tag name)) e

-- a void element without children: its start tag is all
pub void_says : (H : Heap) (raw : Bool) (n : CellName) (name : List ℕ) (most : ℕ) (old new : List ℕ) (here : List CellName) → kind_at H n ≡ kind.Element name → here ≡ children_at H n
    → (is : Bool) → is ≡ true → is ≡ (is_void name && (length here == 0)) → Appended true most old new (start_tag name (attributes_at H n)) → Says H (n ∷ []) raw true most old new
void_says H raw n name most old new here k same is e only a trees h =
    let w = within H raw n name trees h k in
    let inner = inner_cases name w.children true (only_start H name here (children_at H n) w.children true w.below same (sym e ∙ only)) in
    subst (Appended true most old new) (sym (w.text ∙ (ap (λ (z : List ℕ). start_tag name (attributes_at H n) ++ z) inner ∙ append-nil _))) a

-- the start tag is too long already
pub start_long : (H : Heap) (raw : Bool) (n : CellName) (name : List ℕ) (most : ℕ) (old new last : List ℕ) → kind_at H n ≡ kind.Element name
    → Appended false most old new (start_tag name (attributes_at H n)) → Says H (n ∷ []) raw false most old last
start_long H raw n name most old new last k a trees h =
    let w = within H raw n name trees h k in
    subst (Appended false most old last) (sym w.text) (appended_cut most old new last (start_tag name (attributes_at H n)) (inner_text name w.children) a)

-- the children's text is too long already
pub inner_long : (H : Heap) (raw : Bool) (n : CellName) (name : List ℕ) (most : ℕ) (old new newer last : List ℕ) (here : List CellName) → kind_at H n ≡ kind.Element name → here ≡ children_at H n
    → (is : Bool) → is ≡ false → is ≡ (is_void name && (length here == 0)) → Appended true most old new (start_tag name (attributes_at H n))
    → Says H (children_at H n) (is_raw name) false most new newer → Says H (n ∷ []) raw false most old last
inner_long H raw n name most old new newer last here k same is e ends a says trees h =
    let w = within H raw n name trees h k in
    let start = start_tag name (attributes_at H n) in
    let text = trees_text (is_raw name) w.children in
    let inner = inner_cases name w.children false (only_start H name here (children_at H n) w.children false w.below same (sym e ∙ ends)) in
    subst (Appended false most old last) (sym (w.text ∙ ap (λ (z : List ℕ). start ++ z) inner))
    (appended_then false most old new last start (text ++ end_tag name) a (appended_cut most new newer last text (end_tag name) (says w.children w.below)))

-- the start tag, the children's text and the end tag are all
pub element_says : (H : Heap) (raw whole : Bool) (n : CellName) (name : List ℕ) (most : ℕ) (old new newer last : List ℕ) (here : List CellName) → kind_at H n ≡ kind.Element name → here ≡ children_at H n
    → (is : Bool) → is ≡ false → is ≡ (is_void name && (length here == 0)) → Appended true most old new (start_tag name (attributes_at H n))
    → Says H (children_at H n) (is_raw name) true most new newer → Appended whole most newer last (end_tag name) → Says H (n ∷ []) raw whole most old last
element_says H raw whole n name most old new newer last here k same is e ends a says f trees h =
    let w = within H raw n name trees h k in
    let start = start_tag name (attributes_at H n) in
    let text = trees_text (is_raw name) w.children in
    let inner = inner_cases name w.children false (only_start H name here (children_at H n) w.children false w.below same (sym e ∙ ends)) in
    subst (Appended whole most old last) (sym (w.text ∙ ap (λ (z : List ℕ). start ++ z) inner))
    (appended_then whole most old new last start (text ++ end_tag name) a (appended_then whole most new newer last text (end_tag name) (says w.children w.below) f))

-- what reads of the children say, of the heap before them
pub inner_says : (v w : View) (n : CellName) (cells : List CellName) (raw : Bool) (name : List ℕ) (is whole : Bool) (most : ℕ) (old new : List ℕ) → Still v w → cells ≡ children_at (heap v) n → raw ≡ is_raw name → is ≡ whole
    → Says (heap w) cells raw is most old new → Says (heap v) (children_at (heap v) n) (is_raw name) whole most old new
inner_says v w n cells raw name is whole most old new still same also e says =
    subst (λ b. Says (heap v) (children_at (heap v) n) b whole most old new) also
    (subst (λ xs. Says (heap v) xs raw whole most old new) same (still_back (λ H. Says H cells raw whole most old new) v w still (subst (λ b. Says (heap w) cells raw b most old new) e says)))

-- an element's text is the same in a raw place
raw_alike : (H : Heap) (raw : Bool) (n : CellName) (name : List ℕ) (trees : Trees) → Holds H (n ∷ []) trees → kind_at H n ≡ kind.Element name → trees_text false trees ≡ trees_text raw trees
raw_alike H raw _ name _ (holds.text n cells more k rest) e = absurd (cc)
raw_alike H raw _ name _ (holds.element n other cells children more k below rest) e =
    ap (λ z. start_tag other (attributes_at H n) ++ (inner_text other children ++ trees_text false z)) (nothing H more rest)
    ∙ sym (ap (λ z. start_tag other (attributes_at H n) ++ (inner_text other children ++ trees_text raw z)) (nothing H more rest))

-- so what was appended of an element is its text in a raw place too
element_anywhere : (H : Heap) (raw whole : Bool) (n : CellName) (name : List ℕ) (most : ℕ) (old new : List ℕ) → kind_at H n ≡ kind.Element name → Says H (n ∷ []) false whole most old new → Says H (n ∷ []) raw whole most old new
element_anywhere H raw whole n name most old new k says trees h = subst (Appended whole most old new) (raw_alike H raw n name trees h k) (says trees h)

-- and so of a call that may find no memory
pub element_result : {E : Type 0} (H : Heap) (raw : Bool) (n : CellName) (name : List ℕ) (most : ℕ) (old new : List ℕ) (r : Result Bool E) → kind_at H n ≡ kind.Element name
    → IfOk r (λ whole. Says H (n ∷ []) false whole most old new) → IfOk r (λ whole. Says H (n ∷ []) raw whole most old new)
element_result H raw n name most old new (Ok whole) k says = element_anywhere H raw whole n name most old new k says
element_result H raw n name most old new (Err e) k says = tt

-- ---- tags as they are written

-- a start tag as it is written
pub start_written : (H : Heap) (n : CellName) (is whole : Bool) (most : ℕ) (old new written bytes name : List ℕ) → is ≡ whole → written ≡ bytes → bytes ≡ utf8_of_units name
    → Appended is most old new (codes "<" ++ (written ++ (flat_map attribute_text (attributes_at H n) ++ codes ">"))) → Appended whole most old new (start_tag name (attributes_at H n))
start_written H n is whole most old new written bytes name e f h a =
    subst (λ (z : List ℕ). Appended whole most old new (codes "<" ++ (z ++ (flat_map attribute_text (attributes_at H n) ++ codes ">")))) (f ∙ h)
    (subst (λ b. Appended b most old new (codes "<" ++ (written ++ (flat_map attribute_text (attributes_at H n) ++ codes ">")))) e a)

-- an end tag as it is written
pub end_written : (whole : Bool) (most : ℕ) (old new written bytes name : List ℕ) → written ≡ bytes → bytes ≡ utf8_of_units name
    → Appended whole most old new (codes "</" ++ (written ++ codes ">")) → Appended whole most old new (end_tag name)
end_written whole most old new written bytes name f h a = subst (λ (z : List ℕ). Appended whole most old new (codes "</" ++ (z ++ codes ">"))) (f ∙ h) a

-- a start tag has a byte at least
pub start_grows : (H : Heap) (n : CellName) (most : ℕ) (old new name : List ℕ) → Appended true most old new (start_tag name (attributes_at H n)) → length old < length new
start_grows H n most old new name a = omega (arith, ap length a.0, length-append old (start_tag name (attributes_at H n)))
