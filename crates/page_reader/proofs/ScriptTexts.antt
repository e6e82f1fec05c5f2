-- The scripts of a page begin and end where characters of the page do.
use Rattle.std.proofs.Common.{ℕ, suc, List, [], ◌∷◌, ◌++◌, inr, subst, sym}
use Rattle.std.specs.Prelude.{All}
use Rattle.std.specs.Str.{chars}
use Rattle.std.proofs.lemmas.List.{append-nil}
use Rattle.std.proofs.lemmas.List.Elements.{All-nil, All-cons, All-head, All-tail}
use Rattle.grammar.specs.Grammar.{done, again}
use Rattle.grammar.specs.Words.{◌>>=◌, ◌>>◌}
use Rattle.tree_shape.specs.Trees.{Trees}
use Rattle.placed_chars.specs.declared.chars.Char.{Char}
use Rattle.placed_chars.specs.Chars.{placed, stop}
use Rattle.page_reader.specs.declared.node.Slice.{Slice}
use Rattle.page_reader.specs.declared.outside.Outside.{Outside}
use Rattle.page_reader.specs.declared.outside.Outside.TheVariants.{Seeking, Opening}
use Rattle.page_reader.specs.declared.page.ScriptText.{ScriptText}
use Rattle.page_reader.specs.Rules.{R}
use Rattle.page_reader.specs.Content.{Found, found, opened}
use Rattle.page_reader.specs.PageForm.{outside_goes, pad_before, front, root, pad_goes, pad_behind, last, page}
use Rattle.page_reader.specs.Page.{levels_below, numbered, IsPage}
use Rattle.page_reader.specs.Texts.{IsText}
use Rattle.page_reader.proofs.Leaves.{Leaves, leaves, leaves_more}
use Rattle.page_reader.proofs.Places.{at_start, IsRest}
use Rattle.page_reader.proofs.RawScripts.{IsSpan}
use Rattle.page_reader.proofs.Elements.{AreSpans, IsFine, each, element_leaves, opened_leaves}

module _ (bytes : List ℕ) where
  -- The root leaves fine scripts.
  root_leaves : (room : ℕ) (outside : Outside) (ts : List Char) → IsRest bytes ts → Leaves (root room outside) ts (IsFine bytes)
  root_leaves room Seeking ts i = tt
  root_leaves room (Opening at letter) ts i = element_leaves bytes (opened room) at [] letter ts (opened_leaves bytes room) i (All-nil (λ (s : Slice). IsSpan bytes s.start s.end))

  -- what stands after the root
  abbrev after_root : Found → R Found
  after_root found = do
    again pad_goes pad_behind tt
    last
    done found

  -- the root and what stands after it
  abbrev rooted : ℕ → Outside → R Found
  rooted room outside = root room outside >>= after_root

  -- what stands after the doctype, or after what else the page begins with
  abbrev padded : ℕ → Outside → R Found
  padded room start = again outside_goes pad_before start >>= rooted room

  -- What stands after the root leaves its scripts as they are.
  after_root_leaves : (found : Found) (ts : List Char) → IsFine bytes found ts → Leaves (after_root found) ts (IsFine bytes)
  after_root_leaves found ts h = each bytes (again pad_goes pad_behind tt >> last) ts (λ _ s. IsFine bytes found s) h.0 (λ _ s j. (j, h.1))

  -- A page leaves fine scripts.
  page_leaves : (room : ℕ) (ts : List Char) → IsRest bytes ts → Leaves (page room) ts (IsFine bytes)
  page_leaves room ts i =
      each bytes front ts (λ start s. Leaves (padded room start) s (IsFine bytes)) i
      (λ start s j. each bytes (again outside_goes pad_before start) s (λ outside r. Leaves (rooted room outside) r (IsFine bytes)) j
      (λ outside r k. leaves_more (root room outside) r (IsFine bytes) (λ found l. Leaves (after_root found) l (IsFine bytes)) (λ found l h. after_root_leaves found l h) (root_leaves room outside r k)))

  -- Numbered scripts are texts, where their slices are spans.
  numbered_texts : (index : ℕ) (slices : List Slice) → AreSpans bytes slices → All (IsText bytes) (numbered index slices)
  numbered_texts index [] h = All-nil (IsText bytes)
  numbered_texts index (slice ∷ more) h =
      let here : IsSpan bytes slice.start slice.end = All-head (λ (s : Slice). IsSpan bytes s.start s.end) slice more h in
      All-cons (IsText bytes) (record { index = index; at = slice.start; end = slice.end }) (numbered (suc index) more) (record { ordered = here.ordered; begins = here.begins; ends = here.ends })
      (numbered_texts (suc index) more (All-tail (λ (s : Slice). IsSpan bytes s.start s.end) slice more h))

-- The content of each script of a page begins and ends where a character of the page does.
pub scripts_are_texts : (bytes : List ℕ) (trees : Trees) (scripts : List ScriptText) → IsPage bytes trees scripts → All (IsText bytes) scripts
scripts_are_texts bytes trees scripts p =
    let ts : List Char = placed 0 (chars bytes) in
    let at : IsRest bytes (ts ++ []) = inr (0, record { codes = chars bytes; stands = at_start bytes p.utf8; tokens = append-nil ts }) in
    let fine : IsFine bytes (found p.node p.slices) [] = leaves (page levels_below) ts (found p.node p.slices) [] stop (IsFine bytes) p.form (page_leaves bytes levels_below (ts ++ []) at) in
    subst (λ (l : List ScriptText). All (IsText bytes) l) (sym p.parts) (numbered_texts bytes 0 p.slices fine.1)
