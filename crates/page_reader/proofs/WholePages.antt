-- The whole page: what is read is the page, and where a rule is broken there is no page.
use Rattle.std.proofs.Common.{◌≡◌, ◌<◌, ◌≤◌, ℕ, ◌+◌, inl, inr, List, [], ◌∷◌, length, Some, refl, ap, arith}
use Rattle.std.specs.Prelude.{Err, IsUtf8}
use Rattle.std.specs.Char.{len_utf8}
use Rattle.std.specs.Str.{chars}
use Rattle.std.specs.Str.Lossy.{utf8_valid_len}
use Rattle.std.proofs.lemmas.Str.{encodes-chars, length-le-encodes}
use Rattle.tree_shape.specs.Trees.{Trees, HaveNamesOnce}
use Rattle.tree_shape.specs.Trees as t
use Rattle.grammar.specs.Grammar.{Derives}
use Rattle.grammar.specs.Reading.{Outcome, Got, Bad, read}
use Rattle.grammar.proofs.Reader.{all_read, at_fault, only_fault}
use Rattle.placed_chars.specs.declared.chars.Char.{Char}
use Rattle.placed_chars.specs.Chars.{placed, stop}
use Rattle.page_reader.specs.declared.fault.Fault.{Fault}
use Rattle.page_reader.specs.declared.fault.PageFault.{PageFault}
use Rattle.page_reader.specs.declared.fault.PageRule.TheVariants as r
use Rattle.page_reader.specs.declared.fault.ReadError.{ReadError}
use Rattle.page_reader.specs.declared.fault.ReadError.TheVariants as errors
use Rattle.page_reader.specs.declared.node.Node.{Node}
use Rattle.page_reader.specs.declared.node.Slice.{Slice}
use Rattle.page_reader.specs.declared.page.ScriptText.{ScriptText}
use Rattle.page_reader.specs.Faults.{rule_number, fault_of}
use Rattle.page_reader.specs.NodeTrees.{trees_of}
use Rattle.page_reader.specs.Planting.{node_count}
use Rattle.page_reader.specs.Content.{Found, found}
use Rattle.page_reader.specs.PageForm.{page}
use Rattle.page_reader.specs.Page.{IsPage, IsPageFault, Breaks, HasFault, page_bytes, levels_below, numbered}
use Rattle.page_reader.specs.Reading.{TreeRead}
use Rattle.page_reader.specs.Reads.{ReadsAs}
use Rattle.page_reader.proofs.Decided.{page_decided}
use Rattle.page_reader.proofs.Nodes.{page_sized}

abbrev pub reading : List ℕ → Outcome Char Fault Found
reading bytes = read stop (page levels_below) (placed 0 (chars bytes))

-- ---- what is read

-- What is read to the end is derived.
derived : (bytes : List ℕ) (v : Found) (rest : List Char) → reading bytes ≡ Got v rest → rest ≡ [] → Derives (page levels_below) (placed 0 (chars bytes)) v stop
derived bytes v rest h z = all_read Fault stop (page levels_below) (placed 0 (chars bytes)) v rest (page_decided levels_below) h z

pub page_of : (bytes : List ℕ) (root : Node) (slices : List Slice) (scripts : List ScriptText) (rest : List Char) → length bytes ≤ page_bytes → IsUtf8 bytes → reading bytes ≡ Got (found root slices) rest → rest ≡ [] → scripts ≡ numbered 0 slices → IsPage bytes (trees_of (root ∷ [])) scripts
page_of bytes root slices scripts rest few utf8 h z e = record {
  few = few;
  utf8 = utf8;
  node = root;
  slices = slices;
  form = derived bytes (found root slices) rest h z;
  tree = refl;
  parts = e;
}

-- ---- where a rule is broken

pub fault_found : (bytes : List ℕ) (e : ReadError) (f : PageFault) (rest : List Char) (A : Type 0) (value : A → Found) → length bytes ≤ page_bytes → IsUtf8 bytes → ReadsAs value (reading bytes) (Err e) rest → f ≡ fault_of e → TreeRead (Err f) bytes
fault_found bytes errors.Memory f rest A value few utf8 h e = rw e tt
fault_found bytes (errors.Page g) f rest A value few utf8 h e = rw e (record {
  rule = g.rule;
  numbered = refl;
  breaks = inr (inr (few, utf8, (rest, at_fault Fault stop (page levels_below) (placed 0 (chars bytes)) (Some g) rest (page_decided levels_below) h)));
})

-- of a text that isn't too long, only the form can be broken
form_broken : (bytes : List ℕ) (f : Fault) → length bytes ≤ page_bytes → IsUtf8 bytes → Breaks bytes f → HasFault (chars bytes) f
form_broken bytes f few utf8 (inl (long, e)) = absurd (omega arith)
form_broken bytes f few utf8 (inr (inl (few', not, e))) = absurd (not utf8)
form_broken bytes f few utf8 (inr (inr (few', utf8', h))) = h

-- reading ends with the fault that the characters have
pub refused : (bytes : List ℕ) (f : Fault) (h : HasFault (chars bytes) f) → reading bytes ≡ Bad (Some f) h.0
refused bytes f h = only_fault Fault stop (page levels_below) (placed 0 (chars bytes)) f h.0 (page_decided levels_below) h.1

-- ---- the tests before the form

pub long_found : (bytes : List ℕ) (number : ℕ) → page_bytes < length bytes → number ≡ rule_number r.TooLong → IsPageFault bytes number page_bytes
long_found bytes number long e = record { rule = r.TooLong; numbered = e; breaks = inl (long, refl) }

pub text_found : (bytes : List ℕ) (number at : ℕ) → length bytes ≤ page_bytes → (IsUtf8 bytes → ⊥) → at ≡ utf8_valid_len bytes → number ≡ rule_number r.NotUtf8 → IsPageFault bytes number at
text_found bytes number at few not e e' = record { rule = r.NotUtf8; numbered = e'; breaks = inr (inl (few, not, ap (λ (a : ℕ). record { rule = r.NotUtf8; at = a }) e)) }

-- ---- how much a page has

placed_length : (at : ℕ) (cs : List ℕ) → length (placed at cs) ≡ length cs + 1
placed_length at [] = refl
placed_length at (c ∷ cs) = let e = placed_length (at + len_utf8 c) cs in omega arith

-- a text has no more characters than bytes
chars_few : (bytes : List ℕ) → IsUtf8 bytes → length (chars bytes) ≤ length bytes
chars_few bytes utf8 = let e = ap (λ (xs : List ℕ). length xs) (encodes-chars bytes utf8) in let le = length-le-encodes (chars bytes) in omega arith

-- what the form derives, with no more nodes and scripts than bytes
pub record Few (bytes : List ℕ) (v : Found) : Type 0 where
  pub once : HaveNamesOnce (trees_of (v.node ∷ []))
  pub nodes : node_count (trees_of (v.node ∷ [])) ≤ length bytes
  pub scripts : length v.scripts ≤ length bytes

derived_few : (bytes : List ℕ) (v : Found) → IsUtf8 bytes → Derives (page levels_below) (placed 0 (chars bytes)) v stop → Few bytes v
derived_few bytes v utf8 d =
    let s = page_sized levels_below (placed 0 (chars bytes)) v stop d in
    let few = s.2.few in let n = s.2.placed.nodes t.none in let one = s.1 in let l = placed_length 0 (chars bytes) in let k = chars_few bytes utf8 in
    record { once = s.2.placed.once t.none tt; nodes = omega arith; scripts = omega arith }

pub read_few : (bytes : List ℕ) (v : Found) (rest : List Char) → IsUtf8 bytes → reading bytes ≡ Got v rest → rest ≡ [] → Few bytes v
read_few bytes v rest utf8 h z = derived_few bytes v utf8 (derived bytes v rest h z)

-- In a page no element has two attributes of one name.
pub page_once : (bytes : List ℕ) (trees : Trees) (scripts : List ScriptText) → IsPage bytes trees scripts → HaveNamesOnce trees
page_once bytes trees scripts p = rw p.tree ((derived_few bytes (found p.node p.slices) p.utf8 p.form).once)

-- A page has no more nodes than bytes.
pub page_nodes : (bytes : List ℕ) (trees : Trees) (scripts : List ScriptText) → IsPage bytes trees scripts → node_count trees ≤ length bytes
page_nodes bytes trees scripts p = rw p.tree ((derived_few bytes (found p.node p.slices) p.utf8 p.form).nodes)
