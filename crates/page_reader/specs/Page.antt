-- Which bytes are a page, with which tree and scripts, what begins a page, and which fault others show (this project's own
-- page form).
use Rattle.std.specs.Prelude.{◌≡◌, ◌<◌, ◌≤◌, ◌⊎◌, ℕ, suc, List, [], ◌∷◌, length, Some, IsUtf8}
use Rattle.std.specs.Str.{chars}
use Rattle.std.specs.Str.Lossy.{utf8_valid_len}
use Rattle.tree_shape.specs.Trees.{Trees}
use Rattle.grammar.specs.Grammar.{Derives}
use Rattle.grammar.specs.Whole.{Hopeful, FaultAt}
use Rattle.placed_chars.specs.declared.chars.Char.{Char}
use Rattle.placed_chars.specs.Chars.{placed, stop}
use Rattle.page_reader.specs.declared.fault.Fault.{Fault}
use Rattle.page_reader.specs.declared.fault.PageRule.{PageRule}
use Rattle.page_reader.specs.declared.fault.PageRule.TheVariants as r
use Rattle.page_reader.specs.declared.node.Node.{Node}
use Rattle.page_reader.specs.declared.node.Slice.{Slice}
use Rattle.page_reader.specs.declared.page.ScriptText.{ScriptText}
pub use Rattle.page_reader.specs.Bounds.{page_bytes, levels_below}
use Rattle.page_reader.specs.Faults.{rule_number}
use Rattle.page_reader.specs.NodeTrees.{trees_of}
use Rattle.page_reader.specs.Rules.{fault}
use Rattle.page_reader.specs.Content.{found}
use Rattle.page_reader.specs.PageForm.{page}

-- scripts numbered from `index` on
abbrev pub numbered : ℕ → List Slice → List ScriptText
numbered index [] = []
numbered index (slice ∷ more) = record { index = index; at = slice.start; end = slice.end } ∷ numbered (suc index) more

-- The bytes are a page, with this tree and these scripts.
pub record IsPage (bytes : List ℕ) (trees : Trees) (scripts : List ScriptText) : Type 0 where
  pub few : length bytes ≤ page_bytes
  pub utf8 : IsUtf8 bytes
  pub node : Node
  pub slices : List Slice
  pub form : Derives (page levels_below) (placed 0 (chars bytes)) (found node slices) stop
  pub tree : trees ≡ trees_of (node ∷ [])
  pub parts : scripts ≡ numbered 0 slices

-- These characters begin a page: each rule on the right edge may have stopped after any of its items.
abbrev pub BeginsPage : List Char → Type 0
BeginsPage front = Hopeful (page levels_below) front

-- The characters are no page, and this is their fault: that of the shortest front that begins no page, the end counted as a
-- last character.
abbrev pub HasFault : List ℕ → Fault → Type 0
HasFault codes f = (rest : List Char) × FaultAt stop (page levels_below) (placed 0 codes) (Some f) rest

-- The bytes are no page, and this is their fault: the length is tested first, then the text, then the form.
abbrev pub Breaks : List ℕ → Fault → Type 0
Breaks bytes f =
    ((page_bytes < length bytes) × (f ≡ fault r.TooLong page_bytes))
    ⊎ ((length bytes ≤ page_bytes) × (IsUtf8 bytes → ⊥) × (f ≡ fault r.NotUtf8 (utf8_valid_len bytes)))
    ⊎ ((length bytes ≤ page_bytes) × IsUtf8 bytes × HasFault (chars bytes) f)

-- The bytes are no page: they break the rule of this number at this byte.
pub record IsPageFault (bytes : List ℕ) (number at : ℕ) : Type 0 where
  pub rule : PageRule
  pub numbered : number ≡ rule_number rule
  pub breaks : Breaks bytes (fault rule at)
