-- A page that was read, planted under the empty document of a sound heap.
use Rattle.std.proofs.Common.{◌≡◌, ◌<◌, ◌≤◌, ◌+◌, ℕ, length, arith, List, [], ◌∷◌, ap, sym, ◌∙◌, subst}
use Rattle.cell_places.specs.declared.place.Slot.TheVariants as s
use Rattle.cell_places.specs.Heap.{Heap, place, weight_left, children_at}
use Rattle.cell_places.specs.View.{View, heap, run}
use Rattle.cell_places.specs.Valid.{CanAsk}
use Rattle.cell_places.specs.Start.{document_cell, node_prototype}
use Rattle.cell_places.specs.Sound.{IsSound, SumsWithin}
use Rattle.cell_places.proofs.Grown.{count-start}
use Rattle.cell_places.proofs.Runs.{heap-run}
use Rattle.tree_shape.specs.Trees.{Trees, HaveNamesOnce}
use Rattle.tree_shape.specs.Holds.{Holds, served}
use Rattle.page_reader.specs.declared.node.Node.{Node}
use Rattle.page_reader.specs.declared.page.ScriptText.{ScriptText}
use Rattle.page_reader.specs.NodeTrees.{trees_of}
use Rattle.page_reader.specs.Page.{IsPage}
use Rattle.page_reader.specs.Planting.{node_count, planting, planted}
use Rattle.page_reader.specs.Reading.{ReadsPage}
use Rattle.page_reader.proofs.WholePages.{page_once, page_nodes}
use Rattle.page_reader.proofs.PlantingIsSound.{document_parent, planted_sound}
use Rattle.page_reader.proofs.PlantedTrees.{planted_holds, planted_sums}

-- the root can be planted
pub record CanRoot (v : View) (root : Node) : Type 0 where
  pub document : CanAsk (heap v) (place document_cell s.Children)
  pub prototype : node_prototype.0 < length (heap v).kinds
  pub room : length (heap v).kinds + node_count (trees_of (root ∷ [])) ≤ 4000000000
  pub once : HaveNamesOnce (trees_of (root ∷ []))

-- which is so in a sound heap with room for a page
pub can_root : (codes : ℕ) (v : View) (bytes : List ℕ) (root : Node) (scripts : List ScriptText) → IsSound codes (heap v) → length (heap v).kinds + weight_left (heap v) < 3998000000 → IsPage bytes (trees_of (root ∷ [])) scripts → CanRoot v root
can_root codes v bytes root scripts sound room p =
    let many = count-start (heap v).kinds sound.start in
    let nodes = page_nodes bytes (trees_of (root ∷ [])) scripts p in
    let few = p.few in
    record {
      document = document_parent codes (heap v) sound;
      prototype = omega arith;
      room = omega arith;
      once = page_once bytes (trees_of (root ∷ [])) scripts p;
    }

heap_planted : (v w : View) (trees : Trees) → w ≡ run v (planting (heap v) trees) → heap w ≡ planted (heap v) trees
heap_planted v w trees e = ap heap e ∙ heap-run v (planting (heap v) trees)

-- the page is read
pub read_is : (codes : ℕ) (v w : View) (bytes : List ℕ) (trees : Trees) (scripts : List ScriptText) → IsSound codes (heap v) → children_at (heap v) document_cell ≡ [] → IsPage bytes trees scripts → w ≡ run v (planting (heap v) trees) → ReadsPage v w bytes scripts
read_is codes v w bytes trees scripts sound empty p e = record {
  trees = trees;
  page = p;
  acts = e;
  holds = subst (λ (K : Heap). Holds K (served K document_cell) trees) (sym (heap_planted v w trees e)) (planted_holds codes (heap v) trees sound empty (page_once bytes trees scripts p));
}

-- the heap stays sound
pub read_sound : (codes : ℕ) (v w : View) (bytes : List ℕ) (trees : Trees) (scripts : List ScriptText) → IsSound codes (heap v) → children_at (heap v) document_cell ≡ [] → length (heap v).kinds + weight_left (heap v) < 3998000000 → IsPage bytes trees scripts
    → w ≡ run v (planting (heap v) trees) → IsSound codes (heap w)
read_sound codes v w bytes trees scripts sound empty room p e =
    let nodes = page_nodes bytes trees scripts p in
    let few = p.few in
    subst (IsSound codes) (sym (heap_planted v w trees e)) (planted_sound codes (heap v) trees sound empty (page_once bytes trees scripts p) (omega arith))

-- the sums grow by no more than the length of the page
pub read_sums : (bound : ℕ) (v w : View) (bytes : List ℕ) (trees : Trees) (scripts : List ScriptText) → SumsWithin bound (heap v) → IsPage bytes trees scripts → w ≡ run v (planting (heap v) trees) → SumsWithin (bound + length bytes) (heap w)
read_sums bound v w bytes trees scripts sums p e =
    subst (SumsWithin (bound + length bytes)) (sym (heap_planted v w trees e)) (planted_sums bound (length bytes) (heap v) trees (page_once bytes trees scripts p) (page_nodes bytes trees scripts p) sums)
