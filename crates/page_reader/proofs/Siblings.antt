-- What a node puts before its later siblings: its acts, names and cells come before theirs.
use Rattle.std.proofs.Common.{◌≡◌, ℕ, ◌+◌, List, [], ◌∷◌, ◌++◌, refl, ap, sym, ◌∙◌, subst, arith}
use Rattle.std.proofs.lemmas.List.{append-nil}
use Rattle.page_units.specs.declared.value.CellName.{CellName}
use Rattle.cell_places.specs.declared.kind.CellKind.TheVariants.{Element}
use Rattle.cell_places.specs.Heap.{cell}
use Rattle.cell_places.specs.Acts.{Act}
use Rattle.tree_shape.specs.Trees.{Trees, HaveNamesOnce, none, text, element}
use Rattle.tree_shape.specs.Trees as dom
use Rattle.page_reader.specs.declared.node.Node.{Node}
use Rattle.page_reader.specs.declared.node.Node.TheFolds.{fold_out-Node}
use Rattle.page_reader.specs.declared.node.Node.TheOpen.{Node-F}
use Rattle.page_reader.specs.declared.node.Node.TheOpen as layer
use Rattle.page_reader.specs.NodeTrees.{row, node_step, node_tree}
use Rattle.page_reader.specs.Planting.{node_count, root_names, node_acts, attribute_acts, children_acts, trees_acts}

-- what is put before later siblings
pub record IsFront (front : Trees → Trees) : Type 0 where
  pub acts : (p : CellName) (n : ℕ) (more : Trees) → trees_acts p n (front more) ≡ trees_acts p n (front none) ++ trees_acts p (n + node_count (front none)) more
  pub names : (n : ℕ) (more : Trees) → root_names n (front more) ≡ root_names n (front none) ++ root_names (n + node_count (front none)) more
  pub one : (n : ℕ) → root_names n (front none) ≡ cell n ∷ []
  pub count : (more : Trees) → node_count (front more) ≡ node_count (front none) + node_count more
  pub once : (more : Trees) → HaveNamesOnce (front more) → HaveNamesOnce (front none) × HaveNamesOnce more

text_front : (units : List ℕ) → IsFront (λ more. text units more)
text_front units = record {
  acts = λ p n more. refl;
  names = λ n more. refl;
  one = λ n. refl;
  count = λ more. omega arith;
  once = λ more h. (tt, h);
}

element_front : (name : List ℕ) (attributes : List dom.Attribute) (children : Trees) → IsFront (λ more. element name attributes children more)
element_front name attributes children = record {
  acts = λ p n more.
      let own : List Act = node_acts n (Element name) p ++ (attribute_acts (cell n) attributes ++ (trees_acts (cell n) (n + 1) children ++ children_acts (cell n) (root_names (n + 1) children))) in
      let behind : n + 1 + node_count children ≡ n + (1 + (node_count children + 0)) = omega arith in
      ap (λ (m : ℕ). own ++ trees_acts p m more) behind ∙ ap (λ (acts : List Act). acts ++ trees_acts p (n + (1 + (node_count children + 0))) more) (sym (append-nil own));
  names = λ n more.
      let behind : n + 1 + node_count children ≡ n + (1 + (node_count children + 0)) = omega arith in
      ap (λ (m : ℕ). cell n ∷ root_names m more) behind;
  one = λ n. refl;
  count = λ more. omega arith;
  once = λ more h. ((h.0, h.1, tt), h.2);
}

step_front : (x : Node-F (Trees → Trees)) → IsFront (node_step x)
step_front (layer.Chars units) = text_front units
step_front (layer.Element name attributes children) = element_front name _ (row children none)

-- a node puts its tree before the later ones
pub node_front : (x : Node) → IsFront (node_tree x)
node_front x = subst IsFront (sym (fold_out-Node (Trees → Trees) node_step x)) (step_front _)
