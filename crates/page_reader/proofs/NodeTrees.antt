-- The trees of nodes, one constructor at a time.
use Rattle.std.proofs.Common.{◌≡◌, ℕ, List, [], ◌∷◌, ◌++◌, map, refl, sym, ap, ◌∙◌}
use Rattle.tree_shape.specs.Trees.{Trees, none, text, element}
use Rattle.page_reader.specs.declared.node.Attribute.{Attribute}
use Rattle.page_reader.specs.declared.node.Node.{Node}
use Rattle.page_reader.specs.declared.node.Node.TheVariants as n
use Rattle.page_reader.specs.declared.node.Node.TheVariants.{rolls-Chars, rolls-Element}
use Rattle.page_reader.specs.declared.node.Node.TheOpen as layer
use Rattle.page_reader.specs.declared.node.Node.TheFolds.{fold-roll-Node}
use Rattle.page_reader.specs.NodeTrees.{pairs, row, node_step, node_tree}

-- a text
pub chars_tree : (units : List ℕ) → node_tree (n.Chars units) ≡ (λ more. text units more)
chars_tree units = ap node_tree (sym (rolls-Chars units)) ∙ fold-roll-Node (Trees → Trees) node_step (layer.Chars units)

-- an element
pub element_tree_of : (name : List ℕ) (attributes : List Attribute) (children : List Node)
    → node_tree (n.Element name attributes children) ≡ (λ more. element name (pairs attributes) (row (map node_tree children) none) more)
element_tree_of name attributes children = ap node_tree (sym (rolls-Element name attributes children)) ∙ fold-roll-Node (Trees → Trees) node_step (layer.Element name attributes children)

-- an element without attributes
pub element_tree : (name : List ℕ) (children : List Node) → node_tree (n.Element name [] children) ≡ (λ more. element name [] (row (map node_tree children) none) more)
element_tree name children = element_tree_of name [] children

-- One more sibling stands before the later ones.
pub row_push : (nodes : List Node) (node : Node) (more : Trees) → row (map node_tree (nodes ++ node ∷ [])) more ≡ row (map node_tree nodes) (node_tree node more)
row_push [] node more = refl
row_push (first ∷ others) node more = ap (node_tree first) (row_push others node more)
