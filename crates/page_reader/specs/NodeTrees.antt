-- The trees that nodes are.
use Rattle.std.specs.Prelude.{List, [], ◌∷◌, map}
use Rattle.tree_shape.specs.Trees.{Trees, none, text, element}
use Rattle.tree_shape.specs.Trees as dom
use Rattle.page_reader.specs.declared.node.Attribute.{Attribute}
use Rattle.page_reader.specs.declared.node.Node.{Node}
use Rattle.page_reader.specs.declared.node.Node.TheFolds.{fold-Node}
use Rattle.page_reader.specs.declared.node.Node.TheOpen.{Node-F}
use Rattle.page_reader.specs.declared.node.Node.TheOpen as layer

-- the attributes of a tree that those of a node are
abbrev pub pairs : List Attribute → List dom.Attribute
pairs attributes = map (λ (a : Attribute). (a.name, a.value)) attributes

-- siblings before their later siblings, where each is what puts it there
abbrev pub row : List (Trees → Trees) → Trees → Trees
row [] more = more
row (first ∷ others) more = first (row others more)

-- a node before its later siblings, with what puts each child before its own
abbrev pub node_step : Node-F (Trees → Trees) → Trees → Trees
node_step (layer.Chars units) more = text units more
node_step (layer.Element name attributes children) more = element name (pairs attributes) (row children none) more

-- a node before its later siblings
abbrev pub node_tree : Node → Trees → Trees
node_tree = fold-Node (Trees → Trees) node_step

-- the trees of siblings
abbrev pub trees_of : List Node → Trees
trees_of nodes = row (map node_tree nodes) none
