-- The tree as which contracts see a node (docs/ARCHITECTURE.md, "Forms").
use Rattle.hep_source.specs.Tree as tree
use Rattle.hep_source.specs.Tree.{Tree, trees_of}
use Rattle.hep_source.specs.declared.expression.Node.{Node}
use Rattle.hep_source.specs.declared.expression.Node.TheVariants.{Constant, Occurrence, WithList, Parenthesized, Signed, Negated, Binary}

abbrev pub node_tree : Node → Tree
node_tree (Constant v) = tree.constant v
node_tree (Occurrence p) = tree.occurrence p
node_tree (WithList p arguments) = tree.with_list p (trees_of arguments.items)
node_tree (Parenthesized t) = tree.parenthesized t.value
node_tree (Signed s t) = tree.signed s t.value
node_tree (Negated t) = tree.negated t.value
node_tree (Binary o a b) = tree.binary o a.value b.value
