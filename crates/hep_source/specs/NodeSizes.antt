-- Each part of a node has fewer nodes than the whole (docs/ARCHITECTURE.md, "Forms").
use Rattle.std.specs.Prelude.{◌+◌, ◌≤◌, max, List, [], ◌∷◌}
use Rattle.std.proofs.Common.{arith}
use denote.Param.Weighed.{most}
use Rattle.hep_source.specs.Tree.{Tree, nodes, nodes_of_all, trees_of}
use Rattle.hep_source.specs.NodeTree.{node_tree}
use Rattle.hep_source.specs.declared.expression.Node.{Node}
use Rattle.hep_source.specs.declared.expression.Node.TheVariants.{Constant, Occurrence, WithList, Parenthesized, Signed, Negated, Binary}
use Rattle.hep_source.specs.declared.expression.Expr.TheDeep.{deep-Node}

most_le : (ts : List Tree) → most (λ t. nodes t + 1) ts ≤ nodes_of_all (trees_of ts) + 1
most_le [] = omega arith
most_le (t ∷ ts) = omega (arith, most_le ts)

pub deep_le : (n : Node) → max (deep-Node n) 0 ≤ nodes (node_tree n)
deep_le (Constant v) = omega arith
deep_le (Occurrence p) = omega arith
deep_le (WithList p arguments) = omega (arith, most_le arguments.items)
deep_le (Parenthesized t) = omega arith
deep_le (Signed s t) = omega arith
deep_le (Negated t) = omega arith
deep_le (Binary o a b) = omega arith
