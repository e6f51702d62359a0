use Rattle.std.proofs.Common.{◌≡◌, take}
use Rattle.hep_source.specs.Tree.{nodes, nodes_of_all, trees_of}
use Rattle.hep_image.proofs.expression.+copy.Given as goal

abbrev pub decreases-copy_expression : goal.decreases-copy_expression
decreases-copy_expression l = nodes l.expression.now

abbrev pub decreases-copy_arguments : goal.decreases-copy_arguments
decreases-copy_arguments l = nodes_of_all (trees_of l.arguments.now.items)

abbrev pub invariant-copy_arguments-loop-argument : goal.invariant-copy_arguments-loop-argument
invariant-copy_arguments-loop-argument l = l.copies.items ≡ take l.argument-index l.argument-items
