use Rattle.hep_source.specs.Tree.{nodes, nodes_of_all, trees_of}
use Rattle.hep_image.proofs.expression.+same.Given as goal

abbrev pub decreases-same_expressions : goal.decreases-same_expressions
decreases-same_expressions l = nodes l.a.now

abbrev pub decreases-same_arguments : goal.decreases-same_arguments
decreases-same_arguments l = nodes_of_all (trees_of l.a.now)
