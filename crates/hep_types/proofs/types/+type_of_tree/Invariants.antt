use Rattle.hep_machine.specs.Words.{nodes}
use Rattle.hep_types.proofs.types.+type_of_tree.Given as goal

abbrev pub decreases-type_of_tree : goal.decreases-type_of_tree
decreases-type_of_tree l = nodes l.expression.now
