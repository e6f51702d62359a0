use Rattle.hep_machine.specs.Words.{nodes, nodes_of_all, trees_of}
use Rattle.hep_names.proofs.evaluation.+evaluate.Given as goal

abbrev pub decreases-evaluate : goal.decreases-evaluate
decreases-evaluate l = nodes l.expression.now

abbrev pub decreases-evaluate_list : goal.decreases-evaluate_list
decreases-evaluate_list l = nodes_of_all (trees_of l.list.now)
