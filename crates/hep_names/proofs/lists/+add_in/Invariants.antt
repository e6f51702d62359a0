use Rattle.hep_machine.specs.Words.{nodes, nodes_of_all, trees_of}
use Rattle.hep_names.proofs.lists.+add_in.Given as goal

abbrev pub decreases-add_in : goal.decreases-add_in
decreases-add_in l = nodes l.expression.now

abbrev pub decreases-add_in_list : goal.decreases-add_in_list
decreases-add_in_list l = nodes_of_all (trees_of l.list.now)
