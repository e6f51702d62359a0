use Rattle.std.proofs.Common.{◌+◌, ◌*◌}
use Rattle.hep_machine.specs.Words.{nodes, nodes_of_all, trees_of}
use Rattle.hep_check.proofs.expression_culprits.+wrong_in.Given as goal

abbrev pub decreases-wrong_in : goal.decreases-wrong_in
decreases-wrong_in l = 2 * nodes l.expression.now

abbrev pub decreases-wrong_in_actual : goal.decreases-wrong_in_actual
decreases-wrong_in_actual l = 2 * nodes l.actual.now + 1

abbrev pub decreases-wrong_among : goal.decreases-wrong_among
decreases-wrong_among l = 2 * nodes_of_all (trees_of l.list.now)

abbrev pub decreases-wrong_actual : goal.decreases-wrong_actual
decreases-wrong_actual l = 2 * nodes_of_all (trees_of l.list.now)

abbrev pub decreases-wrong_in_list : goal.decreases-wrong_in_list
decreases-wrong_in_list l = 2 * nodes_of_all (trees_of l.list.now) + 1
