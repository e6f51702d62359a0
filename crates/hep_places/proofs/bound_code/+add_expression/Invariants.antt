use Rattle.std.proofs.Common.{◌*◌, ◌+◌}
use Rattle.hep_machine.specs.Words.{nodes, nodes_of_all, trees_of}
use Rattle.hep_places.proofs.bound_code.+add_expression.Given as goal

abbrev pub decreases-add_expression : goal.decreases-add_expression
decreases-add_expression l = 2 * nodes l.expression.now

abbrev pub decreases-add_listed : goal.decreases-add_listed
decreases-add_listed l = 2 * nodes_of_all (trees_of l.list.now) + 1

abbrev pub decreases-add_all : goal.decreases-add_all
decreases-add_all l = 2 * nodes_of_all (trees_of l.list.now)
