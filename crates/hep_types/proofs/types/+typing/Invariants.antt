use Rattle.std.proofs.Common.{◌+◌, ◌*◌}
use Rattle.hep_machine.specs.Words.{nodes, nodes_of_all, trees_of}
use Rattle.hep_types.proofs.types.+typing.Given as goal

abbrev pub decreases-typing : goal.decreases-typing
decreases-typing l = 2 * nodes l.expression.now

abbrev pub decreases-is_actual : goal.decreases-is_actual
decreases-is_actual l = 2 * nodes l.actual.now + 1

abbrev pub decreases-are_integers : goal.decreases-are_integers
decreases-are_integers l = 2 * nodes_of_all (trees_of l.list.now)

abbrev pub decreases-are_actuals : goal.decreases-are_actuals
decreases-are_actuals l = 2 * nodes_of_all (trees_of l.list.now)

abbrev pub decreases-is_list_typed : goal.decreases-is_list_typed
decreases-is_list_typed l = 2 * nodes_of_all (trees_of l.list.now) + 1
