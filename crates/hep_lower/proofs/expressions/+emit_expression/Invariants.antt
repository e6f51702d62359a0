use Rattle.std.proofs.Common.{◌*◌, ◌+◌}
use Rattle.hep_machine.specs.Words.{nodes, nodes_of_all, trees_of}
use Rattle.hep_lower.proofs.expressions.+emit_expression.Given as goal

abbrev pub decreases-emit_expression : goal.decreases-emit_expression
decreases-emit_expression l = 2 * nodes l.expression.now

abbrev pub decreases-emit_listed : goal.decreases-emit_listed
decreases-emit_listed l = 2 * nodes_of_all (trees_of l.list.now) + 1

abbrev pub decreases-emit_all : goal.decreases-emit_all
decreases-emit_all l = 2 * nodes_of_all (trees_of l.list.now)

abbrev pub decreases-emit_actual : goal.decreases-emit_actual
decreases-emit_actual l = 2 * nodes l.actual.now + 1

abbrev pub decreases-emit_actuals : goal.decreases-emit_actuals
decreases-emit_actuals l = 2 * nodes_of_all (trees_of l.list.now)
