use Rattle.std.proofs.Common.{length}
use Rattle.hep_expression.proofs.expression.+operator_at.Given as goal

abbrev pub decreases-operator_at : goal.decreases-operator_at
decreases-operator_at l = length l.among.now
