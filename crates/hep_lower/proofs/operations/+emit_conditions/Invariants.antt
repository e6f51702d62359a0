use Rattle.std.proofs.Common.{length}
use Rattle.hep_lower.proofs.operations.+emit_conditions.Given as goal

abbrev pub decreases-emit_conditions : goal.decreases-emit_conditions
decreases-emit_conditions l = length l.conditions.now
