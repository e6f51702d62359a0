use Rattle.hep_machine.specs.Words.{nodes}
use Rattle.hep_check.proofs.expression_culprits.+first_name.Given as goal

abbrev pub decreases-first_name : goal.decreases-first_name
decreases-first_name l = nodes l.expression.now
