use Rattle.std.proofs.Common.{◌∙◌}
use Rattle.hep_names.proofs.Statements.{declarator-by-statements}
use Rattle.hep_names.proofs.arrays.Arrays.new.Goals as goal

pub invariant_of-result : goal.invariant_of-result
invariant_of-result c = λ x. c.in_ok-declarators.ensures x ∙ declarator-by-statements x c.args.statements.now
