use Rattle.std.proofs.Common.{◌≡◌, length}
use Rattle.hep_machine.specs.Words.{dummies_of, unit_at}
use Rattle.hep_step.specs.TargetCount.{most_of}
use Rattle.hep_state.proofs.opening.most_dummies.Given as goal

abbrev pub invariant-loop-unit : goal.invariant-loop-unit
invariant-loop-unit l = l.most ≡ most_of (λ u. length (dummies_of (unit_at l.program u))) l.unit-index
