use Rattle.std.proofs.Common.{◌≡◌}
use Rattle.hep_step.specs.TargetCount.{most_of, most_targets}
use Rattle.hep_step.specs.Simulation.{unit_code}
use Rattle.hep_state.proofs.opening.most_targets_of_all.Given as goal

abbrev pub invariant-loop-unit : goal.invariant-loop-unit
invariant-loop-unit l = l.most ≡ most_of (λ u. most_targets (unit_code l.image u)) l.unit
