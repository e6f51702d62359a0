use Rattle.std.proofs.Common.{◌≡◌, slice_get}
use Rattle.hep_step.specs.TargetCount.{most_of, targets_in}
use Rattle.hep_step.proofs.target_count.most_targets.Given as goal

abbrev pub invariant-loop-instruction : goal.invariant-loop-instruction
invariant-loop-instruction l = l.most ≡ most_of (λ i. targets_in (slice_get l.code i)) l.instruction-index
