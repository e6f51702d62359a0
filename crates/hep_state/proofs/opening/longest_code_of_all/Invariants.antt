use Rattle.std.proofs.Common.{◌≡◌}
use Rattle.hep_machine.specs.Words.{unit_at}
use Rattle.hep_image.specs.Dummies.{dummy_arguments}
use Rattle.hep_step.specs.TargetCount.{most_of}
use Rattle.hep_binding.specs.DummyShapes.{longest_code}
use Rattle.hep_state.proofs.opening.longest_code_of_all.Given as goal

abbrev pub invariant-loop-unit : goal.invariant-loop-unit
invariant-loop-unit l = l.longest ≡ most_of (λ u. longest_code (dummy_arguments l.image (unit_at l.image u))) l.unit
