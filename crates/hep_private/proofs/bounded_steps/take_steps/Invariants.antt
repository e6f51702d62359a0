use Rattle.std.proofs.Common.{◌≤◌, ◌-◌, length}
use Rattle.hep_machine.specs.Words.{unit_at}
use Rattle.hep_image.specs.Private.{private_cells}
use Rattle.hep_private.specs.BaseValues.{values_of}
use Rattle.hep_private.specs.BoundedSteps.{IsAlong, start_of}
use Rattle.hep_private.proofs.bounded_steps.take_steps.Given as goal

abbrev pub invariant-loop-source : goal.invariant-loop-source
invariant-loop-source l =
    record {
      few : length l.progress.records ≤ l.most;
      along : IsAlong (private_cells (unit_at l.image l.fn.unit)) l.image (start_of l.fn.unit (values_of l.base) l.initial.progress) l.progress;
    }

abbrev pub decreases-loop-source : goal.decreases-loop-source
decreases-loop-source l = l.most - length l.progress.records
