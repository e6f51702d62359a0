use Rattle.std.proofs.Common.{◌≡◌, ◌-◌, ◌≤◌, vec_capacity}
use Rattle.hep_step.specs.PerformedSteps.{snapshot}
use Rattle.hep_advance.specs.RunsToBreakpoints.{Passes}
use Rattle.hep_advance.proofs.bounded_run.walk_on.Given as goal

abbrev pub invariant-loop-done : goal.invariant-loop-done
invariant-loop-done l =
    record {
      passed : Passes l.walk.watched.now l.walk.fast.activation.code.now l.walk.fast.activation.arrays.now l.walk.fast.activation.frame.first (snapshot l.initial.arena.contents l.initial.operands.items l.initial.index) l.done
          (snapshot l.arena.contents l.operands.items l.index);
      few : l.done ≤ l.walk.most;
      holes : l.arena.holes ≡ l.initial.arena.holes;
      capacity : vec_capacity l.initial.operands ≤ vec_capacity l.operands;
    }

abbrev pub decreases-loop-done : goal.decreases-loop-done
decreases-loop-done l = l.walk.most - l.done
