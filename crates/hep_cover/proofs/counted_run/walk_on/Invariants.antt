use Rattle.std.proofs.Common.{◌≡◌, ◌-◌, ◌≤◌, vec_capacity}
use Rattle.hep_step.specs.PerformedSteps.{snapshot}
use Rattle.hep_cover.specs.CountedRuns.{Tallies}
use Rattle.hep_cover.proofs.counted_run.walk_on.Given as goal

abbrev pub invariant-loop-done : goal.invariant-loop-done
invariant-loop-done l =
    record {
      tallied : Tallies l.walk.operations.now l.walk.fast.activation.code.now l.walk.fast.activation.arrays.now l.walk.fast.activation.frame.first (snapshot l.initial.arena.contents l.initial.operands.items l.initial.index) l.initial.counts.items l.done
          (snapshot l.arena.contents l.operands.items l.index) l.counts.items;
      few : l.done ≤ l.walk.most;
      holes : l.arena.holes ≡ l.initial.arena.holes;
      capacity : vec_capacity l.initial.operands ≤ vec_capacity l.operands;
    }

abbrev pub decreases-loop-done : goal.decreases-loop-done
decreases-loop-done l = l.walk.most - l.done
