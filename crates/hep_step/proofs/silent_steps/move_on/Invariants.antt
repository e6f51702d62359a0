use Rattle.std.proofs.Common.{◌≡◌, ◌≤◌, vec_capacity}
use Rattle.hep_step.specs.PerformedSteps.{snapshot}
use Rattle.hep_step.specs.SilentSteps.{Goes}
use Rattle.hep_step.proofs.silent_steps.move_on.Given as goal

abbrev pub invariant-loop-done : goal.invariant-loop-done
invariant-loop-done l =
    record {
      gone : Goes l.activation.code.now l.activation.arrays.now l.activation.frame.first (snapshot l.initial.arena.contents l.initial.standing.operands.items l.initial.standing.index) l.done (snapshot l.arena.contents l.standing.operands.items l.standing.index);
      holes : l.arena.holes ≡ l.initial.arena.holes;
      capacity : vec_capacity l.initial.standing.operands ≤ vec_capacity l.standing.operands;
    }
