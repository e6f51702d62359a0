use Rattle.std.proofs.Common.{◌≡◌, ◌+◌, ◌-◌, ◌≤◌, false}
use Rattle.hep_state.specs.Words.{HasLevels, LeavesOthers, snapshot_of}
use Rattle.hep_advance.specs.SilentRuns.{MakesMoves}
use Rattle.hep_advance.proofs.silent_run.go_along.Given as goal

abbrev pub invariant-loop-made : goal.invariant-loop-made
invariant-loop-made l =
    record {
      gone : MakesMoves l.tabled.image.now l.p l.fn.machine l.made l.machine;
      living : HasLevels (snapshot_of l.machine) l.p;
      running : l.machine.halted ≡ false;
      same : l.machine.made ≡ l.fn.machine.made;
      counted : l.machine.activations ≤ l.fn.machine.activations + l.made;
      few : l.made ≤ l.most;
      others : LeavesOthers l.p (snapshot_of l.fn.machine) (snapshot_of l.machine);
    }

abbrev pub decreases-loop-made : goal.decreases-loop-made
decreases-loop-made l = l.most - l.made
