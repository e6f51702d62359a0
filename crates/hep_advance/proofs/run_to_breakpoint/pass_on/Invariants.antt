use Rattle.std.proofs.Common.{◌-◌, ◌≤◌}
use Rattle.hep_state.specs.Words.{LivesOn}
use Rattle.hep_advance.specs.SilentRuns.{MakesMoves}
use Rattle.hep_advance.specs.RunsToBreakpoints.{PassesTurns}
use Rattle.hep_advance.proofs.run_to_breakpoint.pass_on.Given as goal

abbrev pub invariant-loop-made : goal.invariant-loop-made
invariant-loop-made l =
    record {
      gone : MakesMoves l.tabled.image.now l.p l.fn.machine l.made l.machine;
      unwatched : PassesTurns l.tabled.image.now l.watches l.p l.fn.machine l.made;
      lives : LivesOn l.p l.made l.fn.machine l.machine;
      few : l.made ≤ l.most;
    }

abbrev pub decreases-loop-made : goal.decreases-loop-made
decreases-loop-made l = l.most - l.made
