use Rattle.std.proofs.Common.{◌-◌, ◌≤◌}
use Rattle.hep_state.specs.Words.{LivesOn}
use Rattle.hep_advance.specs.SilentRuns.{MakesMoves}
use Rattle.hep_cover.specs.CountedRuns.{CountsTurns}
use Rattle.hep_cover.proofs.counted_turns.count_on.Given as goal

abbrev pub invariant-loop-made : goal.invariant-loop-made
invariant-loop-made l =
    record {
      gone : MakesMoves l.marked.tabled.image.now l.p l.fn.machine l.made l.machine;
      counted : CountsTurns l.marked.tabled.image.now l.marked.operations.now l.p l.fn.machine l.fn.counts.items l.made l.counts.items;
      lives : LivesOn l.p l.made l.fn.machine l.machine;
      few : l.made ≤ l.most;
    }

abbrev pub decreases-loop-made : goal.decreases-loop-made
decreases-loop-made l = l.most - l.made
