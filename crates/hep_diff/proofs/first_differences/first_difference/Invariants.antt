use Rattle.std.proofs.Common.{◌≡◌, ◌-◌, ◌≤◌, drop, length}
use Rattle.hep_diff.specs.FirstDifferences.{first_from}
use Rattle.hep_diff.proofs.first_differences.first_difference.Given as goal

abbrev pub invariant-loop-at : goal.invariant-loop-at
invariant-loop-at l =
    record {
      so_far : first_from 0 l.first l.second ≡ first_from l.at (drop l.at l.first) (drop l.at l.second);
      within : l.at ≤ length l.first;
      within_other : l.at ≤ length l.second;
    }

abbrev pub decreases-loop-at : goal.decreases-loop-at
decreases-loop-at l = length l.first - l.at
