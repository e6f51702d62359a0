use Rattle.std.proofs.Common.{◌≡◌, ◌+◌, length}
use Rattle.hep_diff.specs.FirstDifferences.{same_front}
use Rattle.hep_diff.proofs.first_differences.same_front.Given as goal

abbrev pub invariant-loop-count : goal.invariant-loop-count
invariant-loop-count l =
    record {
      so_far : same_front l.first.items l.second.items ≡ l.count + same_front l.entries l.others;
      left : l.count + length l.entries ≡ length l.first.items;
    }
