use Rattle.std.proofs.Common.{◌≡◌, ◌+◌, ◌≤◌, length}
use Rattle.hep_diff.specs.DifferenceLines.{records_text}
use Rattle.hep_text.specs.Line.{lines}
use Rattle.hep_diff.proofs.difference_text.append_records.Given as goal

abbrev pub invariant-loop-left : goal.invariant-loop-left
invariant-loop-left l =
    record {
      so_far : records_text l.number (lines l.left) (lines l.right) ≡ records_text 1 (lines l.first) (lines l.second);
      few : l.number + length l.left ≤ 1 + length l.first;
      same : l.text.items ≡ l.fn.text.items;
    }

abbrev pub decreases-loop-left : goal.decreases-loop-left
decreases-loop-left l = length l.left
