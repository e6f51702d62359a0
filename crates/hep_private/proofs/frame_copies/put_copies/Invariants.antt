use Rattle.std.proofs.Common.{◌≡◌, ◌≤◌, ℕ, drop, length}
use Rattle.hep_private.specs.BaseValues.{value_copied}
use Rattle.hep_private.specs.OwnState.{values_at}
use Rattle.hep_private.proofs.frame_copies.put_copies.Given as goal

abbrev pub invariant-loop-left : goal.invariant-loop-left
invariant-loop-left l =
    record {
      few : l.left ≤ length l.copies;
      values : (c : ℕ) → values_at l.cells 0 c ≡ value_copied (drop l.left l.copies) c;
      count : length l.cells ≡ length l.initial.cells;
    }

abbrev pub decreases-loop-left : goal.decreases-loop-left
decreases-loop-left l = l.left
