use Rattle.std.proofs.Common.{◌≡◌, ◌+◌, ◌-◌, ◌++◌, drop, length, take}
use Rattle.hep_code.specs.Words.{values_ahead}
use Rattle.hep_private.specs.OwnState.{pushed_ahead}
use Rattle.hep_private.proofs.progress.settle.Given as goal

abbrev pub invariant-loop-value : goal.invariant-loop-value
invariant-loop-value l =
    record {
      ahead : l.operands ++ pushed_ahead (drop l.at l.code) ≡ l.initial.operands ++ pushed_ahead (drop l.index l.code);
      at : l.at + values_ahead (drop l.at l.code) ≡ l.index + values_ahead (drop l.index l.code);
      kept : take (length l.initial.operands) l.operands ≡ l.initial.operands;
    }

abbrev pub decreases-loop-value : goal.decreases-loop-value
decreases-loop-value l = length l.code - l.at
