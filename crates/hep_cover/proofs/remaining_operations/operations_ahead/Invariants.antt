use Rattle.std.proofs.Common.{◌≡◌, ◌+◌, ◌-◌, ◌≤◌, drop, length}
use Rattle.hep_cover.specs.RemainingOperations.{operations_ahead}
use Rattle.hep_cover.proofs.remaining_operations.operations_ahead.Given as goal

abbrev pub invariant-loop-instruction : goal.invariant-loop-instruction
invariant-loop-instruction l =
    record {
      so_far : l.made + operations_ahead (drop l.at l.code) ≡ operations_ahead (drop l.initial.at l.code);
      few : l.made + l.initial.at ≤ l.at;
    }

abbrev pub decreases-loop-instruction : goal.decreases-loop-instruction
decreases-loop-instruction l = length l.code - l.at
