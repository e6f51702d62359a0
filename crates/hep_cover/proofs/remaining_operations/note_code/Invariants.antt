use Rattle.std.proofs.Common.{◌≡◌, ◌-◌, ◌≤◌, drop, length}
use Rattle.hep_cover.specs.RemainingOperations.{noted_from, operations_ahead}
use Rattle.hep_cover.proofs.remaining_operations.note_code.Given as goal

abbrev pub invariant-loop-passed : goal.invariant-loop-passed
invariant-loop-passed l =
    record {
      ahead : l.ahead ≡ operations_ahead (drop (length l.code - l.passed) l.code);
      notes : l.found.items ≡ noted_from (drop (length l.code - l.passed) l.code) l.initial.found.items;
      few : l.ahead ≤ l.passed;
    }
