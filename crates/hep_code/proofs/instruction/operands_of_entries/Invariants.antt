use Rattle.std.proofs.Common.{◌≡◌, ◌+◌, ◌*◌, ◌≤◌, drop}
use Rattle.hep_code.specs.Words.{operands_of_entries}
use Rattle.hep_code.proofs.instruction.operands_of_entries.Given as goal

abbrev pub invariant-loop-entry : goal.invariant-loop-entry
invariant-loop-entry l =
    record {
      number : l.operands + operands_of_entries (drop l.entry-index l.entries) ≡ operands_of_entries l.entries;
      bound : l.operands ≤ 4294967295 * l.entry-index;
    }
