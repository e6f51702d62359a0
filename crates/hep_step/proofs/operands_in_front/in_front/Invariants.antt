use Rattle.std.proofs.Common.{◌≡◌, ◌-◌, drop}
use Rattle.hep_code.specs.Words.{operands_of_entries}
use Rattle.hep_step.proofs.operands_in_front.in_front.Given as goal

abbrev pub invariant-loop-entry : goal.invariant-loop-entry
invariant-loop-entry l = l.left - operands_of_entries (drop l.entry-index l.entry-items) ≡ l.fn.operands - operands_of_entries l.entry-items
