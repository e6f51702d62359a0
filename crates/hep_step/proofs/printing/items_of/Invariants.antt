use Rattle.std.proofs.Common.{◌≡◌, ◌++◌, drop}
use Rattle.hep_step.specs.Items.{items_in}
use Rattle.hep_step.proofs.printing.items_of.Given as goal

abbrev pub invariant-loop-entry : goal.invariant-loop-entry
invariant-loop-entry l = l.items.items ++ items_in (drop l.entry-index l.entries) l.rest ≡ items_in l.fn.entries l.fn.operands
