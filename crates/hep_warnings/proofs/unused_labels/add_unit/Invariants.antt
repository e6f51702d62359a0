use Rattle.std.proofs.Common.{◌≡◌, ◌++◌, drop}
use Rattle.std.specs.List.{flat_map}
use Rattle.hep_warnings.specs.UnusedLabels.{unused_at, unused_in}
use Rattle.hep_warnings.proofs.unused_labels.add_unit.Given as goal

abbrev pub invariant-loop-statement : goal.invariant-loop-statement
invariant-loop-statement l = l.found.items ++ flat_map (unused_at l.used) (drop l.statement-index l.statement-items) ≡ l.initial.found.items ++ unused_in l.used
