use Rattle.std.proofs.Common.{◌≡◌, ◌++◌, drop}
use Rattle.std.specs.List.{flat_map}
use Rattle.hep_warnings.specs.UnusedLabels.{label_warnings, unused_in}
use Rattle.hep_warnings.proofs.unused_labels.label_warnings.Given as goal

abbrev pub invariant-loop-unit : goal.invariant-loop-unit
invariant-loop-unit l = l.found.items ++ flat_map unused_in (drop l.unit-index l.program) ≡ label_warnings l.program
