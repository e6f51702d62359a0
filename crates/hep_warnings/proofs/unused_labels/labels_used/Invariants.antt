use Rattle.std.proofs.Common.{◌≡◌, ◌++◌, drop}
use Rattle.std.specs.List.{flat_map}
use Rattle.hep_warnings.specs.UnusedLabels.{labels_used}
use Rattle.hep_warnings.proofs.unused_labels.labels_used.Given as goal

abbrev pub invariant-loop-statement : goal.invariant-loop-statement
invariant-loop-statement l = l.used.items ++ flat_map labels_used (drop l.statement-index l.unit) ≡ flat_map labels_used l.unit
