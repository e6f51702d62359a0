use Rattle.std.proofs.Common.{◌≡◌, drop}
use Rattle.std.specs.List.{list_any}
use Rattle.hep_control.specs.Labels.{is_absent}
use Rattle.hep_control.proofs.labels.is_any_absent.Given as goal

abbrev pub invariant-loop-label : goal.invariant-loop-label
invariant-loop-label l = list_any (is_absent l.labels) (drop l.label-index l.targets) ≡ list_any (is_absent l.labels) l.targets
