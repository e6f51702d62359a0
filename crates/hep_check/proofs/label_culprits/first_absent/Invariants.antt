use Rattle.std.proofs.Common.{◌≡◌, drop}
use Rattle.std.specs.Prelude.{find}
use Rattle.hep_check.proofs.label_culprits.first_absent.Given as goal
use Rattle.hep_control.specs.Labels.{is_absent}

abbrev pub invariant-loop-label : goal.invariant-loop-label
invariant-loop-label l = find (is_absent l.labels) (drop l.label-index l.wanted) ≡ find (is_absent l.labels) l.wanted
