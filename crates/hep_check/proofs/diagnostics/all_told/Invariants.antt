use Rattle.std.proofs.Common.{◌≡◌, map, take}
use Rattle.hep_check.specs.Diagnostics as words
use Rattle.hep_check.proofs.diagnostics.all_told.Given as goal

abbrev pub invariant-loop-violation : goal.invariant-loop-violation
invariant-loop-violation l = l.all.items ≡ map (words.as_told l.faults) (take l.violation-index l.violations)
