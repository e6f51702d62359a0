use Rattle.std.proofs.Common.{◌≡◌, drop}
use Rattle.hep_check.specs.Culprits.{culprit_among}
use Rattle.hep_check.proofs.culprit.culprit_at.Given as goal

abbrev pub invariant-loop-symbols : goal.invariant-loop-symbols
invariant-loop-symbols l = culprit_among l.faults l.violation (drop l.symbols-index l.symbols-items) ≡ culprit_among l.faults l.violation l.symbols-items
