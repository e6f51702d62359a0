use Rattle.std.proofs.Common.{◌≡◌, ◌++◌, drop}
use Rattle.hep_check.specs.Diagnostics as words
use Rattle.hep_check.proofs.diagnostics.others.Given as goal

abbrev pub invariant-loop-violation : goal.invariant-loop-violation
invariant-loop-violation l =
    l.left.items ++ words.others l.first l.last (drop l.violation-index l.found) ≡ words.others l.first l.first l.found
