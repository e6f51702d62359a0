use Rattle.std.proofs.Common.{◌≡◌, ◌+◌, ◌++◌, take}
use Rattle.hep_text.specs.Line.{lines}
use Rattle.hep_warnings.specs.PastColumn72.{behind_warnings, warnings_from}
use Rattle.hep_warnings.proofs.past_column_72.behind_warnings.Given as goal

abbrev pub decreases-loop-left : goal.decreases-loop-left
decreases-loop-left l = l.left

abbrev pub invariant-loop-left : goal.invariant-loop-left
invariant-loop-left l =
    (l.number + l.left ≡ 65536) × (l.found.items ++ warnings_from l.number (take l.left (lines l.rest)) ≡ behind_warnings l.source)
