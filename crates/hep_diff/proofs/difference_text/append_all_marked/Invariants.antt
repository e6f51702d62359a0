use Rattle.std.proofs.Common.{◌≡◌, ◌++◌, length}
use Rattle.std.specs.List.{flat_map}
use Rattle.hep_diff.specs.DifferenceLines.{marked}
use Rattle.hep_text.specs.Line.{lines}
use Rattle.hep_diff.proofs.difference_text.append_all_marked.Given as goal

abbrev pub invariant-loop-rest : goal.invariant-loop-rest
invariant-loop-rest l =
    l.text.items ++ flat_map (marked l.mark) (lines l.rest) ≡ l.fn.text.items ++ flat_map (marked l.mark) (lines l.written)

abbrev pub decreases-loop-rest : goal.decreases-loop-rest
decreases-loop-rest l = length l.rest
