use Rattle.std.proofs.Common.{◌≡◌, drop}
use Rattle.std.specs.List.{list_any}
use Rattle.hep_formats.specs.Lanes as words
use Rattle.hep_formats.proofs.lane.is_created.Given as goal

abbrev pub invariant-loop-mark : goal.invariant-loop-mark
invariant-loop-mark l = list_any (words.creates l.p) (drop l.mark-index l.marks) ≡ list_any (words.creates l.p) l.marks
