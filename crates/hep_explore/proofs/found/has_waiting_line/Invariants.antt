use Rattle.std.proofs.Common.{◌≡◌, drop}
use Rattle.hep_explore.specs.Explored.{waits_later}
use Rattle.hep_explore.proofs.found.has_waiting_line.Given as goal

abbrev pub invariant-loop-index : goal.invariant-loop-index
invariant-loop-index l = waits_later (drop l.index l.lines) ≡ waits_later l.lines
