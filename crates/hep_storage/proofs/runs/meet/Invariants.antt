use Rattle.std.proofs.Common.{◌≡◌, ◌+◌, ◌-◌, length}
use Rattle.hep_storage.specs.Runs.{IsPlace, front}
use Rattle.hep_storage.proofs.runs.meet.Given as goal

abbrev pub invariant-loop-at : goal.invariant-loop-at
invariant-loop-at l = IsPlace l.at l.first × IsPlace l.to l.second × (front l.at l.first ≡ front l.to l.second)

abbrev pub decreases-loop-at : goal.decreases-loop-at
decreases-loop-at l = (length l.first - l.at.run) + (length l.second - l.to.run)
