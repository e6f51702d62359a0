use Rattle.std.proofs.Common.{◌≡◌, ◌-◌, drop, length}
use Rattle.hep_races.specs.WatchedCode.{is_observed_ahead}
use Rattle.hep_races.proofs.watched_code.is_observed_ahead.Given as goal

abbrev pub invariant-loop-instruction : goal.invariant-loop-instruction
invariant-loop-instruction l = is_observed_ahead (drop l.at l.code) ≡ is_observed_ahead (drop l.initial.at l.code)

abbrev pub decreases-loop-instruction : goal.decreases-loop-instruction
decreases-loop-instruction l = length l.code - l.at
