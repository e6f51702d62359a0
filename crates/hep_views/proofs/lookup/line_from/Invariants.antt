use Rattle.std.proofs.Common.{◌≡◌, ◌-◌, drop, length}
use Rattle.hep_code.specs.Words.{line_ahead}
use Rattle.hep_views.proofs.lookup.line_from.Given as goal

abbrev pub invariant-loop-instruction : goal.invariant-loop-instruction
invariant-loop-instruction l = line_ahead (drop l.at l.code) ≡ line_ahead (drop l.initial.at l.code)

abbrev pub decreases-loop-instruction : goal.decreases-loop-instruction
decreases-loop-instruction l = length l.code - l.at
