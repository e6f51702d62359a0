use Rattle.std.proofs.Common.{Bool, ◌-◌, drop, length}
use Rattle.hep_event.specs.VariableBreakpoints.{IsWatchedAhead}
use Rattle.hep_event.proofs.variable_breakpoints.is_watched_ahead.Given as goal

abbrev pub invariant-loop-instruction : goal.invariant-loop-instruction
invariant-loop-instruction l =
    (b : Bool) → IsWatchedAhead l.seeker.image.now l.seeker.unit l.seeker.name.now (drop l.at l.code) b → IsWatchedAhead l.seeker.image.now l.seeker.unit l.seeker.name.now (drop l.initial.at l.code) b

abbrev pub decreases-loop-instruction : goal.decreases-loop-instruction
decreases-loop-instruction l = length l.code - l.at
