use Rattle.std.proofs.Common.{◌≡◌, ℕ, Bool, Some, drop, length, slice_get}
use Rattle.hep_step.specs.Simulation.{unit_code}
use Rattle.hep_event.specs.VariableBreakpoints.{IsWatchedAhead}
use Rattle.hep_event.proofs.variable_breakpoints.watch_of.Given as goal

abbrev pub invariant-loop-index : goal.invariant-loop-index
invariant-loop-index l =
    record {
      count : length l.watched.items ≡ l.index;
      each : (i : ℕ) (b : Bool) → slice_get l.watched.items i ≡ Some b
          → IsWatchedAhead l.seeker.image.now l.seeker.unit l.seeker.name.now (drop i (unit_code l.seeker.image.now l.seeker.unit)) b;
    }
