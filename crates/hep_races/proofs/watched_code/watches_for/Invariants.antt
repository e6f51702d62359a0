use Rattle.std.proofs.Common.{◌≡◌, ℕ, Some, length, slice_get}
use Rattle.hep_advance.specs.declared.breakpoints.Breakpoints.{Breakpoints}
use Rattle.hep_step.specs.Simulation.{unit_code}
use Rattle.hep_races.specs.WatchedCode.{IsWatchFor}
use Rattle.hep_races.proofs.watched_code.watches_for.Given as goal

abbrev pub invariant-loop-unit : goal.invariant-loop-unit
invariant-loop-unit l =
    record {
      count : length l.watches.items ≡ l.unit;
      each : (u : ℕ) (w : Breakpoints) → slice_get l.watches.items u ≡ Some w → IsWatchFor (unit_code l.image u) w;
    }
