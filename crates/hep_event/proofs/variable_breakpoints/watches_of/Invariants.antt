use Rattle.std.proofs.Common.{◌≡◌, ℕ, Some, length, slice_get}
use Rattle.hep_advance.specs.declared.breakpoints.Breakpoints.{Breakpoints}
use Rattle.hep_event.specs.VariableBreakpoints.{IsWatchOf}
use Rattle.hep_event.proofs.variable_breakpoints.watches_of.Given as goal

abbrev pub invariant-loop-unit : goal.invariant-loop-unit
invariant-loop-unit l =
    record {
      count : length l.watches.items ≡ l.unit;
      each : (u : ℕ) (w : Breakpoints) → slice_get l.watches.items u ≡ Some w → IsWatchOf l.image u l.name w;
    }
