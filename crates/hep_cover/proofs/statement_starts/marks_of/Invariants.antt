use Rattle.std.proofs.Common.{◌≡◌, ℕ, length, Some, slice_get}
use Rattle.hep_step.specs.Simulation.{unit_code}
use Rattle.hep_cover.specs.declared.statement_starts.StatementStarts.{StatementStarts}
use Rattle.hep_cover.specs.StartMarks.{marks}
use Rattle.hep_cover.proofs.statement_starts.marks_of.Given as goal

abbrev pub invariant-loop-unit : goal.invariant-loop-unit
invariant-loop-unit l =
    record {
      each : (u : ℕ) (m : StatementStarts) → slice_get l.marks.items u ≡ Some m → m.lines.items ≡ marks l.operations (unit_code l.image u);
      count : length l.marks.items ≡ l.unit;
    }
