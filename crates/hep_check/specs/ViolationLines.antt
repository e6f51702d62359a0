-- The lines of violations, as the code represents them.
use Rattle.std.specs.Prelude.{ℕ, Bool, nat_eq}
use Rattle.indexmap.specs.IndexSet.{contains}
use Rattle.hep_check.specs.declared.violation_lines.LineSet.{LineSet}
use Rattle.hep_check.specs.declared.violation_lines.ProgramLines.{ProgramLines}
use Rattle.hep_check.specs.declared.violation_lines.UnitLines.{UnitLines}
use Rattle.hep_check.specs.AllViolations.{ViolatedLines}

abbrev pub is_in : LineSet → ℕ → Bool
is_in set line = contains nat_eq set.lines line

-- the lines of a program and of one of its units
abbrev pub lines_at : ProgramLines → UnitLines → ViolatedLines
lines_at shared own =
    record {
      common = is_in shared.common;
      labels = is_in own.labels;
      structure = is_in own.structure;
      jumps = is_in own.jumps;
      names = is_in shared.names;
      values = is_in own.values;
    }
