-- The place of a process, in words: docs/MACHINE.md, "Notes".
use Rattle.std.specs.Prelude.{ℕ, Option, Some, None}
use Rattle.hep_machine.specs.Words.{Units, line_at, unit_at, living, unit_of, Level, Process, State}
use Rattle.hep_views.specs.declared.whereabouts.Whereabouts.{Whereabouts}

-- its top activation is at this level
abbrev pub whereabouts_at : Units → State → ℕ → Level → Whereabouts
whereabouts_at program s p level =
    record { process = p; unit = unit_of s level.activation; line = line_at (unit_at program (unit_of s level.activation)) level.statement }

abbrev pub whereabouts_with : Units → State → ℕ → Option (Level × Process) → Option Whereabouts
whereabouts_with program s p None = None
whereabouts_with program s p (Some top) = Some (whereabouts_at program s p top.0)

-- process p, where it lives
abbrev pub whereabouts_by : Units → ℕ → State → Option Whereabouts
whereabouts_by program p s = whereabouts_with program s p (living s p)
