-- What lines are made from: docs/RUNS.md, "What each step did".
use Rattle.std.specs.Prelude.{◌≡◌, ℕ, List, [], Option, Some, None}
use Rattle.hep_machine.specs.Words.{Units}
use Rattle.hep_advance.specs.declared.breakpoints.Breakpoints.{Breakpoints}
use Rattle.hep_event.specs.Variables.{AreVariablesOf}
use Rattle.hep_event.specs.VariableBreakpoints.{AreWatchesOf}
use Rattle.hep_trace.specs.LineFilters.{shown_on}
use Rattle.hep_trace.specs.declared.trace_lines.LineMaker.{LineMaker}

-- the indexes of the code from which a step may access a variable of the sought name; none where each step has a line
abbrev pub AreWatchesFor : Units → Option (List ℕ) → List Breakpoints → Type 0
AreWatchesFor program None watches = watches ≡ []
AreWatchesFor program (Some name) watches = AreWatchesOf program name watches

pub record CanTell (program : Units) (teller : LineMaker) : Type 0 where
  pub variables : AreVariablesOf program teller.variables.now
  pub watches : AreWatchesFor program (shown_on teller.page.now).cell teller.watches.now
