-- The steps of each process, noted while a history is made again: docs/ARCHITECTURE.md, "Forms".
use Rattle.std.specs.Prelude.{ℕ, List, [], Option, Some, None, slice_get}
use Rattle.std.specs.Global.{Vec}
use Rattle.hep_machine.specs.Words.{State, Units}
use Rattle.hep_diff.specs.ProcessSteps.{steps_of}
use Rattle.hep_diff.specs.declared.process_step.ProcessStep.{ProcessStep}

-- the steps in a row; none where there is no row
abbrev pub items_of : Option (Vec ProcessStep) → List ProcessStep
items_of None = []
items_of (Some deeds) = deeds.items

-- those of process p, whose row has its number as its index
abbrev pub kept_of : List (Vec ProcessStep) → ℕ → List ProcessStep
kept_of logs p = items_of (slice_get logs p)

-- the steps of each process, with that of process p from a state, in the entry with this number
abbrev pub steps_after : Units → ℕ → ℕ → State → (ℕ → List ProcessStep) → ℕ → List ProcessStep
steps_after program entry p s steps q = steps_of program q entry p s (steps q)
