-- Turns of a process, before and after: docs/RUNS.md, "What each step did".
use Rattle.std.specs.Prelude.{ℕ, Bool}
use Rattle.hep_core.specs.CoreValues.{CoreValue, IsTurn}

-- p made a step, or was found waiting
abbrev pub IsTurnMade : CoreValue → ℕ → CoreValue → Type 0
IsTurnMade old p new = (steps : ℕ) × (blocked : Bool) × IsTurn old p steps blocked new
