-- A turn that may give back frames: docs/RUNS.md, "What each step did".
use Rattle.std.specs.Prelude.{◌≡◌, ℕ, true, List, [], Some, drop, not, slice_get}
use Rattle.std.specs.List.{filter}
use Rattle.hep_core.specs.CoreValues.{CoreValue, state_of}
use Rattle.hep_machine.specs.Words.{Level, Process, State, Top, is_held, living}
use Rattle.hep_trace.specs.Ancestry.{IsAncestryOf}
use Rattle.hep_trace.specs.MadeTurns.{IsTurnMade}

-- a process in a core's state, with this level on top of others
abbrev pub top_in : CoreValue → ℕ → Level × Process → Top
top_in core p top = record { state = state_of core; process = p; level = top.0; below = top.1 }

-- process p lived in a core with this on top, which has this ancestry, and has made a turn since
abbrev pub IsFreeing : CoreValue → ℕ → Level × Process → List ℕ → CoreValue → Type 0
IsFreeing old p top activations new = (living (state_of old) p ≡ Some top) × IsAncestryOf (top_in old p top) activations × IsTurnMade old p new

-- where one of these activations is held, so are all after it
abbrev pub AreHeldUpwards : State → List ℕ → Type 0
AreHeldUpwards s activations =
    (i a : ℕ) → slice_get activations i ≡ Some a → is_held s a ≡ true → filter (λ b. not (is_held s b)) (drop i activations) ≡ []
