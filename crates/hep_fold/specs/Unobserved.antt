-- Turns that nobody looks at: docs/ARCHITECTURE.md, "Forms".
use Rattle.std.specs.Prelude.{ℕ, List}
use Rattle.hep_machine.specs.Words.{State, Units}
use Rattle.hep_fold.specs.Observers.{Replay}

-- nothing is known of them
abbrev pub knows_nothing : {O : Type 0} → Units → Replay → List ℕ → O → Unit {0} → Type 0
knows_nothing program replay made o seen = Unit {0}

abbrev pub sees_nothing : Units → ℕ → ℕ → State → Unit {0} → Unit {0}
sees_nothing program entry p s seen = seen
