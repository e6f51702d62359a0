-- The indexes of the code that are watched, and processes at others: docs/RUNS.md, "What each step did".
use Rattle.std.specs.Prelude.{◌≡◌, ℕ, zero, suc, Bool, true, false, List, [], Option, Some, None, slice_get}
use Rattle.std.specs.Option.{unwrap_or}
use Rattle.hep_code.specs.Words.{Stands}
use Rattle.hep_machine.specs.Words.{Level, Process, State, Units, Value, living, state_after_turn, unit_of}
use Rattle.hep_step.specs.Simulation.{unit_addressed}
use Rattle.hep_advance.specs.declared.breakpoints.Breakpoints.{Breakpoints}

abbrev pub row_in : Option Breakpoints → List Bool
row_in None = []
row_in (Some w) = w.watched.items

-- the breakpoints of a unit's code
abbrev pub row_of : List Breakpoints → ℕ → List Bool
row_of watches u = row_in (slice_get watches u)

-- each index past its end is watched
abbrev pub watched_at : List Bool → ℕ → Bool
watched_at row index = unwrap_or (slice_get row index) true

abbrev pub is_watched : List Breakpoints → ℕ → ℕ → Bool
is_watched watches u index = watched_at (row_of watches u) index

-- process p lives in a state, and its top activation is at an index of its unit's code that isn't watched
pub record IsUnwatched (program : Units) (watches : List Breakpoints) (p : ℕ) (s : State) : Type 0 where
  pub top : Level × Process
  pub operands : List Value
  pub index : ℕ
  pub lives : living s p ≡ Some top
  pub stands : Stands (unit_addressed program (unit_of s top.0.activation)) top.0.statement top.0.work operands index
  pub unwatched : is_watched watches (unit_of s top.0.activation) index ≡ false

-- this holds before each of the next turns of p
abbrev pub PassesFrom : Units → List Breakpoints → ℕ → State → ℕ → Type 0
PassesFrom program watches p s zero = Unit {0}
PassesFrom program watches p s (suc n) = IsUnwatched program watches p s × PassesFrom program watches p (state_after_turn program p s) n
