-- The outcome of a run of a program by lots, with the bytes that it writes: docs/RUNS.md, "Lots".
use Rattle.std.specs.Prelude.{◌≡◌, ◌⊎◌, ℕ, ◌<◌, ◌≤◌, Bool, List, ◌++◌, length, map, take, slice_get, None}
use Rattle.hep_machine.specs.declared.event.Entry.{Entry}
use Rattle.hep_machine.specs.Words.{Units, opening_layout}
use Rattle.hep_replay.specs.CoreValues.{CoreValue}
use Rattle.hep_outcome.specs.LotDraws.{next_drawn}
use Rattle.hep_outcome.specs.declared.options.Options.{Options}
use Rattle.hep_outcome.specs.declared.options.LotOptions.{LotOptions}
use Rattle.hep_outcome.specs.Outcome.{Outcome, IsRunOutcome, next_process, outcome_of_full_arena}
use Rattle.hep_outcome.specs.RunProgress.{IsRunning}

-- the options of a run whose choices are these
abbrev pub choosing : LotOptions → List ℕ → Options
choosing options choices =
    record { arena = options.arena; steps = options.steps; choices = choices; some = options.some; few = options.few }

-- before each entry, and after the last one, the choice is the process that the seed draws there, if it draws one
abbrev pub AreDrawn : Units → ℕ → List ℕ → List Entry → Type 0
AreDrawn program seed choices history = (k : ℕ) → k ≤ length history → slice_get choices k ≡ next_drawn seed program (take k history)

-- the outcome of a run by these choices, each of which was drawn
abbrev pub IsDrawnBy : Bool → Units → LotOptions → List ℕ → Outcome → Type 0
IsDrawnBy long program options choices o = IsRunOutcome long program (choosing options choices) o × AreDrawn program options.seed choices o.history

-- an accepted program by lots: the opening has no gap in the arena, or some choices are drawn
abbrev pub IsDrawnOutcome : Bool → Units → LotOptions → Outcome → Type 0
IsDrawnOutcome long program options o =
    ((opening_layout program options.arena ≡ None) × (o ≡ outcome_of_full_arena long program options.arena))
    ⊎ ((choices : List ℕ) × IsDrawnBy long program options choices o)

-- ---- the progress of a run: docs/ARCHITECTURE.md, "Forms"

-- the processes of the entries, in their order
abbrev pub processes_of : List Entry → List ℕ
processes_of = map (λ (e : Entry). e.process)

-- the core runs by the choices of its history, whichever follow, and each of them was drawn
pub record IsDrawing (options : LotOptions) (core : CoreValue) : Type 0 where
  pub running : (more : List ℕ) → IsRunning (choosing options (processes_of core.history ++ more)) core
  pub drawn : (k : ℕ) → k < length core.history → slice_get (processes_of core.history) k ≡ next_drawn options.seed core.program (take k core.history)

-- the core's run by these choices, all of which were drawn, is over
pub record IsDrawnOut (options : LotOptions) (core : CoreValue) (choices : List ℕ) : Type 0 where
  pub running : IsRunning (choosing options choices) core
  pub drawn : AreDrawn core.program options.seed choices core.history
  pub over : core.stop ≡ None → next_process core.program choices core.history ≡ None
