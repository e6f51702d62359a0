-- The outcome of a source, from its bytes to the bytes that its run writes: docs/MACHINE.md, "The program".
use Rattle.std.specs.Prelude.{◌≡◌, ◌⊎◌, ℕ, Bool, List, [], ◌++◌}
use Rattle.hep_machine.specs.Words.{Units}
use Rattle.hep_outcome.specs.declared.options.LotOptions.{LotOptions}
use Rattle.hep_outcome.specs.declared.options.Options.{Options}
use Rattle.hep_outcome.specs.declared.status.Status.TheVariants as statuses
use Rattle.hep_outcome.specs.RunsByLots.{IsDrawnOutcome}
use Rattle.hep_outcome.specs.Outcome.{Outcome, IsProgramOutcome}
use Rattle.hep_outcome.specs.Replay.{IsTextOutcome}
use Rattle.hep_outcome.specs.Texts.{refusal_text}
use Rattle.hep_run.specs.Notes.{AreNotes}
use Rattle.hep_run.specs.Sources.{IsRefusedFor, IsRefusedProgram, IsRunnable, IsSourceOf}

-- the line of a refusal, and its notes
abbrev pub refused : ℕ → ℕ → List ℕ → List ℕ → Outcome
refused number line name notes =
    record { output = []; messages = refusal_text number line name ++ notes; status = statuses.Refused; history = [] }

-- the outcome of a source: a refusal of it, whose program may be refused so, with notes where they are asked for; or
-- an outcome of its program, which satisfies `Holds`
abbrev pub ComesTo : Bool → (Units → ℕ → ℕ → List ℕ → Type 0) → (Units → Type 0) → (Units → Outcome → Type 0) → List ℕ → Outcome → Type 0
ComesTo long IsRefused Holds Comes source o =
    ((number : ℕ) × (line : ℕ) × (name : List ℕ) × (notes : List ℕ) × IsRefusedFor IsRefused source number line name
    × AreNotes long source number line name notes × (o ≡ refused number line name notes))
    ⊎ ((program : Units) × IsSourceOf Holds source program × Comes program o)

-- the outcome of a source whose program a core runs
abbrev pub RunsTo : Bool → (Units → Outcome → Type 0) → List ℕ → Outcome → Type 0
RunsTo long Comes source o = ComesTo long IsRefusedProgram IsRunnable Comes source o

-- the outcome of a command, by what it gives of a source and its program
abbrev pub IsCommandOutcome : (Units → ℕ → ℕ → List ℕ → Type 0) → (Units → Type 0) → (Bool → List ℕ → Units → Outcome → Type 0)
    → Bool → List ℕ → Outcome → Type 0
IsCommandOutcome IsRefused Holds gives long source o = ComesTo long IsRefused Holds (gives long source) source o

-- ---- runs of sources, with notes where they are asked for

-- the outcome of a run of a source by these options
abbrev pub IsOutcome : Bool → Options → List ℕ → Outcome → Type 0
IsOutcome long options source o = RunsTo long (λ program. IsProgramOutcome long program options) source o

-- the outcome of a run of a source by lots
abbrev pub IsLotOutcome : Bool → LotOptions → List ℕ → Outcome → Type 0
IsLotOutcome long options source o = RunsTo long (λ program. IsDrawnOutcome long program options) source o

-- the outcome of a replay of a source by this text of a history, in an arena of `cells` cells
abbrev pub IsReplayOutcome : Bool → List ℕ → ℕ → List ℕ → Outcome → Type 0
IsReplayOutcome long text cells source o = RunsTo long (IsTextOutcome long text cells) source o
