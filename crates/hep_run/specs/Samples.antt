-- The outcome of a sample of a source: docs/RUNS.md, "Lots".
use Rattle.std.specs.Prelude.{◌≡◌, ◌⊎◌, ℕ, Bool, false, List, [], length, map, slice_get, Some}
use Rattle.hep_machine.specs.Words.{Units}
use Rattle.hep_outcome.specs.Histories.{history_text}
use Rattle.hep_outcome.specs.declared.options.LotOptions.{LotOptions}
use Rattle.hep_outcome.specs.declared.options.SampleOptions.{SampleOptions}
use Rattle.hep_outcome.specs.Outcome.{Outcome}
use Rattle.hep_outcome.specs.Tallies.{IsNth, Tally, sample_by, tallied}
use Rattle.hep_run.specs.Checks.{outcome_of_text}
use Rattle.hep_run.specs.Outcome.{IsLotOutcome, RunsTo}
use Rattle.hep_run.specs.Sources.{IsRunnableSource}

-- this is the outcome of the run with this number, counted from 0
abbrev pub IsNthOutcome : Bool → SampleOptions → List ℕ → ℕ → Outcome → Type 0
IsNthOutcome long options source i o = (by : LotOptions) × IsNth options i by × IsLotOutcome long by source o

-- these are the outcomes of `runs` runs, each by lots and its own seed
pub record AreRuns (long : Bool) (options : SampleOptions) (source : List ℕ) (runs : ℕ) (outcomes : List Outcome) : Type 0 where
  pub count : length outcomes ≡ runs
  pub each : (i : ℕ) (o : Outcome) → slice_get outcomes i ≡ Some o → IsNthOutcome long options source i o

-- these are the tallies of `runs` runs
abbrev pub IsTallied : Bool → SampleOptions → List ℕ → ℕ → List Tally → Type 0
IsTallied long options source runs ts = (outcomes : List Outcome) × AreRuns long options source runs outcomes × (ts ≡ tallied options.seed outcomes)

-- the runs were counted, and the first ones have these seeds
abbrev pub IsSampled : Bool → SampleOptions → List ℕ → List ℕ → Outcome → Type 0
IsSampled long options source seeds o =
    (ts : List Tally) × IsTallied long options source options.runs ts × (seeds ≡ map (λ (t : Tally). t.seed) ts)
    × (o ≡ outcome_of_text (sample_by options.json options.runs ts))

-- the outcome of a sample of a source: why it isn't run, or its runs, counted
abbrev pub IsSampleOutcome : Bool → SampleOptions → List ℕ → List ℕ → Outcome → Type 0
IsSampleOutcome long options seeds source o = RunsTo long (λ program. IsSampled long options source seeds) source o

-- the source is run, and these are the seeds of the first runs of its sample; or there are none
abbrev pub AreFirstSeeds : Bool → SampleOptions → List ℕ → List ℕ → Type 0
AreFirstSeeds long options source seeds =
    (seeds ≡ []) ⊎ ((program : Units) × IsRunnableSource source program × (o : Outcome) × IsSampled long options source seeds o)

-- the text is that of the history of a run by lots
abbrev pub HasLotHistory : LotOptions → List ℕ → List ℕ → Type 0
HasLotHistory options source text = (o : Outcome) × IsLotOutcome false options source o × (text ≡ history_text o.history)
