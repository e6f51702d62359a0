-- What differs between two runs: docs/RUNS.md, "What differs".
use Rattle.std.specs.Prelude.{◌≡◌, ◌⊎◌, ℕ, Bool, List}
use Rattle.hep_machine.specs.declared.event.Entry.{Entry}
use Rattle.hep_machine.specs.Words.{Units}
use Rattle.hep_diff.specs.Differences.{diff_text}
use Rattle.hep_run.specs.Checks.{outcome_of_text}
use Rattle.hep_outcome.specs.Outcome.{Outcome}
use Rattle.hep_run.specs.Outcome.{RunsTo}
use Rattle.hep_inspection.specs.Covers.{IsHistory, IsRefusedHistory}
use Rattle.hep_inspection.specs.declared.origin.Origin.{Origin}

-- what is written of an origin, before which these entries stand: where it has no history that can be made its refusal, and else what differs between the two
abbrev pub IsComparedWith : Bool → ℕ → List Entry → Origin → Units → Outcome → Type 0
IsComparedWith long cells entries origin program o =
    IsRefusedHistory long cells program o origin
    ⊎ ((others : List Entry) × IsHistory cells program origin others × (o ≡ outcome_of_text (diff_text program entries others cells)))

-- of two origins the first one that has no history that can be made is refused
abbrev pub IsCompared : Bool → ℕ → Origin → Origin → Units → Outcome → Type 0
IsCompared long cells first second program o =
    IsRefusedHistory long cells program o first
    ⊎ ((entries : List Entry) × IsHistory cells program first entries × IsComparedWith long cells entries second program o)

-- of a source
abbrev pub IsSourceCompared : Bool → ℕ → Origin → Origin → List ℕ → Outcome → Type 0
IsSourceCompared long cells first second source o = RunsTo long (IsCompared long cells first second) source o
