-- How often the statement of each line of a source began in histories: docs/RUNS.md, "How often lines began".
use Rattle.std.specs.Prelude.{◌≡◌, ◌⊎◌, ℕ, Bool, List, [], ◌∷◌, ◌++◌, length, None, IsSome}
use Rattle.hep_machine.specs.declared.event.Entry.{Entry}
use Rattle.hep_machine.specs.Words.{Units, opening_layout}
use Rattle.hep_replay.specs.Replays.{ArePossible, IsFirstImpossible}
use Rattle.hep_cover.specs.Lcov.{covered_text}
use Rattle.hep_run.specs.Checks.{outcome_of_text}
use Rattle.hep_outcome.specs.Outcome.{Outcome, outcome_of_full_arena}
use Rattle.hep_run.specs.Outcome.{RunsTo}
use Rattle.hep_outcome.specs.Replay.{outcome_of_refused_history}
use Rattle.hep_inspection.specs.Origins.{HasEntries, HasNoEntries}
use Rattle.hep_inspection.specs.declared.cover_options.CoverOptions.{CoverOptions}
use Rattle.hep_inspection.specs.declared.origin.Origin.{Origin}

-- the main program's frame has a gap in an arena of `cells` cells, and each of these entries is possible after those
-- before it
abbrev pub CanBeMade : Units → ℕ → List Entry → Type 0
CanBeMade program cells entries = IsSome (opening_layout program cells) × ArePossible program cells entries (length entries)

-- what is written about entries that can't be made: COMMON and the main program's frame don't fit the arena, or the
-- first entry that isn't possible
abbrev pub AreRefused : Bool → ℕ → Units → Outcome → List Entry → Type 0
AreRefused long cells program o entries =
    ((opening_layout program cells ≡ None) × (o ≡ outcome_of_full_arena long program cells))
    ⊎ (IsSome (opening_layout program cells) × ((k : ℕ) × IsFirstImpossible program cells entries k × (o ≡ outcome_of_refused_history 603 k)))

-- what is written where there is no history of this origin whose entries can be made: why there is none; or why they can't
abbrev pub IsRefusedHistory : Bool → ℕ → Units → Outcome → Origin → Type 0
IsRefusedHistory long cells program o origin =
    HasNoEntries program origin o ⊎ ((entries : List Entry) × HasEntries program origin entries × AreRefused long cells program o entries)

-- there is one
abbrev pub IsHistory : ℕ → Units → Origin → List Entry → Type 0
IsHistory cells program origin entries = HasEntries program origin entries × CanBeMade program cells entries

module _ (long : Bool) (options : CoverOptions) (source : List ℕ) (program : Units) (o : Outcome) where
  -- what is written of origins, before which these histories stand: of the first one that has no history that can be made its refusal, and else the lines of
  -- the source with how often each one's statement began in all of them, or the tracefile of these counts
  abbrev pub CoversFrom : List (List Entry) → List Origin → Type 0
  CoversFrom before [] = o ≡ outcome_of_text (covered_text options.tracefile program source before)
  CoversFrom before (origin ∷ origins) =
      IsRefusedHistory long options.arena program o origin
      ⊎ ((entries : List Entry) × IsHistory options.arena program origin entries × CoversFrom (before ++ entries ∷ []) origins)

-- of histories of an accepted program
abbrev pub IsCovered : Bool → CoverOptions → List ℕ → Units → Outcome → Type 0
IsCovered long options source program o = CoversFrom long options source program o [] options.origins.now

-- of a source
abbrev pub IsSourceCovered : Bool → CoverOptions → List ℕ → Outcome → Type 0
IsSourceCovered long options source o = RunsTo long (IsCovered long options source) source o
