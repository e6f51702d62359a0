-- What is written of all outcomes of a source: docs/RUNS.md, "All outcomes".
use Rattle.std.specs.Prelude.{◌≡◌, ◌≤◌, ◌+◌, ◌++◌, ◌∷◌, ◌&&◌, ℕ, Bool, true, false, if◌then◌else◌, not, nat_eq, List, [], Option, Some, None, codes}
use Rattle.std.specs.Fmt.{decimal}
use Rattle.std.specs.List.{list_any}
use Rattle.hep_machine.specs.Words.{Units}
use Rattle.hep_outcome.specs.Histories.{history_text}
use Rattle.hep_outcome.specs.Outcome.{Outcome}
use Rattle.hep_outcome.specs.declared.options.Options.{Options}
use Rattle.hep_outcome.specs.declared.status.Status.{Status}
use Rattle.hep_outcome.specs.declared.status.Status.TheVariants.{Done, StepLimit, Unexpected}
use Rattle.hep_explore.specs.Explored.{Found, IsExplored, explored_text}
use Rattle.hep_explore.specs.CountedStates.{HaveStates, IsCutBy}
use Rattle.hep_explore.specs.declared.exploration.Exploration.{Exploration}
use Rattle.hep_run.specs.Outcome.{IsOutcome, RunsTo}
use Rattle.hep_inspection.specs.declared.explore_options.ExploreOptions.{ExploreOptions}

-- ---- what is expected of the outcomes

-- that there is one: several contradict it, and none where no other is possible
abbrev pub contradicts_one : List Found → Bool → Bool
contradicts_one [] complete = complete
contradicts_one (found ∷ []) complete = false
contradicts_one (found ∷ other ∷ others) complete = true

-- one of these has another status
abbrev pub has_other_status : ℕ → List Found → Bool
has_other_status status all = list_any (λ (found : Found). not (nat_eq found.status status)) all

-- that each has this status: one with another contradicts it, and none where no other is possible
abbrev pub contradicts_status : ℕ → List Found → Bool → Bool
contradicts_status status [] complete = complete
contradicts_status status (found ∷ others) complete = has_other_status status (found ∷ others)

-- the line where one outcome is expected, and that isn't so
abbrev pub expected_one_text : Bool → List Found → Bool → List ℕ
expected_one_text expected all complete = if expected && contradicts_one all complete then codes "EXPECTED ONE OUTCOME\n" else []

-- the line where a status is expected, and that isn't so
abbrev pub expected_status_text : Option ℕ → List Found → Bool → List ℕ
expected_status_text None all complete = []
expected_status_text (Some status) all complete =
    if contradicts_status status all complete then codes "EXPECTED STATUS " ++ decimal status ++ codes "\n" else []

abbrev pub unexpected_text : ExploreOptions → List Found → Bool → List ℕ
unexpected_text options all complete =
    expected_one_text options.expect_one all complete ++ expected_status_text options.expect_status all complete

-- ---- what is written

-- by the lines of what isn't as expected; where there are none a search that is cut short ends as a run at its step limit
abbrev pub explored_status : List ℕ → Bool → Status
explored_status [] true = Done
explored_status [] false = StepLimit
explored_status (c ∷ cs) complete = Unexpected

abbrev pub outcome_of_exploration : ExploreOptions → Exploration → Outcome
outcome_of_exploration options e =
    let unexpected = unexpected_text options e.found.items e.complete in
    record {
      output = explored_text e.found.items e.states e.complete ++ unexpected;
      messages = [];
      status = explored_status unexpected e.complete;
      history = [];
    }

-- these outcomes were found, and are written, with the number of states, which are no more than options allow, but for the opening, and with
-- what isn't as expected; the search was cut short only where as many states were found, or a run found no gap for a frame
pub record IsWrittenOf (options : ExploreOptions) (found : List Found) (program : Units) (o : Outcome) : Type 0 where
  pub exploration : Exploration
  pub explored : IsExplored program options.arena exploration.found.items exploration.complete
  pub states : HaveStates program options.arena exploration.states exploration.found.items exploration.complete
  pub few : exploration.states ≤ options.states + 1
  pub cut : exploration.complete ≡ false → IsCutBy program options.arena options.states exploration.states
  pub found_is : found ≡ exploration.found.items
  pub outcome : o ≡ outcome_of_exploration options exploration

-- the outcome of a search of a source: why it isn't run, or its outcomes
abbrev pub IsExploredOutcome : Bool → ExploreOptions → List Found → List ℕ → Outcome → Type 0
IsExploredOutcome long options found source o = RunsTo long (IsWrittenOf options found) source o

-- the text is that of the history of a run by these choices
abbrev pub HasChosenHistory : Options → List ℕ → List ℕ → Type 0
HasChosenHistory options source text = (o : Outcome) × IsOutcome false options source o × (text ≡ history_text o.history)
