-- How many states a search has found, and what it lists of them: docs/MACHINE.md, "Endings".
use Rattle.std.specs.Prelude.{◌≡◌, ◌⊎◌, ◌≤◌, ◌++◌, ℕ, Bool, true, false, List, length, slice_get, Some, IsSome}
use Rattle.hep_machine.specs.Words.{AreSteps, Units, is_held, layout_of, opening, run}
use Rattle.hep_explore.specs.Endings.{IsTerminal, ending_of}
use Rattle.hep_explore.specs.Explored.{Found}
use Rattle.hep_explore.specs.FoundOutcomes.{IsOutcomeBy}
use Rattle.hep_explore.specs.Independence.{AreIndependentSteps}
use Rattle.hep_explore.specs.Pure.{is_pure}
use Rattle.hep_explore.specs.Searching.{AreDifferentKeys, IsFullPath, IsKept}

-- the state after these choices is kept by one of these keys
abbrev pub IsAmong : Units → ℕ → List (List ℕ) → List ℕ → Type 0
IsAmong program cells keys choices = (i : ℕ) × (key : List ℕ) × (slice_get keys i ≡ Some key) × IsKept program cells choices key

-- pure steps, or none, lead from the state after these choices to one that is
pub record LeadsAmong (program : Units) (cells : ℕ) (keys : List (List ℕ)) (choices : List ℕ) : Type 0 where
  pub steps : List ℕ
  pub are_pure : AreIndependentSteps program (is_pure program) (run program choices) steps
  pub among : IsAmong program cells keys (choices ++ steps)

-- one that is ends as the state after these choices
abbrev pub EndsAlikeAmong : Units → ℕ → List (List ℕ) → List ℕ → Type 0
EndsAlikeAmong program cells keys choices =
    (other : List ℕ) × IsAmong program cells keys other × (ending_of program (run program other) ≡ ending_of program (run program choices))

-- an outcome of steps that lead to the state of a key in an arena of so many cells is listed
pub record IsShown (program : Units) (cells arena : ℕ) (all : List Found) (key : List ℕ) : Type 0 where
  pub choices : List ℕ
  pub made : AreSteps program (opening program) choices
  pub kept : IsKept program arena choices key
  pub listed : IsOutcomeBy program cells choices all

-- there are so many different states in an arena of `cells` cells, or of fewer: steps lead to each; the outcome of each in which no process
-- has a step is listed; and where these are told to be all, pure steps lead to one of them from each other state to which steps lead whose
-- frames have their gaps there, or a STOP was made and one of them ends as it does
pub record HaveStates (program : Units) (cells n : ℕ) (all : List Found) (complete : Bool) : Type 0 where
  pub arena : ℕ
  pub within : arena ≤ cells
  pub keys : List (List ℕ)
  pub count : length keys ≡ n
  pub different : AreDifferentKeys keys
  pub reached : (i : ℕ) (key : List ℕ) → slice_get keys i ≡ Some key
      → (choices : List ℕ) × AreSteps program (opening program) choices × IsKept program arena choices key
  pub ended : (i : ℕ) (key before : List ℕ) → slice_get keys i ≡ Some key → IsKept program arena before key
      → IsTerminal program (run program before) → IsShown program cells arena all key
  pub no_other : complete ≡ true → (choices : List ℕ) → AreSteps program (opening program) choices
      → IsSome (layout_of program arena is_held choices) → (run program choices).halted ≡ false → LeadsAmong program arena keys choices
  pub stopped : complete ≡ true → (choices : List ℕ) → AreSteps program (opening program) choices
      → IsSome (layout_of program arena is_held choices) → (run program choices).halted ≡ true → EndsAlikeAmong program arena keys choices

-- why a search is cut short: there are `most` states and perhaps others, or a run finds no gap for a frame
abbrev pub IsCutBy : Units → ℕ → ℕ → ℕ → Type 0
IsCutBy program cells most states = (most ≤ states) ⊎ ((choices : List ℕ) × IsFullPath program cells choices)
