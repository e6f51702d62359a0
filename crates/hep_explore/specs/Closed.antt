-- Sets of states that no step leaves: docs/MACHINE.md, "Endings".
use Rattle.std.specs.Prelude.{◌≡◌, ◌<◌, ◌+◌, ℕ, Bool, List, ◌∷◌, length, Some}
use Rattle.std.specs.List.{Contains}
use Rattle.hep_machine.specs.Words.{AreSteps, State, Units, opening, run_from, step}
use Rattle.hep_explore.specs.Endings.{Ending, IsReachable, IsTerminal, ending_of}
use Rattle.hep_explore.specs.Independence.{AreIndependentSteps}

-- one of these states is terminal and ends so
abbrev pub EndsAmong : Units → List State → Ending → Type 0
EndsAmong program states e = (s : State) × Contains states s × IsTerminal program s × (e ≡ ending_of program s)

-- each of these states is reachable
abbrev pub AreReachable : Units → List State → Type 0
AreReachable program states = (s : State) → Contains states s → IsReachable program s

-- ---- closed sets

-- the opening is one of these states, and so is each state to which a step of one of them leads
pub record IsClosed (program : Units) (states : List State) : Type 0 where
  pub begins : Contains states (opening program)
  pub goes_on : (s t : State) (p : ℕ) → Contains states s → step program p s ≡ Some t → Contains states t

-- independent steps, or none, lead from a state to one of these
pub record LeadsInto (program : Units) (independent : ℕ → State → Bool) (states : List State) (s : State) : Type 0 where
  pub steps : List ℕ
  pub are_independent : AreIndependentSteps program independent s steps
  pub among : Contains states (run_from program s steps)

-- so they do from the opening, and from each state to which a step of one of these states leads
pub record IsClosedUpTo (program : Units) (independent : ℕ → State → Bool) (states : List State) : Type 0 where
  pub begins : LeadsInto program independent states (opening program)
  pub goes_on : (s t : State) (p : ℕ) → Contains states s → step program p s ≡ Some t → LeadsInto program independent states t

-- ---- ranks and cycles

-- a rank falls with each step of these states
abbrev pub IsRanking : Units → List State → (State → ℕ) → Type 0
IsRanking program states rank = (s t : State) (p : ℕ) → Contains states s → step program p s ≡ Some t → rank t < rank s

-- these states are closed up to independent steps, and the rank falls with each step by more than the independent steps that follow it
pub record IsRankedUpTo (program : Units) (independent : ℕ → State → Bool) (states : List State) (rank : State → ℕ) : Type 0 where
  pub begins : LeadsInto program independent states (opening program)
  pub falls : (s t : State) (p : ℕ) → Contains states s → step program p s ≡ Some t
      → (leads : LeadsInto program independent states t) × (rank (run_from program t leads.steps) + length leads.steps < rank s)

-- steps, one at least, that lead from a state back to it
pub record IsCycle (program : Units) (s : State) (p : ℕ) (ps : List ℕ) : Type 0 where
  pub made : AreSteps program s (p ∷ ps)
  pub back : run_from program s (p ∷ ps) ≡ s
