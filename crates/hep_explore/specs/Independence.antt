-- Steps that may come before those of other processes: docs/MACHINE.md, "Endings".
use Rattle.std.specs.Prelude.{◌≡◌, ◌≢◌, ℕ, Bool, true, false, List, [], ◌∷◌, Some, None}
use Rattle.hep_machine.specs.Words.{State, Units, step}
use Rattle.hep_explore.specs.Endings.{IsReachable, ending_of}

-- A state is reachable, the next step of its process q is independent, and p is another process, whose step leads to t.
pub record IsBeside (program : Units) (independent : ℕ → State → Bool) (p q : ℕ) (s t : State) : Type 0 where
  pub reachable : IsReachable program s
  pub is_independent : independent q s ≡ true
  pub other : p ≢ q
  pub stepped : step program p s ≡ Some t

-- These steps are independent of those of other processes. Each of them is there. After a step of another process it is there and
-- independent still, and both orders of the two lead to the same state. After it a STOP ends the run as before it.
pub record AreIndependent (program : Units) (independent : ℕ → State → Bool) : Type 0 where
  pub is_there : (q : ℕ) (s : State) → IsReachable program s → independent q s ≡ true → step program q s ≢ None
  pub stays : (p q : ℕ) (s t : State) → IsBeside program independent p q s t → t.halted ≡ false → independent q t ≡ true
  pub commutes : (p q : ℕ) (s t u : State) → IsBeside program independent p q s t → t.halted ≡ false → step program q s ≡ Some u
      → (v : State) × (step program q t ≡ Some v) × (step program p u ≡ Some v)
  pub stops : (p q : ℕ) (s t u : State) → IsBeside program independent p q s t → t.halted ≡ true → step program q s ≡ Some u
      → (v : State) × (step program p u ≡ Some v) × (ending_of program v ≡ ending_of program t)

-- each of these turns, one after the other, makes an independent step
abbrev pub AreIndependentSteps : Units → (ℕ → State → Bool) → State → List ℕ → Type 0
AreIndependentSteps program independent s [] = Unit {0}
AreIndependentSteps program independent s (q ∷ qs) =
    (independent q s ≡ true) × (t : State) × (step program q s ≡ Some t) × AreIndependentSteps program independent t qs
