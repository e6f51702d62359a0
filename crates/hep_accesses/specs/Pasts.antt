-- The steps before each step, collected along a run: its causal past. docs/MACHINE.md, "The order of steps".
use Rattle.std.specs.Prelude.{ℕ, suc, Bool, false, ◌&&◌, ◌||◌, nat_eq, if◌then◌else◌, List, [], ◌∷◌, Option, Some, None, take}
use Rattle.hep_accesses.specs.Events.{Event, leads_to}

-- a set of steps, by their numbers in the run, from 0
abbrev pub Steps : Type 0
Steps = ℕ → Bool

abbrev pub with_step : ℕ → Steps → Steps
with_step n s i = nat_eq i n || s i

-- the steps before the next one of each process, and the latest change of each full/empty storage unit with the steps before it
pub record Past (L : Type 0) : Type 0 where
  pub of_process : ℕ → Steps
  pub of_location : L → Steps

abbrev pub empty_past : {L : Type 0} → Past L
empty_past = record { of_process = λ p i. false; of_location = λ at i. false }

abbrev pub past_of_need : {L : Type 0} → Past L → Option L → Steps
past_of_need x None i = false
past_of_need x (Some at) i = x.of_location at i

module _ {L S : Type 0} where
  -- the steps before this one
  abbrev pub before_step : Past L → Event L S → Steps
  before_step x e i = x.of_process e.process i || past_of_need x e.needs i

  -- after step n, which is e
  abbrev pub past_after : ℕ → Past L → Event L S → Past L
  past_after n x e =
      record {
        of_process = λ p i. (leads_to e p && with_step n (before_step x e) i) || x.of_process p i;
        of_location = λ at i. if e.changes at then with_step n (before_step x e) i else x.of_location at i;
      }

  unfoldable pub past_from : ℕ → Past L → List (Event L S) → Past L
  past_from n x [] = x
  past_from n x (e ∷ es) = past_from (suc n) (past_after n x e) es

  -- the steps of a run before step k, which is e
  abbrev pub before_at : List (Event L S) → ℕ → Event L S → Steps
  before_at es k e = before_step (past_from 0 empty_past (take k es)) e
