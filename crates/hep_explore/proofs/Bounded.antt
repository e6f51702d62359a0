-- How long runs are, by a rank that falls.
use Rattle.std.proofs.Common.{◌≡◌, ℕ, zero, suc, ◌+◌, ◌<◌, ◌≤◌, Bool, false, List, [], ◌∷◌, ◌++◌, length, length-append, refl, arith}
use Rattle.std.specs.List.{Contains}
use Rattle.hep_machine.specs.Words.{AreSteps, State, Units, opening, run_from, state_after_turn}
use Rattle.hep_explore.specs.Closed.{IsClosed, IsRanking, IsRankedUpTo}
use Rattle.hep_explore.specs.Endings.{IsReachable, MayRunForEver, first_of}
use Rattle.hep_explore.specs.Independence.{AreIndependent}
use Rattle.hep_explore.proofs.Independence.{all_first}
use Rattle.hep_explore.proofs.Turns.{opening_reachable, run_reachable, some_step, turn_reachable}

-- the first n choices are n
count_first : (choices : ℕ → ℕ) (n : ℕ) → length (first_of choices n) ≡ n
count_first choices zero = refl
count_first choices (suc n) =
    let before : length (first_of choices n) ≡ n = count_first choices n in
    let all : length (first_of choices n ++ choices n ∷ []) ≡ length (first_of choices n) + 1 = simp length-append in
    omega arith

-- where no choices make more than n steps, none go on for ever
pub none_for_ever : (program : Units) (n : ℕ) → ((choices : List ℕ) → AreSteps program (opening program) choices → length choices ≤ n)
    → MayRunForEver program → ⊥
none_for_ever program n bound ever =
    let few : length (first_of ever.0 (suc n)) ≤ n = bound (first_of ever.0 (suc n)) (ever.1 (suc n)) in
    let many : length (first_of ever.0 (suc n)) ≡ suc n = count_first ever.0 (suc n) in
    absurd (omega arith)

-- ---- by a rank

module _ (program : Units) (independent : ℕ → State → Bool) (states : List State) (rank : State
    → ℕ) (are : AreIndependent program independent)
    (ranked : IsRankedUpTo program independent states rank) where
  -- no choices make more steps than the rank, which n bounds
  few_from : (n : ℕ) (choices : List ℕ) (s : State) → rank s ≤ n → IsReachable program s → Contains states s → AreSteps program s choices
      → length choices ≤ rank s
  few_from n [] s low way has made = omega arith
  few_from zero (p ∷ ps) s low way has made =
      let fall = (ranked.falls s (state_after_turn program p s) p has (some_step program p s made.0)).1 in
      absurd (omega arith)
  few_from (suc n) (p ∷ ps) s low way has made =
      let t : State = state_after_turn program p s in
      let falls = ranked.falls s t p has (some_step program p s made.0) in
      let leads = falls.0 in
      let u : State = run_from program t leads.steps in
      let new = all_first program independent are leads.steps ps t (turn_reachable program p s way) leads.are_independent made.1 in
      let there : IsReachable program u = run_reachable program leads.steps t (turn_reachable program p s way) in
      let rest : length new.steps ≤ rank u = few_from n new.steps u (let fall = falls.1 in omega arith) there leads.among new.made in
      let fall : rank u + length leads.steps < rank s = falls.1 in
      let many : length ps ≤ length new.steps + length leads.steps = new.many in
      omega arith

  -- no choices make more steps than the rank of the first state of the set and the independent steps that lead to it
  pub few_steps : (choices : List ℕ) → AreSteps program (opening program) choices
      → length choices ≤ rank (run_from program (opening program) ranked.begins.steps) + length ranked.begins.steps
  few_steps choices made =
      let leads = ranked.begins in
      let first : State = opening program in
      let u : State = run_from program first leads.steps in
      let new = all_first program independent are leads.steps choices first (opening_reachable program) leads.are_independent made in
      let there : IsReachable program u = run_reachable program leads.steps first (opening_reachable program) in
      let rest : length new.steps ≤ rank u = few_from (rank u) new.steps u (omega arith) there leads.among new.made in
      let many : length choices ≤ length new.steps + length leads.steps = new.many in
      omega arith

-- ---- without independent steps

-- no step is independent
none : ℕ → State → Bool
none q s = false

-- so it is all the same of them
none_are : (program : Units) → AreIndependent program none
unfolding none
none_are program =
    record {
      is_there = λ q s way is. absurd cc;
      stays = λ p q s t beside going. let is = beside.is_independent in absurd cc;
      commutes = λ p q s t u beside going e. let is = beside.is_independent in absurd cc;
      stops = λ p q s t u beside halted e. let is = beside.is_independent in absurd cc;
    }

-- no choices make more steps than the rank of the opening
pub few_of_closed : (program : Units) (states : List State) (rank : State → ℕ) → IsClosed program states → IsRanking program states rank
    → (choices : List ℕ) → AreSteps program (opening program) choices → length choices ≤ rank (opening program)
unfolding run_from none
few_of_closed program states rank closed ranking choices made =
    let few : length choices ≤ rank (opening program) + 0 = few_steps program none states rank (none_are program) (record {
      begins = record { steps = []; are_independent = tt; among = closed.begins };
      falls = λ s t p has e.
          let fall = ranking s t p has e in
          (record { steps = []; are_independent = tt; among = closed.goes_on s t p has e }, omega arith);
    }) choices made in
    omega arith
