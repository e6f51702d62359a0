-- What keeps the endings of a program: things that are kept for choices, one for many lists of choices maybe, so that from each list that
-- has one, and each step after it, independent steps lead to a list that has one too. States of a closed set are kept so; so may be
-- whatever else a search keeps of a state, as the contents of a memory.
use Rattle.std.proofs.Common.{◌≡◌, ◌≢◌, ℕ, zero, suc, ◌≤◌, Bool, List, [], ◌∷◌, ◌++◌, length, None, refl, sym, ap, ◌∙◌, subst, arith}
use Rattle.hep_machine.specs.Words.{AreSteps, State, Units, opening, run, run_from, state_after_turn, step}
use Rattle.hep_advance.proofs.RunsToBreakpoint.{run-on}
use Rattle.hep_explore.specs.Endings.{Ending, IsEnding, IsReachable, IsTerminal, ending_of}
use Rattle.hep_explore.specs.Independence.{AreIndependent, AreIndependentSteps}
use Rattle.hep_explore.proofs.Independence.{EndsAs, all_first}
use Rattle.hep_explore.proofs.Turns.{steps_of}

-- independent steps lead from these choices to a list that has something kept
pub record LeadsTo (program : Units) (independent : ℕ → State → Bool) (M : Type 0) (IsKept : List ℕ → M
    → Type 0) (before : List ℕ) : Type 0 where
  pub steps : List ℕ
  pub are_independent : AreIndependentSteps program independent (run program before) steps
  pub kept : M
  pub is_kept : IsKept (before ++ steps) kept

module _ (program : Units) (independent : ℕ → State → Bool) (are : AreIndependent program independent) (M : Type 0) (IsKept : List ℕ → M
    → Type 0)
    (begins : LeadsTo program independent M IsKept [])
    (goes_on : (m : M) (before : List ℕ) (p : ℕ) → IsKept before m → step program p (run program before) ≢ None
    → LeadsTo program independent M IsKept (before ++ p ∷ [])) where
  -- something is kept for choices that end the run as another state does
  record KeepsEnd (end : State) : Type 0 where
    kept : M
    before : List ℕ
    is_kept : IsKept before kept
    ends : EndsAs program (run program before) end

  reached : (before : List ℕ) → IsReachable program (run program before)
  reached before = (before, refl)

  -- something is kept for choices from which steps, no more than so many, end the run as another state does
  record Goes (most : ℕ) (end : State) : Type 0 where
    kept : M
    before : List ℕ
    is_kept : IsKept before kept
    steps : List ℕ
    few : length steps ≤ most
    made : AreSteps program (run program before) steps
    ends : EndsAs program (run_from program (run program before) steps) end

  -- so it is where independent steps lead to something that is kept
  goes : (before choices : List ℕ) → LeadsTo program independent M IsKept before → AreSteps program (run program before) choices
      → IsTerminal program (run_from program (run program before) choices)
      → Goes (length choices) (run_from program (run program before) choices)
  goes before choices leads made ended =
      let end : State = run_from program (run program before) choices in
      let new = all_first program independent are leads.steps choices (run program before) (reached before) leads.are_independent made in
      let there : run_from program (run program before) leads.steps ≡ run program (before ++ leads.steps) =
      sym (run-on program before leads.steps)
      in
      record {
        kept = leads.kept;
        before = before ++ leads.steps;
        is_kept = leads.is_kept;
        steps = new.steps;
        few = new.few;
        made = subst (λ s. AreSteps program s new.steps) there new.made;
        ends = subst (λ s. EndsAs program (run_from program s new.steps) end) there (new.ends ended);
      }

  -- something is kept for choices that end the run as these do; n bounds the steps that are left
  ends_from : (n : ℕ) (choices before : List ℕ) (m : M) → length choices ≤ n → IsKept before m
      → AreSteps program (run program before) choices
      → IsTerminal program (run_from program (run program before) choices) → KeepsEnd (run_from program (run program before) choices)
  unfolding run_from
  ends_from n [] before m few kept made ended = record { kept = m; before = before; is_kept = kept; ends = (ended, refl) }
  ends_from zero (p ∷ ps) before m few kept made ended = absurd (omega arith)
  ends_from (suc n) (p ∷ ps) before m few kept made ended =
      let t : State = state_after_turn program p (run program before) in
      let there : t ≡ run program (before ++ p ∷ []) = sym (run-on program before (p ∷ [])) in
      let next = goes (before ++ p ∷ []) ps (goes_on m before p kept made.0) (subst (λ s. AreSteps program s ps) there made.1) (
      subst (λ s. IsTerminal program (run_from program s ps)) there ended)
      in
      let found = ends_from n next.steps next.before next.kept (let less = next.few in omega arith) next.is_kept next.made next.ends.0 in
      record {
        kept = found.kept;
        before = found.before;
        is_kept = found.is_kept;
        ends = (found.ends.0, found.ends.1 ∙ next.ends.1 ∙ ap (λ s. ending_of program (run_from program s ps)) (sym there));
      }

  -- however a program ends, something is kept for choices that end so
  pub endings_are_kept : (e : Ending) → IsEnding program e
      → (m : M) × (before : List ℕ) × IsKept before m × IsTerminal program (run program before) × (e
      ≡ ending_of program (run program before))
  unfolding run run_from
  endings_are_kept e ending =
      let way = steps_of program ending.1.0 (opening program) in
      let there : run_from program (opening program) way.steps ≡ ending.0 = way.same ∙ ending.1.1 in
      let next = goes [] way.steps begins way.made (subst (IsTerminal program) (sym there) ending.2) in
      let found = ends_from (length next.steps) next.steps next.before next.kept (omega arith) next.is_kept next.made next.ends.0 in
      let same = ending.3 ∙ ap (ending_of program) (sym there) ∙ sym (found.ends.1 ∙ next.ends.1) in
      (found.kept, found.before, found.is_kept, found.ends.0, same)
