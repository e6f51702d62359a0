-- Steps one after the other, and states that are reachable.
use Rattle.std.proofs.Common.{◌≡◌, ◌≢◌, ◌⊎◌, inl, inr, ℕ, Bool, true, false, List, [], ◌∷◌, ◌++◌, Option, Some, None, refl}
use Rattle.std.proofs.Common.{sym, ap, ◌∙◌, subst}
use Rattle.std.specs.Option.{unwrap_or}
use Rattle.hep_machine.specs.Words.{AreSteps, State, Units, opening, run, run_from, state_after_turn, step}
use Rattle.hep_advance.proofs.RunsToBreakpoint.{run-on}
use Rattle.hep_explore.specs.Endings.{IsReachable}

-- a step that is there leads to the state after the turn
pub some_step : (program : Units) (p : ℕ) (s : State) → step program p s ≢ None → step program p s ≡ Some (state_after_turn program p s)
some_step program p s is_there = by_step (step program p s) refl where
  by_step : (o : Option State) → step program p s ≡ o → o ≡ Some (unwrap_or o s)
  by_step None e = absurd (is_there e)
  by_step (Some t) e = refl

-- the state after a turn is that of its step
pub turn_is : (program : Units) (p : ℕ) (s t : State) → step program p s ≡ Some t → state_after_turn program p s ≡ t
turn_is program p s t e = ap (λ o. unwrap_or o s) e

-- a step that leads somewhere is there
pub some_isn't_none : {t : State} {o : Option State} → o ≡ Some t → o ≢ None
some_isn't_none e n = cc

-- a STOP was made or not
pub by_halted : (s : State) → (s.halted ≡ true) ⊎ (s.halted ≡ false)
by_halted s = by_value s.halted refl where
  by_value : (b : Bool) → s.halted ≡ b → (b ≡ true) ⊎ (b ≡ false)
  by_value true e = inl refl
  by_value false e = inr refl

-- one step before others
pub step_before : (program : Units) (p : ℕ) (s t : State) (ps : List ℕ) → step program p s ≡ Some t → AreSteps program t ps
    → AreSteps program s (p ∷ ps)
step_before program p s t ps e made = (some_isn't_none e, subst (λ u. AreSteps program u ps) (sym (turn_is program p s t e)) made)

-- ---- turns that are steps

-- of these choices those that make steps, which lead to the same state
pub record Steps (program : Units) (s : State) (choices : List ℕ) : Type 0 where
  pub steps : List ℕ
  pub made : AreSteps program s steps
  pub same : run_from program s steps ≡ run_from program s choices

-- of all choices
pub steps_of : (program : Units) (choices : List ℕ) (s : State) → Steps program s choices
unfolding run_from
steps_of program [] s = record { steps = []; made = tt; same = refl }
steps_of program (p ∷ ps) s = by_step (step program p s) refl (steps_of program ps (state_after_turn program p s)) where
  by_step : (o : Option State) → step program p s ≡ o → Steps program (state_after_turn program p s) ps → Steps program s (p ∷ ps)
  by_step (Some t) e rest = record { steps = p ∷ rest.steps; made = (some_isn't_none e, rest.made); same = rest.same }
  by_step None e rest =
      let stays : state_after_turn program p s ≡ s = ap (λ o. unwrap_or o s) e in
      record {
        steps = rest.steps;
        made = subst (λ t. AreSteps program t rest.steps) stays rest.made;
        same = ap (λ t. run_from program t rest.steps) (sym stays) ∙ rest.same;
      }

-- ---- reachable states

-- the opening is reachable
pub opening_reachable : (program : Units) → IsReachable program (opening program)
unfolding run run_from
opening_reachable program = ([], refl)

-- what a turn leads to is reachable
pub turn_reachable : (program : Units) (p : ℕ) (s : State) → IsReachable program s → IsReachable program (state_after_turn program p s)
unfolding run_from
turn_reachable program p s h = (h.0 ++ p ∷ [], run-on program h.0 (p ∷ []) ∙ ap (state_after_turn program p) h.1)

-- what turns lead to is reachable
pub run_reachable : (program : Units) (ps : List ℕ) (s : State) → IsReachable program s → IsReachable program (run_from program s ps)
unfolding run_from
run_reachable program [] s h = h
run_reachable program (p ∷ ps) s h = run_reachable program ps (state_after_turn program p s) (turn_reachable program p s h)
