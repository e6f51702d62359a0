-- What follows of closed sets of states.
use Rattle.std.proofs.Common.{◌≡◌, ◌≢◌, ℕ, Bool, List, [], ◌∷◌, ◌++◌, Option, Some, None, refl, sym, ap, ◌∙◌, subst}
use Rattle.std.specs.List.{Contains}
use Rattle.std.specs.Option.{unwrap_or}
use Rattle.hep_machine.specs.Words.{State, Units, opening, run, run_from, state_after_turn, step}
use Rattle.hep_advance.proofs.RunsToBreakpoint.{run-on}
use Rattle.hep_explore.specs.Closed.{AreReachable, EndsAmong, IsClosed, IsClosedUpTo, LeadsInto}
use Rattle.hep_explore.specs.Endings.{Ending, IsEnding, IsReachable, IsTerminal, ending_of}
use Rattle.hep_explore.specs.Independence.{AreIndependent, AreIndependentSteps}
use Rattle.hep_explore.proofs.Kept.{LeadsTo, endings_are_kept}
use Rattle.hep_explore.proofs.Turns.{some_step}

-- ---- closed sets

module _ (program : Units) (states : List State) (closed : IsClosed program states) where
  -- a turn doesn't leave the set
  after_turn : (p : ℕ) (s : State) → Contains states s → Contains states (state_after_turn program p s)
  after_turn p s has = by_step (step program p s) refl where
    by_step : (o : Option State) → step program p s ≡ o → Contains states (unwrap_or o s)
    by_step None e = has
    by_step (Some t) e = closed.goes_on s t p has e

  -- turns don't either
  has_from : (choices : List ℕ) (s : State) → Contains states s → Contains states (run_from program s choices)
  unfolding run_from
  has_from [] s has = has
  has_from (p ∷ ps) s has = has_from ps (state_after_turn program p s) (after_turn p s has)

  -- each reachable state is one of the set
  pub has_all : (s : State) → IsReachable program s → Contains states s
  unfolding run
  has_all s way = subst (Contains states) way.1 (has_from way.0 (opening program) closed.begins)

  -- however the program ends, a terminal state of the set ends so
  pub ends_among : (e : Ending) → IsEnding program e → EndsAmong program states e
  ends_among e ending = (ending.0, has_all ending.0 ending.1, ending.2, ending.3)

-- a terminal state of a set of reachable states is an ending
pub among_ends : (program : Units) (states : List State) → AreReachable program states → (e : Ending) → EndsAmong program states e
    → IsEnding program e
among_ends program states reachable e end = (end.0, reachable end.0 end.1, end.2, end.3)

-- ---- closed sets up to independent steps

module _ (program : Units) (independent : ℕ → State
    → Bool) (states : List State) (are : AreIndependent program independent) (closed : IsClosedUpTo program independent states) where
  -- a state of the set is kept for the choices that lead to it
  abbrev IsKept : List ℕ → State → Type 0
  IsKept choices s = Contains states s × (run program choices ≡ s)

  -- what leads into the set leads to something that is kept
  leads_to : (before : List ℕ) (s : State) → run program before ≡ s → LeadsInto program independent states s
      → LeadsTo program independent State IsKept before
  leads_to before s is leads =
      record {
        steps = leads.steps;
        are_independent = subst (λ t. AreIndependentSteps program independent t leads.steps) (sym is) leads.are_independent;
        kept = run_from program s leads.steps;
        is_kept = (leads.among, run-on program before leads.steps ∙ ap (λ t. run_from program t leads.steps) is);
      }

  -- so does a step of a state that is kept
  goes_on : (s : State) (before : List ℕ) (p : ℕ) → IsKept before s → step program p (run program before) ≢ None
      → LeadsTo program independent State IsKept (before ++ p ∷ [])
  unfolding run_from
  goes_on s before p kept is_there =
      let t : State = state_after_turn program p s in
      leads_to (before ++ p ∷ []) t (run-on program before (p ∷ []) ∙ ap (state_after_turn program p) kept.1) (
      closed.goes_on s t p kept.0 (some_step program p s (λ none. is_there (ap (step program p) kept.1 ∙ none))))

  -- however the program ends, a terminal state of the set ends so
  pub ends_among_up_to : (e : Ending) → IsEnding program e → EndsAmong program states e
  unfolding run run_from
  ends_among_up_to e ending =
      let begins = leads_to [] (opening program) refl closed.begins in
      let found = endings_are_kept program independent are State IsKept begins goes_on e ending in
      let is : run program found.1 ≡ found.0 = found.2.1 in
      (found.0, found.2.0, subst (IsTerminal program) is found.3, found.4 ∙ ap (ending_of program) is)
