-- Where choices lead whose steps are made in another order, each followed at once by independent ones: to the same state, up to independent
-- steps.
use Rattle.std.proofs.Common.{◌≡◌, ◌≢◌, ℕ, zero, suc, ◌≤◌, Bool, false, List, [], ◌∷◌, ◌++◌, length, None, refl, sym, ap, ◌∙◌, subst, arith}
use Rattle.std.proofs.lemmas.List.{append-nil, append_assoc}
use Rattle.hep_machine.specs.Words.{AreSteps, State, Units, run, run_from, state_after_turn, step}
use Rattle.hep_machine.proofs.Replays.{run_after}
use Rattle.hep_advance.proofs.RunsToBreakpoint.{run-on}
use Rattle.hep_explore.specs.Endings.{IsReachable}
use Rattle.hep_explore.specs.Independence.{AreIndependent, AreIndependentSteps}
use Rattle.hep_explore.proofs.Independence.{GoAlong, Replaces, after_all, all_before, going_before, independent_more}
use Rattle.hep_explore.proofs.Kept.{LeadsTo}
use Rattle.hep_explore.proofs.Turns.{run_reachable, some_step, turn_is, turn_reachable}

module _ (program : Units) (independent : ℕ → State → Bool) (are : AreIndependent program independent) (A : Type 0)
    (Goes : State → A → Type 0) (after : State → ℕ → A → A) (along : GoAlong program independent A Goes after) where
  -- independent steps leave what goes along as it was
  independent_keep : (qs : List ℕ) (s : State) (a : A) → IsReachable program s → AreIndependentSteps program independent s qs → Goes s a
      → (after_all program after s qs a ≡ a) × Goes (run_from program s qs) a
  unfolding run_from
  independent_keep [] s a way h goes = (refl, goes)
  independent_keep (q ∷ qs) s a way h goes =
      let u : State = h.1 in
      let turned : state_after_turn program q s ≡ u = turn_is program q s u h.2 in
      let one : after s q a ≡ a = along.keeps q s u a way h.0 h.2 goes in
      let later : Goes u a = subst (Goes u) one (along.stays q s u a h.2 goes) in
      let rest = independent_keep qs u a (subst (IsReachable program) turned (turn_reachable program q s way)) h.3 later in
      subst (λ w. (after_all program after w qs (after s q a) ≡ a) × Goes (run_from program w qs) a) (sym turned) (
        ap (after_all program after u qs) one ∙ rest.0,
        rest.1,
      )

  -- what goes along with turns one after the other
  along_after : (ps qs : List ℕ) (s : State) (a : A)
      → after_all program after s (ps ++ qs) a ≡ after_all program after (run_from program s ps) qs (after_all program after s ps a)
  unfolding run_from
  along_after [] qs s a = refl
  along_after (p ∷ ps) qs s a = along_after ps qs (state_after_turn program p s) (after s p a)

  -- what goes along with steps goes along with where they lead
  goes_after : (ps : List ℕ) (s : State) (a : A) → AreSteps program s ps → Goes s a
      → Goes (run_from program s ps) (after_all program after s ps a)
  unfolding run_from
  goes_after [] s a made goes = goes
  goes_after (p ∷ ps) s a made goes =
      let t : State = state_after_turn program p s in
      goes_after ps t (after s p a) made.1 (along.stays p s t a (some_step program p s made.0) goes)

  -- so independent steps after others leave it as those do
  pub left_along : (ps qs : List ℕ) (s : State) (a : A) → IsReachable program s → AreSteps program s ps → Goes s a
      → AreIndependentSteps program independent (run_from program s ps) qs
      → after_all program after s (ps ++ qs) a ≡ after_all program after s ps a
  left_along ps qs s a way made goes pure =
      along_after ps qs s a
      ∙ (independent_keep qs (run_from program s ps) (after_all program after s ps a) (run_reachable program ps s way) pure (
      goes_after ps s a made goes)).0

  -- Other turns lead from s to where independent steps lead after these choices, if they make no STOP. What goes along is the same after
  -- both.
  pub record Meets (s : State) (choices turns : List ℕ) : Type 0 where
    pub left : (run_from program s turns).halted ≡ false → (qs : List ℕ)
        × AreIndependentSteps program independent (run_from program s choices) qs
        × (run_from program (run_from program s choices) qs ≡ run_from program s turns)
    pub same : (a : A) → Goes s a → after_all program after s choices a ≡ after_all program after s turns a

  nothing_meets : (s : State) → Meets s [] []
  unfolding run_from
  nothing_meets s = record { left = λ going. ([], tt, refl); same = λ a goes. refl }

  -- one step more before them, with independent ones after it
  step_meets : (s : State) (p : ℕ) (ps us turns : List ℕ) (fewer : ℕ) → IsReachable program s → step program p s ≢ None
      → AreIndependentSteps program independent (state_after_turn program p s) us
      → (new : Replaces program independent A Goes after (state_after_turn program p s) ps (
      run_from program (state_after_turn program p s) us) fewer)
      → Meets (run_from program (state_after_turn program p s) us) new.steps turns → Meets s (p ∷ ps) (p ∷ (us ++ turns))
  unfolding run_from
  step_meets s p ps us turns fewer way is_there pure new rest =
      let t : State = state_after_turn program p s in
      let u : State = run_from program t us in
      let end : State = run_from program t ps in
      let there : run_from program t (us ++ turns) ≡ run_from program u turns = run_after program t us turns in
      record {
        left = λ going.
            let two = rest.left (ap (λ (x : State). x.halted) (sym there) ∙ going) in
            let last : (run_from program (run_from program u new.steps) two.0).halted ≡ false =
            ap (λ (x : State). x.halted) (two.2 ∙ sym there) ∙ going
            in
            let one = new.left (going_before program two.0 (run_from program u new.steps) last) in (
              one.0 ++ two.0,
              independent_more program independent one.0 two.0 end one.1 (
                  subst (λ w. AreIndependentSteps program independent w two.0) (sym one.2) two.1),
              run_after program end one.0 two.0 ∙ ap (λ w. run_from program w two.0) one.2 ∙ two.2 ∙ sym there,
            );
        same = λ a goes.
            let b : A = after s p a in
            let now : Goes t b = along.stays p s t a (some_step program p s is_there) goes in
            let keep = independent_keep us t b (turn_reachable program p s way) pure now in
            new.same b now
            ∙ rest.same b keep.1
            ∙ ap (after_all program after u turns) (sym keep.0)
            ∙ sym (along_after us turns t b);
      }

  module _ (M : Type 0) (IsKept : List ℕ → M → Type 0)
      (goes_on : (m : M) (before : List ℕ) (p : ℕ) → IsKept before m → step program p (run program before) ≢ None
      → LeadsTo program independent M IsKept (before ++ p ∷ [])) where
    -- something is kept for choices that lead, from those before, where others lead, up to independent steps
    pub record Arrives (before choices : List ℕ) : Type 0 where
      pub turns : List ℕ
      pub kept : M
      pub is_kept : IsKept (before ++ turns) kept
      pub meets : Meets (run program before) choices turns

    -- so it is of all steps after choices for which something is kept; n bounds how many there are
    arrives_from : (n : ℕ) (choices before : List ℕ) (m : M) → length choices ≤ n → IsKept before m
        → AreSteps program (run program before) choices → Arrives before choices
    unfolding run_from
    arrives_from n [] before m few kept made =
        record {
          turns = [];
          kept = m;
          is_kept = subst (λ cs. IsKept cs m) (sym (append-nil before)) kept;
          meets = nothing_meets (run program before);
        }
    arrives_from zero (p ∷ ps) before m few kept made = absurd (omega arith)
    arrives_from (suc n) (p ∷ ps) before m few kept made =
        let s : State = run program before in
        let t : State = state_after_turn program p s in
        let way : IsReachable program s = (before, refl) in
        let there : run program (before ++ p ∷ []) ≡ t = run-on program before (p ∷ []) in
        let leads = goes_on m before p kept made.0 in
        let us : List ℕ = leads.steps in
        let pure : AreIndependentSteps program independent t us =
        subst (λ w. AreIndependentSteps program independent w us) there leads.are_independent
        in
        let new = all_before program independent are A Goes after along us ps t (turn_reachable program p s way) pure made.1 in
        let then : List ℕ = (before ++ p ∷ []) ++ us in
        let here : run_from program t us ≡ run program then =
        ap (λ w. run_from program w us) (sym there) ∙ sym (run-on program (before ++ p ∷ []) us)
        in
        let rest = arrives_from n new.steps then leads.kept (let less = new.few in omega arith) leads.is_kept (
        subst (λ w. AreSteps program w new.steps) here new.made)
        in
        let order : then ++ rest.turns ≡ before ++ (p ∷ (us ++ rest.turns)) =
        append_assoc (before ++ p ∷ []) us rest.turns ∙ append_assoc before (p ∷ []) (us ++ rest.turns)
        in
        record {
          turns = p ∷ (us ++ rest.turns);
          kept = rest.kept;
          is_kept = subst (λ cs. IsKept cs rest.kept) order rest.is_kept;
          meets = step_meets s p ps us rest.turns (length us) way made.0 pure new (
              subst (λ w. Meets w new.steps rest.turns) (sym here) rest.meets);
        }

    pub arrives : (choices before : List ℕ) (m : M) → IsKept before m → AreSteps program (run program before) choices
        → Arrives before choices
    arrives choices before m kept made = arrives_from (length choices) choices before m (omega arith) kept made
