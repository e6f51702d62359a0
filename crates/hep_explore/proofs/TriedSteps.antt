-- The steps that are tried in a state, one process after another, and the state that is expanded then.
use Rattle.std.proofs.Common.{◌≡◌, ◌≢◌, ◌⊎◌, inl, inr, ℕ, zero, suc, ◌+◌, ◌<◌, ◌≤◌, Bool, true, false, true≢false, ◌||◌, List, [], ◌∷◌}
use Rattle.std.proofs.Common.{◌++◌, length, Some, None, refl, sym, ap, ◌∙◌, subst, arith, slice_get}
use Rattle.std.proofs.lemmas.Bool.{cases_lt}
use Rattle.std.proofs.lemmas.Option.{same_Some, slice_get_past}
use Rattle.hep_source.proofs.Tests.{at-front, at-last}
use Rattle.hep_fast.proofs.StepRows.{get-one-more}
use Rattle.hep_machine.specs.Words.{Units, run, step, top_of}
use Rattle.hep_machine.proofs.Others.{dead_idle}
use Rattle.hep_replay.proofs.ReplayTurns.{halted_stays}
use Rattle.hep_explore.specs.Endings.{IsTerminal}
use Rattle.hep_state.specs.declared.core_state.CoreState.{CoreState}
use Rattle.hep_state.specs.Words.{IsMachineAfter}
use Rattle.hep_state.proofs.ProcessNumbers.{length-stacks}
use Rattle.hep_explore.specs.Searching.{AreAlikeByKeys, AreExpanded, AreTried, GoesOn, HasKey, IsEnded, IsFullStep, IsKept, IsNumbered}
use Rattle.hep_explore.specs.Searching.{IsTried, IsVisit, IsWhole, IsWholeTry, Known, Leads, LeadsToFound, pure_turns}
use Rattle.hep_explore.specs.Successors.{IsSuccessor, MakesPureSteps}
use Rattle.hep_explore.specs.declared.search.Origin.{Origin}
use Rattle.hep_explore.specs.declared.successor.Successor.TheVariants.{Full, Machine, Nothing}
use Rattle.hep_explore.proofs.SearchedStates.{kept_machine, led_on, machine_kept}

-- ---- one step

module _ (program : Units) (m : CoreState) where
  -- a step, and then pure ones
  module _ (o : Origin) (next new : CoreState) (is : IsSuccessor program o.process m (Machine next))
      (makes : MakesPureSteps program o.process next o.pure new) where
    leads_so : (cells : ℕ) (before : List ℕ) → IsMachineAfter program cells before m
        → Leads program before o (λ choices. IsMachineAfter program cells choices new)
    leads_so cells before after =
        let step = is cells before after in
        let goes = makes.goes cells (before ++ o.process ∷ []) step.after in
        record { stepped = step.stepped; are_pure = goes.are_pure; holds = goes.after }

    -- the machine after them is that of a visit
    pub visit_of : AreAlikeByKeys program → (s : Known) → IsNumbered program s o.from m → IsVisit program s new o
    visit_of alike s numbered =
        record {
          from = numbered.key;
          from_is = numbered.numbered;
          leads = λ before kept.
              leads_so s.cells before (
              kept_machine program alike s.cells m numbered.key numbered.choices numbered.is_key numbered.after before kept);
          choices = (numbered.choices ++ o.process ∷ []) ++ pure_turns o;
          after = (leads_so s.cells numbered.choices numbered.after).holds;
        }

    pub tried_made : (s : Known) → (IsWhole s → HasKey program s new) → IsTried program m o.process true s
    tried_made s has =
        record {
          found = λ whole before after some.
              let at = has whole in
              let led = leads_so s.cells before after in
              record {
                steps = pure_turns o;
                are_pure = led.are_pure;
                found = record {
                  number = at.number;
                  key = at.key;
                  numbered = at.numbered;
                  kept = machine_kept program s.cells new at.key ((before ++ o.process ∷ []) ++ pure_turns o) at.is_key led.holds;
                };
              };
          some = λ moved before after. (is s.cells before after).stepped;
          none = λ moved. absurd (true≢false moved);
        }

  -- a step that finds no gap is left out
  pub full_step : AreAlikeByKeys program → (s : Known) (o : Origin) → IsNumbered program s o.from m → IsSuccessor program o.process m Full
      → IsFullStep program s o
  full_step alike s o numbered is =
      record {
        from = numbered.key;
        from_is = numbered.numbered;
        full = λ before kept.
            is s.cells before (
            kept_machine program alike s.cells m numbered.key numbered.choices numbered.is_key numbered.after before kept);
      }

  pub tried_full : (new : Known) (p : ℕ) → new.full ≢ None → IsSuccessor program p m Full → IsTried program m p true new
  tried_full new p some is =
      record {
        found = λ whole. absurd (some whole.0);
        some = λ moved before after. (is new.cells before after).stepped;
        none = λ moved. absurd (true≢false moved);
      }

  pub tried_none : (new : Known) (p : ℕ) → IsSuccessor program p m Nothing → IsTried program m p false new
  tried_none new p is =
      record {
        found = λ whole before after some. absurd (some (is new.cells before after));
        some = λ moved. absurd (true≢false (sym moved));
        none = λ moved before after. is new.cells before after;
      }

  -- ---- several steps

  -- process 0 has none
  pub tried_zero : (s : Known) → AreTried program m 0 false s
  tried_zero s =
      record {
        found = λ whole p before few after some. absurd (some (nothing p before few));
        some = λ moved. absurd (true≢false (sym moved));
        none = λ moved p before few after. nothing p before few;
      }
    where
      nothing : (p : ℕ) (before : List ℕ) → p ≤ 0 → step program p (run program before) ≡ None
      nothing zero before few = dead_idle program 0 (run program before) refl
      nothing (suc p) before few = absurd (omega arith)

  module _ (old new : Known) (on : GoesOn old new) (n : ℕ) (moved : Bool) (before_it : AreTried program m n moved old) where
    old_after : (before : List ℕ) → IsMachineAfter program new.cells before m → IsMachineAfter program old.cells before m
    old_after before after = subst (λ c. IsMachineAfter program c before m) on.kept.cells after

    -- of the first processes and the next one
    found_more : (this : Bool) → IsTried program m (n + 1) this new → IsWhole new → (p : ℕ) (before : List ℕ) → p ≤ n + 1
        → IsMachineAfter program new.cells before m → step program p (run program before) ≢ None
        → LeadsToFound program new (before ++ p ∷ [])
    found_more this tried whole p before few after some = by_place (cases_lt n p) where
      by_place : (n < p) ⊎ (p ≤ n) → LeadsToFound program new (before ++ p ∷ [])
      by_place (inr less) =
          led_on program old new on.kept (before ++ p ∷ []) (
          before_it.found (on.whole whole) p before less (old_after before after) some)
      by_place (inl more) =
          let last : n + 1 ≡ p = omega arith in
          subst (λ q. LeadsToFound program new (before ++ q ∷ [])) last (
          tried.found whole before after (λ none. some (subst (λ q. step program q (run program before) ≡ None) last none)))

    pub tried_yes : IsTried program m (n + 1) true new → AreTried program m (n + 1) true new
    tried_yes tried =
        record {
          found = found_more true tried;
          some = λ moved. (n + 1, tried.some refl);
          none = λ moved. absurd (true≢false moved);
        }

    pub tried_no : IsTried program m (n + 1) false new → AreTried program m (n + 1) moved new
    tried_no tried =
        record {
          found = found_more false tried;
          some = λ yes. let was = before_it.some yes in (was.0, λ before after. was.1 before (old_after before after));
          none = λ never p before few after. by_place never p before after few (cases_lt n p);
        }
      where
        by_place : moved ≡ false → (p : ℕ) (before : List ℕ) → IsMachineAfter program new.cells before m → p ≤ n + 1 → (n < p) ⊎ (p ≤ n)
            → step program p (run program before) ≡ None
        by_place never p before after few (inr less) = before_it.none never p before less (old_after before after)
        by_place never p before after few (inl more) =
            let last : n + 1 ≡ p = omega arith in
            subst (λ q. step program q (run program before) ≡ None) last (tried.none refl before after)

    -- whichever it is
    pub tried_more : (this : Bool) → IsTried program m (n + 1) this new → AreTried program m (n + 1) (moved || this) new
    tried_more true tried = subst (λ b. AreTried program m (n + 1) b new) (sym (or_true moved)) (tried_yes tried) where
      or_true : (b : Bool) → (b || true) ≡ true
      or_true true = refl
      or_true false = refl
    tried_more false tried = subst (λ b. AreTried program m (n + 1) b new) (sym (or_false moved)) (tried_no tried) where
      or_false : (b : Bool) → (b || false) ≡ b
      or_false true = refl
      or_false false = refl

  -- ---- all steps

  -- a process that wasn't made has none
  not_made : (cells : ℕ) (before : List ℕ) (p : ℕ) → IsMachineAfter program cells before m → m.made < p
      → step program p (run program before) ≡ None
  not_made cells before zero after past = dead_idle program 0 (run program before) refl
  not_made cells before (suc k) after past =
      let few = length-stacks m.processes.items 1 m.made in
      let count = after.after.shows.processes in
      let beyond : length (run program before).processes ≤ k = omega arith in
      dead_idle program (suc k) (run program before) (ap top_of (slice_get_past (run program before).processes k beyond))

  pub whole_try : (s : Known) (moved : Bool) → AreTried program m m.made moved s → IsWholeTry program m moved s
  whole_try s moved tried =
      record {
        found = λ whole p before after some. by_found whole p before after some (cases_lt m.made p);
        some = tried.some;
        none = λ never before after p. by_none never p before after (cases_lt m.made p);
      }
    where
      by_found : IsWhole s → (p : ℕ) (before : List ℕ) → IsMachineAfter program s.cells before m
          → step program p (run program before) ≢ None → (m.made < p) ⊎ (p ≤ m.made) → LeadsToFound program s (before ++ p ∷ [])
      by_found whole p before after some (inr few) = tried.found whole p before few after some
      by_found whole p before after some (inl past) = absurd (some (not_made s.cells before p after past))

      by_none : moved ≡ false → (p : ℕ) (before : List ℕ) → IsMachineAfter program s.cells before m → (m.made < p) ⊎ (p ≤ m.made)
          → step program p (run program before) ≡ None
      by_none never p before after (inr few) = tried.none never p before few after
      by_none never p before after (inl past) = not_made s.cells before p after past

  -- after a STOP there is none
  pub halted_try : (s : Known) → m.halted ≡ true → IsWholeTry program m false s
  halted_try s halted =
      record {
        found = λ whole p before after some. absurd (some (none before after p));
        some = λ moved. absurd (true≢false (sym moved));
        none = λ moved. none;
      }
    where
      none : (before : List ℕ) → IsMachineAfter program s.cells before m → IsTerminal program (run program before)
      none before after p = halted_stays program p (run program before) (sym after.after.shows.halted ∙ halted)

-- ---- the state that is expanded

module _ (program : Units) (alike : AreAlikeByKeys program) (s : Known) (from : ℕ) (m : CoreState) (numbered : IsNumbered program s from m)
    (expanded : AreExpanded program from s) where
  machine_of : (key before : List ℕ) → slice_get s.states from ≡ Some key → IsKept program s.cells before key
      → IsMachineAfter program s.cells before m
  machine_of key before is kept =
      kept_machine program alike s.cells m numbered.key numbered.choices numbered.is_key numbered.after before (
      subst (IsKept program s.cells before) (same_Some key numbered.key (sym is ∙ numbered.numbered)) kept)

  module _ (moved : Bool) (tried : IsWholeTry program m moved s) where
    -- each step leads to a state that was found
    closed_more : IsWhole s → (i p : ℕ) (key before : List ℕ) → i < from + 1 → slice_get s.states i ≡ Some key
        → IsKept program s.cells before key → step program p (run program before) ≢ None → LeadsToFound program s (before ++ p ∷ [])
    closed_more whole i p key before less is kept some = by_place (cases_lt i from) where
      by_place : (i < from) ⊎ (from ≤ i) → LeadsToFound program s (before ++ p ∷ [])
      by_place (inl first) = expanded.closed whole i p key before first is kept some
      by_place (inr last) =
          let here : i ≡ from = omega arith in
          tried.found whole p before (machine_of key before (ap (slice_get s.states) (sym here) ∙ is) kept) some

  -- it has a step
  pub expanded_yes : IsWholeTry program m true s → AreExpanded program (from + 1) s
  expanded_yes tried =
      record {
        closed = closed_more true tried;
        ended = λ i there. (let less = expanded.ended i there in omega arith);
        terminal = expanded.terminal;
        all = λ i key before less is kept terminal. by_place i key before less is kept terminal (cases_lt i from);
      }
    where
      by_place : (i : ℕ) (key before : List ℕ) → i < from + 1 → slice_get s.states i ≡ Some key
          → IsKept program s.cells before key → IsTerminal program (run program before) → (i < from) ⊎ (from ≤ i) → IsEnded s i
      by_place i key before less is kept terminal (inl first) = expanded.all i key before first is kept terminal
      by_place i key before less is kept terminal (inr last) =
          let here : i ≡ from = omega arith in
          let some = tried.some refl in
          absurd (some.1 before (machine_of key before (ap (slice_get s.states) (sym here) ∙ is) kept) (terminal some.0))

  -- it has none
  abbrev pub with_ended : Known
  with_ended = record s { ended = s.ended ++ from ∷ [] }

  pub expanded_no : IsWholeTry program m false s → AreExpanded program (from + 1) with_ended
  expanded_no tried =
      record {
        closed = λ whole i p key before less is kept some.
            again (before ++ p ∷ []) (closed_more false tried whole i p key before less is kept some);
        ended = λ i there. by_ended there.0 i (get-one-more s.ended from there.0 i there.1);
        terminal = λ i key before there is kept. by_terminal there.0 i key before (get-one-more s.ended from there.0 i there.1) is kept;
        all = λ i key before less is kept terminal. by_all i key before less is kept terminal (cases_lt i from);
      }
    where
      again : (before : List ℕ) → LeadsToFound program s before → LeadsToFound program with_ended before
      again before led =
          record {
            steps = led.steps;
            are_pure = led.are_pure;
            found = record { number = led.found.number; key = led.found.key; numbered = led.found.numbered; kept = led.found.kept };
          }

      by_ended : (k i : ℕ) → (slice_get s.ended k ≡ Some i) ⊎ ((k ≡ length s.ended) × (from ≡ i)) → i < from + 1
      by_ended k i (inl was) = let less = expanded.ended i (k, was) in omega arith
      by_ended k i (inr new) = let here = new.1 in omega arith

      by_terminal : (k i : ℕ) (key before : List ℕ) → (slice_get s.ended k ≡ Some i) ⊎ ((k ≡ length s.ended) × (from ≡ i))
          → slice_get s.states i ≡ Some key → IsKept program s.cells before key → IsTerminal program (run program before)
      by_terminal k i key before (inl was) is kept = expanded.terminal i key before (k, was) is kept
      by_terminal k i key before (inr new) is kept =
          tried.none refl before (machine_of key before (ap (slice_get s.states) new.1 ∙ is) kept)

      by_all : (i : ℕ) (key before : List ℕ) → i < from + 1 → slice_get s.states i ≡ Some key
          → IsKept program s.cells before key → IsTerminal program (run program before) → (i < from) ⊎ (from ≤ i) → IsEnded with_ended i
      by_all i key before less is kept terminal (inl first) =
          let was = expanded.all i key before first is kept terminal in
          (was.0, at-front s.ended (from ∷ []) was.0 i was.1)
      by_all i key before less is kept terminal (inr last) =
          let here : from ≡ i = omega arith in
          (length s.ended, at-last s.ended from ∙ ap (λ j. Some j) here)
