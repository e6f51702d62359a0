-- Where each step of each state was made, no outcome is possible but those that are listed.
use Rattle.std.proofs.Common.{◌≡◌, ◌≢◌, ◌⊎◌, inl, inr, ℕ, ◌<◌, ◌≤◌, Bool, true, false, true≢false, List, [], ◌∷◌, ◌++◌, length, Some, None}
use Rattle.std.proofs.Common.{IsSome, is_some, refl, sym, ap, ◌∙◌, subst, arith, slice_get}
use Rattle.std.proofs.lemmas.Option.{same_Some, slice_get_within}
use Rattle.hep_machine.specs.Words.{AreSteps, Units, is_held, layout_of, opening, opening_layout, run, run_from, schedule_of, state_after}
use Rattle.hep_machine.specs.Words.{step}
use Rattle.hep_machine.specs.Layout.{placing_from}
use Rattle.hep_replay.proofs.ReplayTurns.{halted_stays}
use Rattle.hep_outcome.specs.Outcome.{IsProgramOutcome, Outcome, outcome_of_full_arena}
use Rattle.hep_outcome.specs.declared.options.Options.{Options}
use Rattle.hep_outcome.specs.Statuses.{status_code}
use Rattle.hep_explore.specs.Endings.{Ending, IsTerminal, ending_of}
use Rattle.hep_explore.specs.Explored.{Found, IsExplored, IsFoundOf}
use Rattle.hep_explore.specs.Possible.{IsPossible}
use Rattle.hep_explore.specs.Texts.{Shows}
use Rattle.hep_explore.proofs.LargerArenas.{none_stays, same_layout}
use Rattle.hep_advance.proofs.RunsToBreakpoint.{run-on}
use Rattle.hep_state.specs.KeptStates.{Shows as Shown}
use Rattle.hep_state.specs.Words.{IsAfter, Snapshot}
use Rattle.hep_explore.specs.FoundOutcomes.{AreListed, AreOutcomes, IsListed}
use Rattle.hep_explore.specs.CountedStates.{EndsAlikeAmong, IsCutBy, LeadsAmong}
use Rattle.hep_explore.specs.Searching.{AreAlikeByKeys, AreExpanded, IsDone, IsEnded, IsFound, IsFullPath, IsKept, IsSearch, IsSearchWithin}
use Rattle.hep_explore.specs.Searching.{IsWhole, Known}
use Rattle.hep_explore.specs.Pure.{is_pure}
use Rattle.hep_explore.proofs.Kept.{LeadsTo, endings_are_kept}
use Rattle.hep_explore.proofs.PlacedAlong.{IsPlacedIn, Placed, halted_after_all, layout_after_all, opening_placed, placed_after}
use Rattle.hep_explore.proofs.PlacedAlong.{placed_along, placed_of}
use Rattle.hep_explore.proofs.Pure.{pure_are_independent}
use Rattle.hep_explore.proofs.Reached.{Arrives, arrives, left_along}
use Rattle.hep_explore.proofs.Turns.{opening_reachable}
use Rattle.hep_explore.proofs.RunEnds.{HaveAllGaps, choices_shown, run_ends}

-- all states of one machine end alike
abbrev pub EndAlike : Units → Type 0
EndAlike program =
    (cells : ℕ) (before after : List ℕ) (m : Snapshot) → IsAfter program cells before m → IsAfter program cells after m
    → ending_of program (run program before) ≡ ending_of program (run program after)

-- outcomes that show one ending have the same status and lines
found_alike : (program : Units) (e : Ending) (a b : Outcome) (found : Found) → Shows program e a → Shows program e b → IsFoundOf a found
    → IsFoundOf b found
found_alike program e a b found first second is =
    let output : a.output ≡ b.output = first.output ∙ sym second.output in
    let messages : a.messages ≡ b.messages = first.messages ∙ sym second.messages in
    record {
      status = is.status ∙ ap status_code (first.status ∙ sym second.status);
      lines = is.lines ∙ (ap (λ os. os ++ a.messages) output ∙ ap (λ ms. b.output ++ ms) messages);
    }

module _ (program : Units) (s : Known) (search : IsSearch program s) (expanded : AreExpanded program s.expanded s) (whole : IsWhole s)
    (done : s.queue ≡ []) where
  -- each state is expanded
  is_expanded : (i : ℕ) → i < length s.states → i < s.expanded
  is_expanded i less =
      let none = ap length done in
      let count = search.counted in
      omega arith

  -- what is kept for choices is the state that was found
  abbrev Finds : List ℕ → Unit {0} → Type 0
  Finds choices m = IsFound program s choices

  opening_found : IsFound program s []
  opening_found = record { number = 0; key = search.opening; numbered = search.opening_is; kept = search.begins }

  -- each step of a state that was found leads to one, with pure steps after it
  goes_on : (m : Unit {0}) (before : List ℕ) (p : ℕ) → Finds before m → step program p (run program before) ≢ None
      → LeadsTo program (is_pure program) (Unit {0}) Finds (before ++ p ∷ [])
  goes_on m before p found some =
      let less = is_expanded found.number (slice_get_within s.states found.number found.key found.numbered) in
      let led = expanded.closed whole found.number p found.key before less found.numbered found.kept some in
      record { steps = led.steps; are_independent = led.are_pure; kept = tt; is_kept = led.found }

  -- so all steps lead to one, up to pure steps
  abbrev FindsAfter : List ℕ → Type 0
  FindsAfter =
      Arrives program (is_pure program) (pure_are_independent program) Placed IsPlacedIn (placed_after program s.cells) (
      placed_along program s.cells) (Unit {0}) Finds goes_on []

  found_after : (ps : List ℕ) → AreSteps program (opening program) ps → FindsAfter ps
  unfolding run run_from
  found_after ps made =
      arrives program (is_pure program) (pure_are_independent program) Placed IsPlacedIn (placed_after program s.cells) (
      placed_along program s.cells) (Unit {0}) Finds goes_on ps [] tt opening_found made

  -- the layout after them is that of the choices for which it was found, and a STOP was made by both or by none
  module _ (ps : List ℕ) (found : FindsAfter ps) where
    abbrev begin : Placed
    begin = placed_of program s.cells (opening program)

    same_layouts : layout_of program s.cells is_held ps ≡ layout_of program s.cells is_held found.turns
    unfolding run run_from
    same_layouts =
        sym (layout_after_all program s.cells ps (opening program) begin)
        ∙ ap (λ (x : Placed). x.0) (found.meets.same begin (opening_placed program s.cells))
        ∙ layout_after_all program s.cells found.turns (opening program) begin

    same_halted : (run program ps).halted ≡ (run program found.turns).halted
    unfolding run run_from
    same_halted =
        sym (halted_after_all program s.cells ps (opening program) begin refl)
        ∙ ap (λ (x : Placed). x.1) (found.meets.same begin (opening_placed program s.cells))
        ∙ halted_after_all program s.cells found.turns (opening program) begin refl

  -- however the program ends, a state that was found does
  ends_found : (ps : List ℕ) → IsTerminal program (run program ps)
      → (before : List ℕ) × IsFound program s before × IsTerminal program (run program before)
      × (ending_of program (run program ps) ≡ ending_of program (run program before))
  ends_found ps terminal =
      let begins : LeadsTo program (is_pure program) (Unit {0}) Finds [] =
      record { steps = []; are_independent = tt; kept = tt; is_kept = opening_found }
      in
      let kept = endings_are_kept program (is_pure program) (pure_are_independent program) (Unit {0}) Finds begins goes_on (
      ending_of program (run program ps)) (run program ps, (ps, refl), terminal, refl)
      in
      (kept.1, kept.2, kept.3, kept.4)

  -- so one does after a STOP
  pub stopped_among : (ps : List ℕ) → (run program ps).halted ≡ true → EndsAlikeAmong program s.cells s.states ps
  stopped_among ps halted =
      let kept = ends_found ps (λ p. halted_stays program p (run program ps) halted) in
      let found = kept.1 in
      (kept.0, (found.number, found.key, found.numbered, found.kept), sym kept.3)

  -- after steps without a STOP pure steps lead to a state that was found
  pub leads_among : (ps : List ℕ) → AreSteps program (opening program) ps → (run program ps).halted ≡ false
      → LeadsAmong program s.cells s.states ps
  unfolding run run_from
  leads_among ps made going =
      let found = found_after ps made in
      let left = found.meets.left (sym (same_halted ps found) ∙ going) in
      let qs : List ℕ = left.0 in
      let kept = found.is_kept.kept in
      let there : run program found.turns ≡ run program (ps ++ qs) = sym (run-on program ps qs ∙ left.2) in
      let begin : Placed = placed_of program s.cells (opening program) in
      let placed = opening_placed program s.cells in
      let same =
      left_along program (is_pure program) (pure_are_independent program) Placed IsPlacedIn (placed_after program s.cells) (
      placed_along program s.cells) ps qs (opening program) begin (opening_reachable program) made placed left.1
      in
      let laid : layout_of program s.cells is_held (ps ++ qs) ≡ layout_of program s.cells is_held ps =
      sym (layout_after_all program s.cells (ps ++ qs) (opening program) begin)
      ∙ ap (λ (x : Placed). x.0) same
      ∙ layout_after_all program s.cells ps (opening program) begin
      in
      record {
        steps = qs;
        are_pure = left.1;
        among = (
          found.is_kept.number,
          found.is_kept.key,
          found.is_kept.numbered,
          record {
            machine = kept.machine;
            is_key = kept.is_key;
            after = record {
              layout = kept.after.layout;
              laid = laid ∙ same_layouts ps found ∙ kept.after.laid;
              size = kept.after.size;
              shows = subst (λ t. Shown program t kept.after.layout kept.machine) there kept.after.shows;
            };
          },
        );
      }

  -- so each frame has a gap, also in a larger arena
  pub have_gaps : (cells : ℕ) → s.cells ≤ cells → HaveAllGaps program cells
  have_gaps cells le ps made =
      let found = found_after ps made in
      let after = found.is_kept.kept.after in
      ap is_some (same_layout program s.cells cells le ps after.layout (same_layouts ps found ∙ after.laid))

  module _ (cells : ℕ) (le : s.cells ≤ cells) (alike : AreAlikeByKeys program) (end_alike : EndAlike program) (all : List Found)
      (listed : AreListed program cells s (length s.ended) all) (o : Outcome) (possible : IsPossible program cells o) where
    gaps_of : (n : ℕ) → n ≡ cells → HaveAllGaps program n
    gaps_of n e = subst (HaveAllGaps program) (sym e) (have_gaps cells le)

    -- an outcome of steps that lead to the state in which it ends is listed
    by_listed : (ps : List ℕ) → Shows program (ending_of program (run program ps)) o → (i : ℕ) (key : List ℕ)
        → slice_get s.states i ≡ Some key → IsKept program s.cells ps key → IsEnded s i → IsListed program cells s i all
        → (j : ℕ) × (found : Found) × (slice_get all j ≡ Some found) × IsFoundOf o found
    unfolding run run_from
    by_listed ps shows i key is kept ended one =
        let same : one.path.key ≡ key = same_Some one.path.key key (sym one.path.numbered ∙ is) in
        let there : IsKept program s.cells one.choices key = subst (IsKept program s.cells one.choices) same one.path.kept in
        let after = alike s.cells one.choices ps key there.machine kept.machine there.is_key kept.is_key there.after kept.after in
        let terminal : IsTerminal program (run program one.choices) = expanded.terminal i key one.choices ended is there in
        let ends : ending_of program (run program ps) ≡ ending_of program (run program one.choices) =
        end_alike s.cells ps one.choices kept.machine kept.after after
        in
        let by = one.listed.possible.possible in
        let choices = one.listed.possible.by in
        let gaps = gaps_of by.options.arena by.arena in
        let shown = choices_shown program by.options gaps one.listed.outcome by.outcome by.unlimited by.accepted (
        subst (AreSteps program (opening program)) (sym choices) one.path.made) (
        subst (λ cs. IsTerminal program (run program cs)) (sym choices) terminal)
        in
        let other : Shows program (ending_of program (run program ps)) one.listed.outcome =
        subst (λ e. Shows program e one.listed.outcome) (ap (λ cs. ending_of program (run program cs)) choices ∙ sym ends) shown
        in
        let e : Ending = ending_of program (run program ps) in (
          one.listed.place,
          one.listed.found,
          one.listed.at,
          found_alike program e one.listed.outcome o one.listed.found other shows one.listed.is_found,
        )

    -- what is possible is listed
    pub is_listed : (j : ℕ) × (found : Found) × (slice_get all j ≡ Some found) × IsFoundOf o found
    unfolding state_after
    is_listed =
        let gaps = gaps_of possible.options.arena possible.arena in
        let ends = run_ends program possible.options gaps o possible.outcome possible.unlimited possible.accepted in
        let ps = schedule_of ends.history in
        let kept = ends_found ps ends.terminal in
        let found = kept.1 in
        let less = is_expanded found.number (slice_get_within s.states found.number found.key found.numbered) in
        let ended = expanded.all found.number found.key kept.0 less found.numbered found.kept kept.2 in
        let k = slice_get_within s.ended ended.0 found.number ended.1 in
        by_listed kept.0 (subst (λ e. Shows program e o) kept.3 ends.shows) found.number found.key found.numbered found.kept ended (
        listed ended.0 found.number k ended.1)

-- ---- what is explored

-- outcomes that are possible and differ, and among which each other one is where the search is complete, are what is explored
pub is_explored : (program : Units) (cells : ℕ) (all : List Found) (complete : Bool) → AreOutcomes program cells all
    → (complete ≡ true → (o : Outcome) → IsPossible program cells o
    → (j : ℕ) × (found : Found) × (slice_get all j ≡ Some found) × IsFoundOf o found)
    → IsExplored program cells all complete
is_explored program cells all complete outcomes no_other =
    record {
      possible = λ i found at. (let by = outcomes.each i found at in (by.outcome, by.possible, by.is_found));
      different = outcomes.different;
      no_other = no_other;
    }

-- a search in which each frame has its gap, or that goes on where one has none, has expanded all states
pub done_by : (until_full : Bool) (s : Known) → (until_full ≡ true → s.full ≡ None) → IsDone until_full s → s.queue ≡ []
done_by until_full s none (inl done) = done
done_by until_full s none (inr (ends, some)) = absurd (some (none ends))

-- what a search shows that has done what it can
module _ (program : Units) (cells most : ℕ) (s : Known) (within : IsSearchWithin program cells most s) where
  -- so it is of a search that is complete where each state is expanded and no step was left out
  pub search_explored : AreAlikeByKeys program → EndAlike program → (all : List Found) → AreOutcomes program cells all
      → AreListed program cells s (length s.ended) all → (complete : Bool) → (complete ≡ true → IsWhole s)
      → IsExplored program cells all complete
  search_explored alike end_alike all outcomes listed complete is_whole =
      is_explored program cells all complete outcomes (
      λ yes o possible.
      is_listed program s within.search within.expanded (is_whole yes) within.done cells within.within alike end_alike all listed
      o possible)

  -- and else it is known why it isn't
  pub search_cut : (s.full ≡ None) ⊎ ((choices : List ℕ) × IsFullPath program s.cells choices) → (s.full ≢ None) ⊎ (s.cut ≡ true)
      → IsCutBy program cells most (length s.states)
  search_cut stopped (inl full) = by_full within.full stopped where
    by_full : (s.full ≡ None) ⊎ (s.cells ≡ cells) → (s.full ≡ None) ⊎ ((choices : List ℕ) × IsFullPath program s.cells choices)
        → IsCutBy program cells most (length s.states)
    by_full (inl none) path = absurd (full none)
    by_full (inr same) (inl none) = absurd (full none)
    by_full (inr same) (inr path) = inr (path.0, subst (λ n. IsFullPath program n path.0) same path.1)
  search_cut stopped (inr left) = let enough = within.search.cut left in inl (omega (arith, within.bounded))

-- ---- a program that doesn't fit

module _ (program : Units) (cells : ℕ) (none : opening_layout program cells ≡ None) where
  -- where the main program's frame doesn't fit the arena, that is the only outcome
  only_full : (options : Options) (o : Outcome) → options.arena ≡ cells → IsProgramOutcome false program options o
      → o ≡ outcome_of_full_arena false program cells
  only_full options o arena (inl full) = full.1 ∙ ap (outcome_of_full_arena false program) arena
  only_full options o arena (inr run) =
      let ps = schedule_of run.0 in
      let room : is_some (layout_of program cells is_held ps) ≡ true =
      subst (λ n. IsSome (layout_of program n is_held ps)) arena run.1.legal.room
      in
      let unplaced : layout_of program cells is_held ps ≡ None =
      ap (λ l. (placing_from program cells is_held (record { state = opening program; layout = l }) ps).layout) none
      ∙ none_stays program cells cells (omega arith) ps (opening program)
      in
      absurd (true≢false (sym room ∙ ap is_some unplaced))

  -- it is listed
  pub full_is_listed : (all : List Found) → AreOutcomes program cells all → 0 < length all → (o : Outcome) → IsPossible program cells o
      → (j : ℕ) × (found : Found) × (slice_get all j ≡ Some found) × IsFoundOf o found
  full_is_listed [] outcomes some o possible = absurd (omega arith)
  full_is_listed (found ∷ all) outcomes some o possible =
      let one = outcomes.each 0 found refl in
      let by = one.possible.possible in
      let same : one.outcome ≡ o =
      only_full by.options one.outcome by.arena by.outcome ∙ sym (only_full possible.options o possible.arena possible.outcome)
      in
      (0, found, refl, subst (λ x. IsFoundOf x found) same one.is_found)
