-- How a run ends that no limit stops, and that of choices which all make steps, after which no process has one.
use Rattle.std.proofs.Common.{◌≡◌, ◌≢◌, ◌⊎◌, inl, inr, ℕ, ◌<◌, true, false, true≢false, List, [], ◌∷◌, ◌++◌, length, take}
use Rattle.std.proofs.Common.{Option}
use Rattle.std.proofs.Common.{Some, None, IsSome, is_some, refl, sym, ap, ◌∙◌, subst, arith, slice_get, if◌then◌else◌}
use Rattle.std.proofs.lemmas.List.{append-nil, length-take-le}
use Rattle.std.proofs.lemmas.Option.{none-some, same_Some, slice_get_past, slice_get_within}
use Rattle.hep_machine.specs.declared.event.Entry.{Entry}
use Rattle.hep_machine.specs.Words.{AreSteps, Units, is_held, last_process, layout_of, living}
use Rattle.hep_machine.specs.Words.{next_ready}
use Rattle.hep_machine.specs.Words.{opening, progress_after, ready_in, run, run_from, schedule_of, state_after}
use Rattle.hep_machine.specs.Layout.{placing_from}
use Rattle.hep_machine.proofs.Others.{dead_idle}
use Rattle.hep_machine.proofs.Replays.{legal_steps, steps_before}
use Rattle.hep_outcome.specs.Outcome.{IsChoiceRefused, IsHistory, IsOver, IsProgramOutcome, Outcome, first_choice, next_process}
use Rattle.hep_outcome.specs.Outcome.{outcome_of_end}
use Rattle.hep_outcome.specs.declared.options.Options.{Options}
use Rattle.hep_outcome.specs.declared.status.Status.TheVariants as statuses
use Rattle.hep_outcome.proofs.Schedules.{choice_is_next, next_is_chosen}
use Rattle.hep_replay.specs.ChoiceStop.{ChoiceStop}
use Rattle.hep_replay.specs.ChoiceStop.TheVariants.{ArenaFull, Halted, StepLimit}
use Rattle.hep_explore.specs.Endings.{IsTerminal, ending_of}
use Rattle.hep_explore.specs.Texts.{Shows}
use Rattle.hep_explore.proofs.Finished.{idle_after, legal_wait}
use Rattle.hep_explore.proofs.Outcomes.{EndsItself, IsOfEnd, none_first, none_ready, of_end}
use Rattle.hep_explore.proofs.Texts.{shows_halted, shows_over}
use Rattle.hep_explore.proofs.Turns.{by_halted}
use Rattle.hep_replay.proofs.ReplayTurns.{halted_stays}
use Rattle.hep_explore.proofs.MadeChoices.{EndsBefore, Follow, MakesAll, follows, idle}

-- a run that no limit stops: its history, why it is over, and that no process has a step then
pub record Ends (program : Units) (options : Options) (o : Outcome) : Type 0 where
  pub history : List Entry
  pub is : IsHistory program options history
  pub stop : Option ChoiceStop
  pub itself : EndsItself stop
  pub over : IsOver program options history stop
  pub terminal : IsTerminal program (state_after program history)
  pub shows : Shows program (ending_of program (state_after program history)) o

-- the frames of all steps have gaps in an arena of so many cells
abbrev pub HaveAllGaps : Units → ℕ → Type 0
HaveAllGaps program cells = (ps : List ℕ) → AreSteps program (opening program) ps → IsSome (layout_of program cells is_held ps)

module _ (program : Units) (options : Options) where
  -- where no process comes next, none is ready
  unready : (history : List Entry) → (state_after program history).halted ≡ false → next_process program options.choices history ≡ None
      → ready_in (progress_after program history) ≡ []
  unready history going none =
      let left = sym (next_is_chosen program options.choices history going) ∙ none in
      none_ready (last_process history) (ready_in (progress_after program history)) (
      none_first (slice_get options.choices (length history)) (next_ready program history) left)

  -- the run ends by itself
  ended : (o : Outcome) (history : List Entry) → IsHistory program options history → (stop : Option ChoiceStop) → EndsItself stop
      → IsOver program options history stop → o ≡ outcome_of_end false program options.arena history stop → Ends program options o
  ended o history is None itself over e =
      let none = unready history over.0 over.1 in
      let shows = shows_over program options.arena history (legal_wait program options.arena options.steps history is.legal) none over.0 in
      record {
        history = history;
        is = is;
        stop = None;
        itself = itself;
        over = over;
        terminal = idle_after program options.arena options.steps history is.legal (inr none);
        shows = subst (Shows program (ending_of program (state_after program history))) (sym e) shows;
      }
  ended o history is (Some Halted) itself over e =
      let shows = shows_halted program options.arena history over in
      record {
        history = history;
        is = is;
        stop = Some Halted;
        itself = itself;
        over = over;
        terminal = idle_after program options.arena options.steps history is.legal (inl over);
        shows = subst (Shows program (ending_of program (state_after program history))) (sym e) shows;
      }
  ended o history is (Some ArenaFull) itself over e = absurd itself
  ended o history is (Some StepLimit) itself over e = absurd itself

  -- ---- arenas that are large enough

  -- no run is over since its arena is full
  never_full : HaveAllGaps program options.arena → (history : List Entry) → IsHistory program options history
      → IsOver program options history (Some ArenaFull) → ⊥
  unfolding run
  never_full gaps history is (going, (less, p, next, full)) =
      let made = legal_steps program options.arena options.steps history is.legal in
      let all = steps_before program (opening program) (schedule_of history) (p ∷ []) made (full.stepped, tt) in
      true≢false (sym (gaps (schedule_of history ++ p ∷ []) all) ∙ ap is_some full.full)

  -- each outcome that no limit of the history and no refused choice cuts short is that of a run that ends by itself
  pub run_ends : HaveAllGaps program options.arena → (o : Outcome) → IsProgramOutcome false program options o
      → o.status ≢ statuses.StepLimit → o.status ≢ statuses.Usage → Ends program options o
  unfolding placing_from
  run_ends gaps o (inl full) unlimited accepted = absurd (true≢false (sym (gaps [] tt) ∙ ap is_some full.0))
  run_ends gaps o (inr (history, is, inl refused)) unlimited accepted = absurd (accepted (ap (λ (x : Outcome). x.status) refused.1))
  run_ends gaps o (inr (history, is, inr (None, over, e))) unlimited accepted = ended o history is None tt over e
  run_ends gaps o (inr (history, is, inr (Some Halted, over, e))) unlimited accepted = ended o history is (Some Halted) tt over e
  run_ends gaps o (inr (history, is, inr (Some ArenaFull, over, e))) unlimited accepted = absurd (never_full gaps history is over)
  run_ends gaps o (inr (history, is, inr (Some StepLimit, over, e))) unlimited accepted =
      absurd (unlimited (ap (λ (x : Outcome). x.status) e))

  -- ---- the run of choices that all make steps

  -- its entries follow them
  follow : (history : List Entry) → IsHistory program options history → Follow history options.choices
  follow history is k e here = (
    (is.scheduled k e here).1,
    λ p chosen. same p chosen (by_halted (state_after program (take k history))),
  ) where
    count : length (take k history) ≡ k
    count = length-take-le k history (let within : k < length history = slice_get_within history k e here in omega arith)

    same : (p : ℕ) → slice_get options.choices k ≡ Some p
        → ((state_after program (take k history)).halted ≡ true) ⊎ ((state_after program (take k history)).halted ≡ false) → e.process ≡ p
    same p chosen (inl halted) =
        absurd (none-some e.process (
        sym (
        ap (λ b. if b then None
        else first_choice (slice_get options.choices (length (take k history))) (next_ready program (take k history))) halted)
        ∙ (is.scheduled k e here).0))
    same p chosen (inr going) =
        same_Some e.process p (
        sym (is.scheduled k e here).0 ∙ choice_is_next program options.choices (take k history) k p going count chosen)

  -- it isn't over before they are made
  not_before : (o : Outcome) → (ends : Ends program options o) → EndsBefore program (opening program) ends.history options.choices → ⊥
  unfolding state_after run
  not_before o ends short = by_stop ends.stop ends.itself ends.over (by_halted (state_after program ends.history)) where
    by_stop : (stop : Option ChoiceStop) → EndsItself stop → IsOver program options ends.history stop
        → ((state_after program ends.history).halted ≡ true) ⊎ ((state_after program ends.history).halted ≡ false) → ⊥
    by_stop stop itself over (inl halted) = short.stepped (halted_stays program short.next (state_after program ends.history) halted)
    by_stop None itself over (inr going) =
        none-some short.next (
        sym over.1 ∙ choice_is_next program options.choices ends.history (length ends.history) short.next going refl short.is_next)
    by_stop (Some Halted) itself over (inr going) = true≢false (sym over ∙ going)
    by_stop (Some ArenaFull) itself over (inr going) = itself
    by_stop (Some StepLimit) itself over (inr going) = itself

  -- where no process has a step after them, the run ends in the state to which they lead
  pub same_state : (o : Outcome) → (ends : Ends program options o) → AreSteps program (opening program) options.choices
      → IsTerminal program (run program options.choices) → state_after program ends.history ≡ run program options.choices
  unfolding state_after run
  same_state o ends made terminal =
      by_case (follows program options.choices ends.history (opening program) ends.is.legal.entries (follow ends.history ends.is) made)
    where
      by_case : MakesAll program (opening program) ends.history options.choices
          ⊎ EndsBefore program (opening program) ends.history options.choices
          → state_after program ends.history ≡ run program options.choices
      by_case (inl all) =
          let none : schedule_of all.rest ≡ [] = idle program all.rest (run program options.choices) terminal all.entries in
          ap (run_from program (opening program)) (
          all.turns ∙ (ap (λ qs. options.choices ++ qs) none ∙ append-nil options.choices))
      by_case (inr short) = absurd (not_before o ends short)

  -- and it shows how they end
  pub choices_shown : HaveAllGaps program options.arena → (o : Outcome) → IsProgramOutcome false program options o
      → o.status ≢ statuses.StepLimit → o.status ≢ statuses.Usage → AreSteps program (opening program) options.choices
      → IsTerminal program (run program options.choices)
      → Shows program (ending_of program (run program options.choices)) o
  choices_shown gaps o outcome unlimited accepted made terminal =
      let ends = run_ends gaps o outcome unlimited accepted in
      subst (λ s. Shows program (ending_of program s) o) (same_state o ends made terminal) ends.shows

  -- ---- nothing cuts such a run short

  -- no choice of it is refused
  not_refused : (history : List Entry) → IsHistory program options history → AreSteps program (opening program) options.choices
      → IsChoiceRefused program options history → ⊥
  unfolding state_after run
  not_refused history is made (going, p, here, none) =
      by_case (follows program options.choices history (opening program) is.legal.entries (follow history is) made)
    where
      by_case : MakesAll program (opening program) history options.choices ⊎ EndsBefore program (opening program) history options.choices
          → ⊥
      by_case (inl all) =
          let count = all.count in
          none-some p (sym (slice_get_past options.choices (length history) (omega arith)) ∙ here)
      by_case (inr short) =
          let same : p ≡ short.next = same_Some p short.next (sym here ∙ short.is_next) in
          short.stepped (
          dead_idle program short.next (state_after program history) (ap (living (state_after program history)) (sym same) ∙ none))

  -- nor is its history full, if it has fewer entries than it may have
  over_uncut : (o : Outcome) (history : List Entry) → IsHistory program options history → length o.history < options.steps
      → (stop : Option ChoiceStop) → IsOver program options history stop → o ≡ outcome_of_end false program options.arena history stop
      → IsOfEnd o.status ⊎ (o.status ≡ statuses.ArenaFull)
  over_uncut o history is few None over e =
      let ends = ended o history is None tt over e in
      let ending = ending_of program (state_after program ends.history) in
      inl (subst IsOfEnd (sym ends.shows.status) (of_end ending.faults ending.blocked))
  over_uncut o history is few (Some Halted) over e =
      let ends = ended o history is (Some Halted) tt over e in
      let ending = ending_of program (state_after program ends.history) in
      inl (subst IsOfEnd (sym ends.shows.status) (of_end ending.faults ending.blocked))
  over_uncut o history is few (Some ArenaFull) over e = inr (ap (λ (x : Outcome). x.status) e)
  over_uncut o history is few (Some StepLimit) over e =
      let same = ap (λ (x : Outcome). length x.history) e in
      let full = over.0 in
      absurd (omega arith)

  outcome_uncut : (o : Outcome) → IsProgramOutcome false program options o → AreSteps program (opening program) options.choices
      → length o.history < options.steps → IsOfEnd o.status ⊎ (o.status ≡ statuses.ArenaFull)
  outcome_uncut o (inl full) made few = inr (ap (λ (x : Outcome). x.status) full.1)
  outcome_uncut o (inr (history, is, inl refused)) made few = absurd (not_refused history is made refused.0)
  outcome_uncut o (inr (history, is, inr (stop, over, e))) made few = over_uncut o history is few stop over e

  pub uncut : (o : Outcome) → IsProgramOutcome false program options o → AreSteps program (opening program) options.choices
      → length o.history < options.steps → (o.status ≢ statuses.StepLimit) × (o.status ≢ statuses.Usage)
  uncut o outcome made few = by (outcome_uncut o outcome made few) where
    by : IsOfEnd o.status ⊎ (o.status ≡ statuses.ArenaFull) → (o.status ≢ statuses.StepLimit) × (o.status ≢ statuses.Usage)
    by (inl end) = (λ e. subst IsOfEnd e end, λ e. subst IsOfEnd e end)
    by (inr full) = (λ e. (let f = sym full ∙ e in absurd cc), λ e. (let f = sym full ∙ e in absurd cc))
