-- What is observed of all turns of a history: the rows, and the names of its storage units and sites.
use Rattle.std.proofs.Common.{◌≡◌, ◌⊎◌, ℕ, ◌+◌, List, [], ◌∷◌, drop, length, take, refl, sym, ap, ◌∙◌, subst, arith}
use Rattle.hep_accesses.specs.Accesses.{same_site}
use Rattle.hep_accesses.specs.Detector.{rows_by_clocks, rows_from}
use Rattle.hep_accesses.specs.RunEvents.{Row, events_of}
use Rattle.hep_fold.proofs.TurnRows.{processes-all}
use Rattle.hep_fold.specs.Folds.{entries_before, entries_until, replay_of, turns_within}
use Rattle.hep_fold.specs.Turns.{seen_along, turns_from}
use Rattle.hep_fold.specs.declared.history_range.HistoryRange.{HistoryRange}
use Rattle.hep_layout.proofs.HeldFrames.{opening-is}
use Rattle.hep_machine.specs.declared.event.Entry.{Entry}
use Rattle.hep_machine.specs.Words.{AreSteps, State, Units, opening, run, same_location, schedule_of, state_after_turn}
use Rattle.hep_races.proofs.SerialStarts.{rows-observed}
use Rattle.hep_races.specs.ObservedRuns.{AreNoted, AreObserved, RunSteps, with_step}
use Rattle.hep_races.specs.RunNames.{run_names}
use Rattle.hep_races.specs.declared.race_observer.RaceObserver.{RaceObserver}

-- no entries have no choices
pub schedule-none : (es : List Entry) → schedule_of (take 0 es) ≡ []
unfolding schedule_of
schedule-none [] = refl
schedule-none (e ∷ es) = refl

-- what is left of a list, once nothing is left out
drop-none : {A : Type 0} (xs : List A) → drop 0 xs ≡ xs
drop-none [] = refl
drop-none (x ∷ xs) = refl

abbrev pub none_seen : RunSteps
none_seen = record { alone = 0; events = [] }

-- what is known of the steps in a range
abbrev pub steps_seen : Units → HistoryRange → RunSteps
steps_seen program range =
    seen_along program (λ entry. with_step program) (run program (schedule_of (entries_before range))) (turns_within range) none_seen

module _ (program : Units) (range : HistoryRange) (start : range.start ≡ 0) where
  abbrev all : List Entry
  all = entries_until range

  abbrev rows_of : RunSteps → List Row
  rows_of x = rows_from same_location same_site x.alone x.events

  -- they are all steps before its end
  all-seen : steps_seen program range ≡ seen_along program (λ entry. with_step program) (opening program) (turns_from 1 all) none_seen
  all-seen =
      let first : 0 + 1 ≡ 1 = omega arith in
      let items = range.history.now.items in
      (λ i. seen_along program (λ entry. with_step program) (run program (schedule_of (take (start i) items)))
      (turns_from (start i + 1) (drop (start i) all)) none_seen)
      ∙ (λ i. seen_along program (λ entry. with_step program) ((ap (run program) (schedule-none items) ∙ opening-is program) i)
      (turns_from (first i) (drop-none all i)) none_seen)

  -- the rows are those of the run
  pub rows-seen : ((p : ℕ) (s : State) → (length (state_after_turn program p s).processes ≡ length s.processes)
      ⊎ (length (state_after_turn program p s).processes ≡ length s.processes + 1))
      → AreSteps program (opening program) (schedule_of all)
      → rows_of (steps_seen program range) ≡ rows_by_clocks same_location same_site (events_of program (schedule_of all))
  rows-seen rise steps =
      let own = processes-all 1 all in
      ap rows_of all-seen
      ∙ rows-observed program rise (turns_from 1 all) (subst (AreSteps program (opening program)) (sym own) steps)
      ∙ ap (λ (ps : List ℕ). rows_by_clocks same_location same_site (events_of program ps)) own

-- the names are those of the state after them
pub seen-renamed : (program : Units) (cells : ℕ) (range : HistoryRange) (made : List ℕ) (o : RaceObserver) (x : RunSteps)
    (entries : List Entry) → entries_until range ≡ entries → (k : AreObserved program (replay_of cells range) made o x)
    → AreNoted (run_names program (run program (schedule_of entries)) o.sites) x.alone x.events k.noted
seen-renamed program cells range made o x entries all k =
    subst (λ (ps : List ℕ). AreNoted (run_names program (run program ps) o.sites) x.alone x.events k.noted)
    (processes-all 1 (entries_until range) ∙ ap schedule_of all) k.same
