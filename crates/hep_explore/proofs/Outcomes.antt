-- The outcomes of runs that are over, and the run that shows an ending.
use Rattle.std.proofs.Common.{◌≡◌, ◌≢◌, ◌⊎◌, inl, inr, ℕ, zero, suc, ◌<◌, ◌≤◌, Bool, true, false, true≢false, nat_lt, if◌then◌else◌, List}
use Rattle.std.proofs.Common.{[], ◌∷◌, map, take, length, Option, Some, None, refl, sym, ap, ◌∙◌, subst, arith, slice_get}
use Rattle.std.proofs.lemmas.List.{length-map, length-take-le}
use Rattle.std.proofs.lemmas.Option.{same_Some, slice_get-map, slice_get_past, slice_get_within}
use Rattle.std.specs.Option.{option_map}
use Rattle.hep_machine.specs.declared.event.Entry.{Entry}
use Rattle.hep_machine.specs.declared.event.Fault.{Fault}
use Rattle.hep_machine.specs.Words.{IsLegal, State, Units, first_above, last_process, next_of_ready, next_ready, opening, progress_after}
use Rattle.hep_machine.specs.Words.{ready_in, run, run_from, schedule_of, schedule_of_entry, state_after}
use Rattle.hep_machine.proofs.Replays.{run_after}
use Rattle.hep_core.specs.declared.stop.ChoiceStop.{ChoiceStop}
use Rattle.hep_core.specs.declared.stop.ChoiceStop.TheVariants.{ArenaFull, Halted, StepLimit}
use Rattle.hep_outcome.specs.Outcome.{IsChoiceRefused, IsHistory, IsOver, IsProgramOutcome, IsScheduled, Outcome}
use Rattle.hep_outcome.specs.Outcome.{first_choice, next_process, outcome_of_end, outcome_of_refused_choice}
use Rattle.hep_outcome.specs.declared.options.Options.{Options}
use Rattle.hep_outcome.specs.declared.status.Status.{Status}
use Rattle.hep_outcome.specs.declared.status.Status.TheVariants as statuses
use Rattle.hep_outcome.proofs.Schedules.{choice_is_next, next_is_chosen}
use Rattle.hep_explore.specs.Endings.{Blocked, Ending, IsEndingWithin, ending_of}
use Rattle.hep_explore.proofs.Turns.{by_halted}
use Rattle.hep_explore.specs.Finished.{IsFinished, IsSerial, IsSerialFrom}
use Rattle.hep_explore.specs.Possible.{IsPossible}
use Rattle.hep_explore.specs.Texts.{Shows, status_by_blocked}
use Rattle.hep_explore.proofs.Finished.{finished_ends, has_history, legal_wait}
use Rattle.hep_explore.proofs.Texts.{shows_halted, shows_over}

-- ---- who comes next

-- of a ready process there is a next one
above_some : (n p : ℕ) (ps : List ℕ) → first_above n ps (Some p) ≢ None
above_some n p [] e = absurd cc
above_some n p (q ∷ ps) e = by_place (nat_lt n q) (above_some n p ps) e where
  by_place : (b : Bool) → first_above n ps (Some p) ≢ None → (if b then Some q else first_above n ps (Some p)) ≢ None
  by_place true rest f = absurd cc
  by_place false rest f = rest f

-- where no process comes next by itself, none is ready
pub none_ready : (n : ℕ) (ready : List ℕ) → next_of_ready n ready ≡ None → ready ≡ []
none_ready n [] e = refl
none_ready n (p ∷ ps) e = absurd (above_some n p (p ∷ ps) e)

-- where no process comes next, none does by itself
pub none_first : (o ready : Option ℕ) → first_choice o ready ≡ None → ready ≡ None
none_first None ready e = e
none_first (Some p) ready e = absurd cc

-- ---- the outcome of a run that no limit stops

-- a run is over by itself
abbrev pub EndsItself : Option ChoiceStop → Type 0
EndsItself None = Unit {0}
EndsItself (Some Halted) = Unit {0}
EndsItself (Some ArenaFull) = ⊥
EndsItself (Some StepLimit) = ⊥

module _ (program : Units) (options : Options) (history : List Entry) where
  -- the ending that it shows
  shown : (stop : Option ChoiceStop) → IsLegal program options.arena options.steps history → EndsItself stop
      → IsOver program options history stop
      → (e : Ending) × IsEndingWithin program options.arena e × Shows program e (outcome_of_end false program options.arena history stop)
  shown None legal itself over =
      let left = sym (next_is_chosen program options.choices history over.0) ∙ over.1 in
      let unready = none_first (slice_get options.choices (length history)) (next_ready program history) left in
      let none = none_ready (last_process history) (ready_in (progress_after program history)) unready in (
        ending_of program (state_after program history),
        finished_ends program options.arena options.steps history legal (inr none),
        shows_over program options.arena history (legal_wait program options.arena options.steps history legal) none over.0,
      )
  shown (Some Halted) legal itself over = (
    ending_of program (state_after program history),
    finished_ends program options.arena options.steps history legal (inl over),
    shows_halted program options.arena history over,
  )
  shown (Some ArenaFull) legal itself over = absurd itself
  shown (Some StepLimit) legal itself over = absurd itself

-- an outcome that is possible shows an ending, unless the arena was full
pub possible_shows : (program : Units) (cells : ℕ) (o : Outcome) → IsPossible program cells o → o.status ≢ statuses.ArenaFull
    → (e : Ending) × IsEndingWithin program cells e × Shows program e o
possible_shows program cells o possible room = by_outcome possible.outcome where
  found : (history : List Entry) → IsHistory program possible.options history → (stop : Option ChoiceStop) → EndsItself stop
      → IsOver program possible.options history stop
      → o ≡ outcome_of_end false program possible.options.arena history stop
      → (e : Ending) × IsEndingWithin program cells e × Shows program e o
  found history is stop itself over e =
      let end = shown program possible.options history stop is.legal itself over in
      (end.0, subst (λ n. IsEndingWithin program n end.0) possible.arena end.1, subst (Shows program end.0) (sym e) end.2)

  by_stop : (history : List Entry) → IsHistory program possible.options history → (stop : Option ChoiceStop)
      → IsOver program possible.options history stop
      → o ≡ outcome_of_end false program possible.options.arena history stop
      → (e : Ending) × IsEndingWithin program cells e × Shows program e o
  by_stop history is None over e = found history is None tt over e
  by_stop history is (Some Halted) over e = found history is (Some Halted) tt over e
  by_stop history is (Some ArenaFull) over e = absurd (room (ap (λ (x : Outcome). x.status) e))
  by_stop history is (Some StepLimit) over e = absurd (possible.unlimited (ap (λ (x : Outcome). x.status) e))

  by_outcome : IsProgramOutcome false program possible.options o → (e : Ending) × IsEndingWithin program cells e × Shows program e o
  by_outcome (inl full) = absurd (room (ap (λ (x : Outcome). x.status) full.1))
  by_outcome (inr run) = by_end run.2 where
    by_end : (IsChoiceRefused program possible.options run.0 × (o ≡ outcome_of_refused_choice run.0))
        ⊎ ((stop : Option ChoiceStop) × IsOver program possible.options run.0 stop
        × (o ≡ outcome_of_end false program possible.options.arena run.0 stop))
        → (e : Ending) × IsEndingWithin program cells e × Shows program e o
    by_end (inl refused) = absurd (possible.accepted (ap (λ (x : Outcome). x.status) refused.1))
    by_end (inr end) = by_stop run.0 run.1 end.0 end.1 end.2

-- ---- the run that shows an ending

-- the state before an entry isn't halted
serial_at : (program : Units) (es : List Entry) (s : State) (k : ℕ) (e : Entry) → IsSerialFrom program s es → slice_get es k ≡ Some e
    → ((run_from program s (schedule_of (take k es))).halted ≡ false) × (e.steps ≤ 1)
unfolding run_from schedule_of
serial_at program [] s k e serial here = absurd cc
serial_at program (x ∷ es) s zero e serial here = (serial.0, subst (λ (y : Entry). y.steps ≤ 1) (same_Some x e here) serial.1)
serial_at program (x ∷ es) s (suc k) e serial here =
    let rest = serial_at program es (run_from program s (schedule_of_entry x)) k e serial.2 here in
    (ap (λ (t : State). t.halted) (run_after program s (schedule_of_entry x) (schedule_of (take k es))) ∙ rest.0, rest.1)

-- the choices of a history
chosen : List Entry → List ℕ
chosen history = map (λ (e : Entry). e.process) history

-- each entry is of the process that comes next by the choices of the history
scheduled : (program : Units) (history : List Entry) → IsSerial program history → IsScheduled program (chosen history) history
unfolding state_after run chosen
scheduled program history serial k e here =
    let at = serial_at program history (opening program) k e serial here in
    let within : k < length history = slice_get_within history k e here in
    let count : length (take k history) ≡ k = length-take-le k history (omega arith) in
    let choice = slice_get-map (λ (x : Entry). x.process) history k ∙ ap (option_map (λ (x : Entry). x.process)) here in
    (choice_is_next program (chosen history) (take k history) k e.process at.0 count choice, at.1)

-- there are as many
all_chosen : (history : List Entry) → length (chosen history) ≤ length history
unfolding chosen
all_chosen history =
    let same : length (map (λ (e : Entry). e.process) history) ≡ length history = simp length-map in
    omega arith

-- and after it none comes next
none_next : (program : Units) (history : List Entry) → (state_after program history).halted ≡ false
    → ready_in (progress_after program history) ≡ [] → next_process program (chosen history) history ≡ None
unfolding chosen
none_next program history going none =
    next_is_chosen program (chosen history) history going
    ∙ ap (λ o. first_choice o (next_ready program history)) (slice_get_past (chosen history) (length history) (all_chosen history))
    ∙ ap (next_of_ready (last_process history)) none

-- done, or all that live wait, or a process ended by a fault
abbrev pub IsOfEnd : Status → Type 0
IsOfEnd statuses.Done = Unit {0}
IsOfEnd statuses.Waiting = Unit {0}
IsOfEnd statuses.Faulted = Unit {0}
IsOfEnd _ = ⊥

-- an ending has one of these statuses
pub of_end : (faults : List Fault) (blocked : List Blocked) → IsOfEnd (status_by_blocked faults blocked)
of_end [] [] = tt
of_end (f ∷ fs) [] = tt
of_end [] (b ∷ bs) = tt
of_end (f ∷ fs) (b ∷ bs) = tt

module _ (program : Units) (cells : ℕ) (some : 1 ≤ cells) (few : cells ≤ 16777216) (history : List Entry)
    (legal : IsLegal program cells (length history) history)
    (serial : IsSerial program history) where
  options : Options
  options = record { arena = cells; steps = length history; choices = chosen history; some = some; few = few }

  -- the outcome of these choices
  abbrev outcome_by : Option ChoiceStop → Outcome
  outcome_by stop = outcome_of_end false program cells history stop

  -- it is possible
  possible : (stop : Option ChoiceStop) (e : Ending) → IsOver program options history stop → Shows program e (outcome_by stop)
      → IsPossible program cells (outcome_by stop)
  unfolding options
  possible stop e over shows =
      let is : IsOfEnd (outcome_by stop).status = subst IsOfEnd (sym shows.status) (of_end e.faults e.blocked) in
      record {
        options = options;
        arena = refl;
        outcome = inr (history, record { legal = legal; scheduled = scheduled program history serial }, inr (stop, over, refl));
        unlimited = λ limited. subst IsOfEnd limited is;
        accepted = λ refused. subst IsOfEnd refused is;
      }

  -- and it shows how the history ends
  outcome : IsFinished program history
      → (o : Outcome) × IsPossible program cells o × Shows program (ending_of program (state_after program history)) o
  unfolding options
  outcome finished = by_end (by_halted (state_after program history)) finished where
    by_end : ((state_after program history).halted ≡ true) ⊎ ((state_after program history).halted ≡ false) → IsFinished program history
        → (o : Outcome) × IsPossible program cells o × Shows program (ending_of program (state_after program history)) o
    by_end (inl halted) over =
        let shows = shows_halted program cells history halted in
        (outcome_by (Some Halted), possible (Some Halted) (ending_of program (state_after program history)) halted shows, shows)
    by_end (inr going) (inl halted) = absurd (true≢false (sym halted ∙ going))
    by_end (inr going) (inr none) =
        let shows = shows_over program cells history (legal_wait program cells (length history) history legal) none going in
        let over : IsOver program options history None = (going, none_next program history going none) in
        (outcome_by None, possible None (ending_of program (state_after program history)) over shows, shows)

-- each ending is shown by an outcome that is possible
pub shown_possible : (program : Units) (cells : ℕ) → 1 ≤ cells → cells ≤ 16777216 → (e : Ending) → IsEndingWithin program cells e
    → (o : Outcome) × IsPossible program cells o × Shows program e o
shown_possible program cells some few e within =
    let run = has_history program cells e within in
    let found = outcome program cells some few run.0 run.1 run.2 run.3 in
    (found.0, found.1, subst (λ end. Shows program end found.0) (sym run.4) found.2)
