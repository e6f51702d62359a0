-- A history that is made for an observer: before its first turn, at the start of the range, and after the last one.
use Rattle.std.proofs.Common.{◌≡◌, ℕ, ◌+◌, ◌≤◌, List, [], ◌++◌, drop, length, take, IsSome, refl, sym, ap, ◌∙◌, subst, arith, append-nil}
use Rattle.std.proofs.lemmas.List.{append_cancel_right, length-map, length-take, take-append-drop, take-take}
use Rattle.hep_advance.proofs.RunsToBreakpoint.{run-on}
use Rattle.hep_fast.specs.DecodedImages.{AreTables}
use Rattle.hep_fast.specs.declared.decoded_image.DecodedImage.{DecodedImage}
use Rattle.hep_layout.proofs.HeldFrames.{opening-is}
use Rattle.hep_machine.specs.declared.event.Entry.{Entry}
use Rattle.hep_machine.specs.Words.{AreSteps, State, Units, is_held, layout_of, opening, run, run_from, schedule_of}
use Rattle.hep_state.specs.Words.{IsMachineAfter}
use Rattle.hep_fold.specs.declared.history_range.HistoryRange.{HistoryRange}
use Rattle.hep_fold.specs.declared.replay_machine.ReplayMachine.{ReplayMachine}
use Rattle.hep_fold.specs.Folds.{CanBeMade, Folds, IsAtStart, IsFolding, KnowsBefore, entries_before, entries_until, replay_of, turns_within}
use Rattle.hep_fold.specs.Observers.{IsUnderWay, Replay}
use Rattle.hep_fold.specs.ReplayMachines.{made_by, most_turns}
use Rattle.hep_fold.specs.Turns.{processes, seen_along, turns_from}
use Rattle.hep_fold.proofs.Folding.{seen-none, steps-behind}
use Rattle.hep_fold.proofs.TurnRows.{processes-all, processes-append, turns-append}

-- a machine without entries has made no turn
none-made : (again : ReplayMachine) → again.history.items ≡ [] → made_by again ≡ []
unfolding schedule_of
none-made again begun = ap schedule_of begun

module _ (program : Units) (cells : ℕ) (range : HistoryRange) (can : CanBeMade program cells range) where
  abbrev items : List Entry
  items = range.history.now.items

  abbrev earlier : List (ℕ × ℕ)
  earlier = turns_from 1 (entries_before range)

  -- all turns are those before the range, and those in it
  all-turns : turns_from 1 (entries_until range) ≡ earlier ++ turns_within range
  all-turns =
      let first : take range.start (entries_until range) ≡ entries_before range = take-take range.start range.end items can.order in
      let number : 1 + length (take range.start (entries_until range)) ≡ range.start + 1 =
      omega (arith, length-take range.start (entries_until range), length-take range.end items, can.order, can.within) in
      ap (turns_from 1) (sym (take-append-drop range.start (entries_until range)))
      ∙ turns-append (take range.start (entries_until range)) (drop range.start (entries_until range)) 1
      ∙ (λ i. turns_from 1 (first i) ++ turns_from (number i) (drop range.start (entries_until range)))

  all-processes : processes (turns_from 1 (entries_until range)) ≡ schedule_of (entries_before range) ++ processes (turns_within range)
  all-processes =
      ap processes all-turns ∙ processes-append earlier (turns_within range)
      ∙ ap (λ ps. ps ++ processes (turns_within range)) (processes-all 1 (entries_before range))

  few-all : length (turns_from 1 (entries_until range)) ≤ most_turns
  few-all = omega (
    arith,
    can.few,
    length-map (turns_from 1 (entries_until range)) (λ (t : ℕ × ℕ). t.1),
    ap length (processes-all 1 (entries_until range)),
  )

  under-way-first : (again : ReplayMachine) → again.history.items ≡ [] → IsMachineAfter program cells [] again.machine
      → IsUnderWay program (replay_of cells range) (made_by again) (earlier ++ turns_within range) again.machine
  under-way-first again begun after =
      let none = none-made again begun in
      let start : run program (made_by again) ≡ opening program = ap (run program) none ∙ opening-is program in
      let same : schedule_of (entries_until range) ≡ processes (earlier ++ turns_within range) =
      sym (processes-all 1 (entries_until range)) ∙ ap processes all-turns in
      record {
        after = subst (λ ps. IsMachineAfter program cells ps again.machine) (sym none) after;
        turns = ap processes all-turns ∙ (λ i. sym none i ++ processes (earlier ++ turns_within range));
        steps = subst (λ (s : State). AreSteps program s (processes (earlier ++ turns_within range)))
            (sym start) (subst (AreSteps program (opening program)) same can.steps);
        laid = subst (λ ps. IsSome (layout_of program cells is_held ps)) (sym (processes-all 1 (entries_until range))) can.laid;
        few = few-all;
      }

  -- at the start of the range
  under-way-start : (again : ReplayMachine) → made_by again ≡ schedule_of (entries_before range)
      → IsMachineAfter program cells (made_by again) again.machine
      → IsUnderWay program (replay_of cells range) (made_by again) (turns_within range) again.machine
  under-way-start again made after =
      let ps = schedule_of (entries_before range) in
      let parts : schedule_of (entries_until range) ≡ ps ++ processes (turns_within range) =
      sym (processes-all 1 (entries_until range)) ∙ all-processes in
      let state : run_from program (opening program) ps ≡ run program (made_by again) =
      ap (λ (s : State). run_from program s ps) (sym (opening-is program)) ∙ sym (run-on program [] ps) ∙ ap (run program) (sym made) in
      record {
        after = after;
        turns = all-processes ∙ ap (λ qs. qs ++ processes (turns_within range)) (sym made);
        steps = subst (λ (s : State). AreSteps program s (processes (turns_within range))) state (
            steps-behind program (opening program) ps (processes (turns_within range))
            (subst (AreSteps program (opening program)) parts can.steps));
        laid = subst (λ qs. IsSome (layout_of program cells is_held qs)) (sym (processes-all 1 (entries_until range))) can.laid;
        few = few-all;
      }

  -- the turns before the range were made
  made-earlier : (again : ReplayMachine) → IsUnderWay program (replay_of cells range) (made_by again) (turns_within range) again.machine
      → made_by again ≡ schedule_of (entries_before range)
  made-earlier again h =
      append_cancel_right (made_by again) (schedule_of (entries_before range))
      (processes (turns_within range)) (sym h.turns ∙ all-processes)

  -- and all turns
  pub made-all : (again : ReplayMachine) → IsUnderWay program (replay_of cells range) (made_by again) [] again.machine
      → made_by again ≡ schedule_of (entries_until range)
  made-all again h = sym (append-nil (made_by again)) ∙ sym h.turns ∙ processes-all 1 (entries_until range)

module _ (tabled : DecodedImage) (cells : ℕ) (range : HistoryRange) (again : ReplayMachine) where
  -- a machine at the start of the range
  pub at-start : IsAtStart tabled cells range again
      → IsUnderWay tabled.image.now (replay_of cells range) (schedule_of (entries_before range)) (turns_within range) again.machine
  at-start h =
      subst (λ ps. IsUnderWay tabled.image.now (replay_of cells range) ps (turns_within range) again.machine) h.made (
      under-way-start tabled.image.now cells range h.possible again h.made h.after)

  -- one that was just opened
  pub opened-at-start : range.start ≡ 0 → CanBeMade tabled.image.now cells range → AreTables tabled.image.now tabled.tables.now
      → IsMachineAfter tabled.image.now cells [] again.machine → again.history.items ≡ [] → again.machine.made ≤ again.roster.room
      → IsAtStart tabled cells range again
  opened-at-start first can tables after begun room = record {
    tables = tables;
    possible = can;
    made = ap schedule_of begun ∙ ap (λ n. schedule_of (take n range.history.now.items)) (sym first);
    after = subst (λ ps. IsMachineAfter tabled.image.now cells ps again.machine) (sym (none-made again begun)) after;
    numbers = room;
  }

-- what is known after turns from a state, by what was known before them
abbrev pub total_of : {S : Type 0} → (Units → ℕ → ℕ → State → S → S) → Units → State → List (ℕ × ℕ) → S → S
total_of see program s left seen = seen_along program (see program) s left seen

module _ {O S : Type 0} (knows : Units → Replay → List ℕ → O → S → Type 0) (see : Units → ℕ → ℕ → State → S → S) (tabled : DecodedImage) (cells : ℕ) (range : HistoryRange)
    (can : CanBeMade tabled.image.now cells range) where
  abbrev program : Units
  program = tabled.image.now

  abbrev replay : Replay
  replay = replay_of cells range

  -- nothing was made
  pub folding-begins : (again : ReplayMachine) (o : O) (seen : S) → AreTables program tabled.tables.now → again.history.items ≡ []
      → IsMachineAfter program cells [] again.machine
      → again.machine.made ≤ again.roster.room → knows program replay (made_by again) o seen
      → IsFolding knows see tabled replay
      (total_of see program (run program (made_by again)) (turns_from 1 (entries_before range) ++ turns_within range) seen)
      (turns_from 1 (entries_before range) ++ turns_within range) again o
  folding-begins again o seen tables begun after room known = record {
    seen = seen;
    tables = tables;
    under_way = under-way-first program cells range can again begun after;
    numbers = room;
    known = known;
    so_far = refl;
  }

  -- those before the range were made
  pub folding-starts : (again : ReplayMachine) (o : O) (seen : S) → KnowsBefore knows tabled range again o cells seen
      → IsFolding knows see tabled replay
      (total_of see program (run program (schedule_of (entries_before range))) (turns_within range) seen)
      (turns_within range ++ []) again o
  folding-starts again o seen h =
      let total = total_of see program (run program (schedule_of (entries_before range))) (turns_within range) seen in
      subst (λ (ts : List (ℕ × ℕ)). IsFolding knows see tabled replay total ts again o) (sym (append-nil (turns_within range))) (
      record {
        seen = seen;
        tables = h.start.tables;
        under_way = under-way-start program cells range can again h.start.made h.start.after;
        numbers = h.start.numbers;
        known = subst (λ ps. knows program replay ps o seen) (sym h.start.made) h.known;
        so_far = ap (λ ps. total_of see program (run program ps) (turns_within range) seen) h.start.made;
      })

  -- a machine that was opened is at the start of the range after the turns before it
  pub start-reached : (old new : ReplayMachine) (o n : O) (seen : S) → AreTables program tabled.tables.now → old.history.items ≡ []
      → IsMachineAfter program cells [] old.machine → old.machine.made ≤ old.roster.room → knows program replay (made_by old) o seen
      → Folds knows see tabled (turns_from 1 (entries_before range)) old o [] new n → IsAtStart tabled cells range new
  start-reached old new o n seen tables begun after room known folds =
      let total = total_of see program (run program (made_by old)) (turns_from 1 (entries_before range) ++ turns_within range) seen in
      let h = folds replay total (turns_within range) (folding-begins old o seen tables begun after room known) in
      record {
        tables = h.tables;
        possible = can;
        made = made-earlier program cells range can new h.under_way;
        after = h.under_way.after;
        numbers = h.numbers;
      }

  -- all were made
  pub folding-ends : (total : S) (again : ReplayMachine) (o : O) → IsFolding knows see tabled replay total [] again o
      → knows program replay (schedule_of (entries_until range)) o total
  folding-ends total again o h =
      subst (λ seen. knows program replay (schedule_of (entries_until range)) o seen)
      (sym (seen-none program (see program) (run program (made_by again)) h.seen) ∙ h.so_far) (
      subst (λ ps. knows program replay ps o h.seen) (made-all program cells range can again h.under_way) h.known)
