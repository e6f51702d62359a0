-- A commit behind private steps: what is known of the machine on its way, and what of the core where nothing came of it.
use Rattle.std.proofs.Common.{◌≡◌, ◌≢◌, ◌⊎◌, ℕ, suc, ◌+◌, ◌-◌, ◌^◌, ◌<◌, ◌≤◌, ◌&&◌, ◌||◌, Bool, false, not, nat_eq, nat_lt, List, [], ◌∷◌, ◌++◌, length, Option, Some, None, is_some, refl, sym, ap, ◌∙◌, subst, arith}
use Rattle.hep_machine.specs.declared.event.Entry.{Entry}
use Rattle.hep_machine.specs.Histories.{most_steps}
use Rattle.hep_machine.specs.Words.{Layout, Progress, Units, is_held, is_number_among, layout_of, living, progress_after_step, run, schedule_of, step}
use Rattle.hep_cells.specs.declared.want.Want.{Want}
use Rattle.hep_blocked.specs.RosterUpdates.{AreListed, GoesAlongEmptying, HasEmptied, is_noted}
use Rattle.hep_blocked.specs.Rosters.{KeepsRoll, RosterValue, want_of}
use Rattle.hep_history.specs.Entries.{EntriesLeft}
use Rattle.hep_commit.specs.Going.{HasGone, MakesMoves}
use Rattle.hep_private.specs.declared.record.Record.{Record}
use Rattle.hep_proc.specs.Stacks.{stack_with}
use Rattle.hep_step.specs.PurgeEffects.{have_cell}
use Rattle.hep_commit.specs.Segments.{IsMadeFrom, SegmentValue, Start}
use Rattle.hep_state.specs.declared.core_state.CoreState.{CoreState}
use Rattle.hep_state.specs.declared.turn.TurnOutcome.{TurnOutcome}
use Rattle.hep_state.specs.declared.turn.TurnOutcome.TheVariants.{Stepped, Purged, Waits}
use Rattle.hep_state.specs.Words.{CanTurn, HasLevels, HasTurned, IsAfter, IsItsTurn, IsMachineAfter, IsSameButTop, LeavesOthers, Snapshot, snapshot_of}
use Rattle.hep_state.proofs.OtherProcesses.{beside-again, beside-with}
use Rattle.hep_commit.specs.declared.undo_log.UndoLog.{UndoLog}
use Rattle.hep_state.proofs.ProcessNumbers.{length-stacks}
use Rattle.hep_commit.specs.SegmentStarts.{snapshot_taken, start_in}
use Rattle.hep_commit.specs.OwnCells.{own_cells_of}
use Rattle.hep_commit.specs.UndoLogs.{UndoLogValue, saved_of, snapshot_restored}
use Rattle.hep_commit.specs.Application.{HasRestored, HasTakenIn}
use Rattle.hep_commit.proofs.AfterSegments.{AreAsBefore, levels-left, levels-taken, unit-left, unit-taken}
use Rattle.hep_views.specs.MachineViews.{machine_view}
use Rattle.hep_core.specs.Commits.{IsLeftOut, IsMadeBehind, IsTakenBy, core_after_return}
use Rattle.hep_core.specs.Invariant.{CoreInvariant, core_value}
use Rattle.hep_core.specs.CoreValues.{CoreValue, HasNoStop, IsStop}
use Rattle.hep_core.specs.Waking.{GoAlongTurn, HasRoomLeft, awake_after, is_woken_after}
use Rattle.hep_core.specs.declared.run_core.Core.TheInside.{Inside}
use Rattle.hep_core.specs.declared.stop.ChoiceStop.{ChoiceStop}
use Rattle.hep_core.specs.declared.stop.Turn.{Turn}
use Rattle.hep_core.proofs.GoodTickets.{AreSeen, IsNoWait, activations-are, as-many, emptied-to-lists, processes-are, unturned-kept, unturned-view}
use Rattle.hep_core.proofs.Committing.{IsSettledIn}
use Rattle.hep_core.proofs.Private.{few-now, kept-after}
use Rattle.hep_commit.proofs.Lists.{GoAlong}

-- ---- the machine, once the values ahead are operands

pub roll-same : (roll : RosterValue) → KeepsRoll roll roll
roll-same roll = record { grows = omega arith; ready = λ q. refl; waiting = λ q. refl; last = refl }

pub settled-room : (i : Inside) → CoreInvariant i → (p : ℕ) (m : CoreState) → IsSettledIn i p m → HasRoomLeft m i.roster
settled-room i k p m is = record { room = omega (arith, is.made, k.room.room); last = omega (arith, is.made, k.room.last) }

-- ---- the machine, once the private steps were made

pub record HasTakenSteps (i : Inside) (p n : ℕ) (m : CoreState) : Type 0 where
  pub turns : List ℕ
  pub gone : HasGone i.image i.cells p (schedule_of i.history.items) (suc n) turns
  pub kept : IsMachineAfter i.image i.cells turns m
  pub activations : m.activations ≡ i.machine.activations
  pub made : m.made ≡ i.machine.made
  pub running : m.halted ≡ false
  pub living : HasLevels (snapshot_of m) p
  pub others : LeavesOthers p (snapshot_of i.machine) (snapshot_of m)

pub taken-steps : (i : Inside) (k : CoreInvariant i) (s : SegmentValue) (before after : CoreState) (is : IsSettledIn i s.id.process before) → HasNoStop (core_value i) → (n : ℕ) → length s.records ≡ suc n
    → MakesMoves i.image s.id.process before (length s.records) after → after ≡ record before { frames = after.frames; processes = after.processes } → HasTakenIn s before after → HasTakenSteps i s.id.process n after
taken-steps i k s before after is going n many gone others taken =
    let h = i.history.items in
    let g = gone i.cells (schedule_of h) is.after in
    let same : before.activations ≡ i.machine.activations = activations-are i.image i.cells h (snapshot_of before) is.after.after ∙ sym (activations-are i.image i.cells h (snapshot_of i.machine) k.after.after) in
    record {
      turns = g.0;
      gone = subst (λ m. HasGone i.image i.cells s.id.process (schedule_of h) m g.0) many g.1;
      kept = g.2;
      activations = ap (λ (m : CoreState). m.activations) others ∙ same;
      made = ap (λ (m : CoreState). m.made) others ∙ is.made;
      running = ap (λ (m : CoreState). m.halted) others ∙ is.turn.running;
      living = subst (λ m. HasLevels m s.id.process) (sym (taken is.turn.living)) (levels-taken is.turn.living s);
      others =
          let p = s.id.process in
          let l = is.turn.living in
          let came = stack_with (record l.level { index = s.end_index }) l.below s.end_operands l.pending in
          beside-again p (snapshot_of i.machine) (snapshot_of before) (snapshot_of after) is.others (
          beside-with p (snapshot_of before) (snapshot_of after) (stack_with l.level l.below l.operands l.pending) came l.kept (ap (λ (m : Snapshot). m.processes) (taken l)));
    }

module _ (i : Inside) (p n : ℕ) (m : CoreState) (t : HasTakenSteps i p n m) where
  pub turn-behind : IsItsTurn i.image p m
  turn-behind = record { after = (i.cells, t.turns, t.kept); running = t.running; living = t.living }

-- ---- the core behind them

module _ (law : GoAlong) (i : Inside) (k : CoreInvariant i) (p n : ℕ) (m : CoreState) (t : HasTakenSteps i p n m) (lt : length i.history.items < i.limit) (few : suc n ≤ most_steps) (es : List Entry) (is : es ≡ i.history.items ++ record { process = p; steps = suc n } ∷ []) where
  abbrev back : CoreValue
  back = core_after_return (core_value i) p

  pub behind : IsMachineAfter i.image i.cells (schedule_of es) m
  behind = kept-after law i k p n t.turns t.gone lt few m t.kept t.activations t.made es is

  -- its next turn can be taken
  pub can-turn : (roster : RosterValue) → m.made ≤ roster.room → length es ≤ 2 ^ 63 → CanTurn i.image p m roster
  can-turn roster room short =
      let fewer = few-now law i k p n t.turns t.gone lt few m t.kept t.activations t.made es is in
      record {
        turn = record { after = (i.cells, schedule_of es, behind); running = t.running; living = t.living };
        countable = omega (arith, activations-are i.image i.cells es (snapshot_of m) behind.after, fewer.activations, short);
        numerable = omega (arith, processes-are i.image i.cells es (snapshot_of m) behind.after, length-stacks m.processes.items 1 m.made, fewer.processes, short);
        numbers = room;
      }

-- ---- the machine, once what its process had for itself is put back

module _ (law : AreAsBefore) (program : Units) (p : ℕ) (s : SegmentValue) (before taken after : CoreState) (levels : HasLevels (snapshot_of before) p) (made : IsMadeFrom program (start_in levels) s) (is : snapshot_of taken ≡ snapshot_taken levels s)
    (top : IsSameButTop program p (snapshot_of taken) (snapshot_of after)) where
  but-top : IsSameButTop program p (snapshot_taken levels s) (snapshot_of after)
  but-top = subst (λ m. IsSameButTop program p m (snapshot_of after)) is top

  pub levels-undone : HasLevels (snapshot_of after) p
  levels-undone = levels-left program (levels-taken levels s) but-top

  pub unit-undone : (there : HasLevels (snapshot_of after) p) → there.level.unit ≡ levels.level.unit
  unit-undone there = unit-left program (levels-taken levels s) there but-top ∙ unit-taken levels s

  pub undone : (saved : UndoLogValue) → saved ≡ saved_of levels (own_cells_of program levels.level.unit) → (restored : CoreState) → HasRestored program p saved after restored → snapshot_of restored ≡ snapshot_of before
  undone saved kept restored put =
      let there = levels-undone in
      put there
      ∙ (λ j. snapshot_restored there (own_cells_of program (unit-undone there j)) (kept j))
      ∙ law program (snapshot_of before) (snapshot_of after) p s levels there made but-top

-- ---- nothing came of it

-- what is kept apart for a process is no part of what a core keeps
pub saved-kept : (i : Inside) (saved : UndoLog) → CoreInvariant i → CoreInvariant (record i { saved = saved })
saved-kept i saved k =
    record {
      after = k.after;
      listed = k.listed;
      room = k.room;
      legal = k.legal;
      few = k.few;
      named = k.named;
      living = k.living;
      tabled = k.tabled;
      owned = k.owned;
    }

-- the core keeps its invariant with a machine that keeps the same state
pub left-kept : (i : Inside) → CoreInvariant i → (history : EntriesLeft) → history.items ≡ i.history.items → (machine : CoreState) → IsMachineAfter i.image i.cells (schedule_of i.history.items) machine
    → (roster : RosterValue) → KeepsRoll i.roster roster → HasRoomLeft machine roster → (saved : UndoLog) → (stop : Option ChoiceStop) → IsStop i.image i.cells i.limit i.history.items stop
    → CoreInvariant (record i { history = history; stop = stop; machine = machine; roster = roster; saved = saved })
left-kept i k history same machine after roster noted room saved stop named =
    unturned-kept (record i { saved = saved }) (saved-kept i saved k) history machine roster same after noted room stop named

-- and is seen as before, but for the stop
pub left-value : (i : Inside) → CoreInvariant i → (history : EntriesLeft) → history.items ≡ i.history.items → (machine : CoreState) → IsMachineAfter i.image i.cells (schedule_of i.history.items) machine
    → AreSeen i.image i.cells → (stop : Option ChoiceStop)
    → record (core_value i) { history = history.items; stop = stop; view = machine_view i.image (snapshot_of machine) } ≡ record (core_value i) { stop = stop }
left-value i k history same machine after seen stop =
    let view = unturned-view i k machine after seen in
    λ j. record (core_value i) { history = same j; stop = stop; view = view j }

-- ---- by how many steps

pub taken-by : (rs : List Record) (old : CoreValue) (start : Start) (s : SegmentValue) (turn : Turn) (new : CoreValue) → 0 < length rs → length old.history < old.limit → turn.blocked ≡ false
    → IsMadeBehind old start s turn new ⊎ IsLeftOut old start s turn new → IsTakenBy rs old start s turn new
taken-by [] old start s turn new some room free by = absurd (omega (arith, some))
taken-by (r ∷ rs) old start s turn new some room free by = (room, free, by)

pub one-less : (n : ℕ) → 0 < n → n ≡ suc (n - 1)
one-less n some = omega (arith, some)

-- ---- the lists after one step more

-- the law of lists that go along with a PURGE
abbrev pub GoAlongPurges : Type 0
GoAlongPurges =
    (program : Units) (cells : ℕ) (choices : List ℕ) (x : Progress) (waiting waiting_after : ℕ → Option Want) (ready ready_after : List ℕ) (p : ℕ) (emptied : ℕ → Bool) (layout : Layout)
    → AreListed program cells choices x waiting ready → step program p (run program choices) ≢ None → layout_of program cells is_held choices ≡ Some layout
    → HasEmptied program choices p layout emptied → GoesAlongEmptying program choices p emptied waiting waiting_after ready ready_after
    → AreListed program cells (choices ++ p ∷ []) (progress_after_step program x p (run program (choices ++ p ∷ []))) waiting_after ready_after

module _ (law : GoAlong) (purges : GoAlongPurges) (program : Units) (cells : ℕ) (choices : List ℕ) (x : Progress) (p : ℕ) (before after : CoreState) (was : IsAfter program cells choices (snapshot_of before)) (is : IsAfter program cells (choices ++ p ∷ []) (snapshot_of after))
    (first roster now : RosterValue) (kept : KeepsRoll first roster) (listed : AreListed program cells choices x (want_of first.waiting) first.ready) where
  lives : Bool
  lives = is_some (living (run program (choices ++ p ∷ [])) p)

  counted : before.made ≡ length (run program choices).processes
  counted = as-many program cells choices before was

  many : after.made ≡ length (run program (choices ++ p ∷ [])).processes
  many = as-many program cells (choices ++ p ∷ []) after is

  waited : want_of roster.waiting ≡ want_of first.waiting
  waited = λ j q. kept.waiting q j

  noted : (q : ℕ) → is_noted p lives before.made after.made roster.ready q ≡ is_noted p lives (length (run program choices).processes) (length (run program (choices ++ p ∷ [])).processes) first.ready q
  noted q =
      ap (λ b. (b && (not (nat_eq p q) || lives)) || (nat_lt before.made after.made && nat_eq q after.made)) (kept.ready q)
      ∙ (λ j. is_noted p lives (counted j) (many j) first.ready q)

  by-turn : (turned : TurnOutcome) → GoAlongTurn p before.made turned after roster now → ((q : ℕ) → want_of now.waiting q ≡ awake_after turned after.passing.ranges.items (want_of first.waiting q))
      × ((q : ℕ) → is_number_among q now.ready ≡ (is_woken_after turned after.passing.ranges.items (want_of first.waiting) q || is_noted p lives (length (run program choices).processes) (length (run program (choices ++ p ∷ [])).processes) first.ready q))
  unfolding lives
  by-turn turned along = (
    λ q. along.waiting q ∙ (λ j. awake_after turned after.passing.ranges.items (waited j q)),
    λ q. along.ready program cells (choices ++ p ∷ []) is q ∙ (λ j. is_woken_after turned after.passing.ranges.items (waited j) q || noted q j),
  )

  pub listed-further : (turned : TurnOutcome) → IsNoWait turned → HasTurned program cells choices p turned after → GoAlongTurn p before.made turned after roster now
      → AreListed program cells (choices ++ p ∷ []) (progress_after_step program x p (run program (choices ++ p ∷ []))) (want_of now.waiting) now.ready
  unfolding lives
  listed-further (Stepped changed) other done along =
      let by = by-turn (Stepped changed) along in
      law program cells choices x (want_of first.waiting) (want_of now.waiting) first.ready now.ready p changed was.layout listed done.0 was.laid (done.2.told was.layout was.laid)
      (record { waits = by.0; are_ready = by.1 })
  listed-further Purged other done along =
      let ranges = after.passing.ranges.items in
      let by = by-turn Purged along in
      purges program cells choices x (want_of first.waiting) (want_of now.waiting) first.ready now.ready p (have_cell ranges) was.layout listed done.0 was.laid (emptied-to-lists program cells choices p was.layout ranges was.laid done.2)
      (record { waits = by.0; are_ready = by.1 })
  listed-further (Waits want) other done along = absurd (other want refl)
