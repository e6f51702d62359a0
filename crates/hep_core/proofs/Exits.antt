-- A commit of a segment with steps, once these were made and noted: what the core is then, with the next step left out, with it, or with all put back.
use Rattle.std.proofs.Common.{◌≡◌, ◌≢◌, ◌⊎◌, ℕ, suc, ◌+◌, ◌<◌, ◌≤◌, Bool, true, false, if◌then◌else◌, List, [], ◌∷◌, ◌++◌, length, Ok, Option, Some, None, Global, refl, sym, ap, ◌∙◌, subst, arith, MatchOption, length-append}
use Rattle.std.specs.declared.vec.Vec.{Vec}
use Rattle.hep_machine.specs.declared.event.Entry.{Entry}
use Rattle.hep_machine.specs.Histories.{most_steps}
use Rattle.hep_machine.specs.Words.{is_waiting, progress_after, run, schedule_of, state_after, step}
use Rattle.hep_blocked.specs.Rosters.{KeepsRoll, RosterValue}
use Rattle.hep_code.specs.Words.{deepest}
use Rattle.hep_history.specs.Entries.{EntriesLeft}
use Rattle.hep_commit.specs.TicketId.{TicketId}
use Rattle.hep_commit.specs.Segments.{SegmentValue}
use Rattle.hep_step.specs.Simulation.{unit_code}
use Rattle.hep_state.specs.declared.core_state.CoreState.{CoreState}
use Rattle.hep_state.specs.declared.turn.TurnOutcome.{TurnOutcome}
use Rattle.hep_state.specs.Words.{HasLevels, HasNoGap, HasTurned, IsAfter, IsItsTurn, IsMachineAfter, KeepsRoom, KeepsRollFor, LeavesAlone, snapshot_of}
use Rattle.hep_state.proofs.UnchangedStates.{machine-of, rooms-of}
use Rattle.hep_commit.specs.declared.undo_log.UndoLog.{UndoLog}
use Rattle.hep_commit.specs.SegmentStarts.{start_in}
use Rattle.hep_commit.specs.OwnCells.{own_cells_of}
use Rattle.hep_commit.specs.UndoLogs.{UndoLogValue, saved_of}
use Rattle.hep_commit.specs.Application.{HasRestored, HasTakenIn}
use Rattle.hep_core.specs.Commits.{HasMore, IsCommitted, IsOutBy, are_private}
use Rattle.hep_core.specs.Invariant.{CoreInvariant, core_value, placed_value}
use Rattle.hep_core.specs.ProcessPlaces.{places_of}
use Rattle.hep_core.specs.CoreValues.{IsStop}
use Rattle.hep_core.specs.Waking.{GoAlongTurn, HasRoomLeft}
use Rattle.hep_core.specs.declared.run_core.Core.TheInside.{Inside}
use Rattle.hep_core.specs.declared.stop.ChoiceStop.{ChoiceStop}
use Rattle.hep_core.specs.declared.stop.ChoiceStop.TheVariants.{Halted}
use Rattle.hep_core.specs.declared.stop.Turn.{Turn}
use Rattle.hep_core.proofs.CallAnswers.{answer-left, answer-made}
use Rattle.hep_commit.proofs.AfterSegments.{AreAsBefore, few-operands}
use Rattle.hep_core.proofs.AfterPrivate.{GoAlongPurges, HasTakenSteps, listed-further, undone, levels-undone, unit-undone}
use Rattle.hep_core.proofs.Committing.{DependOnReads}
use Rattle.hep_core.proofs.Histories.{state-is}
use Rattle.hep_core.proofs.GoodTickets.{AreSeen, IsNoWait, as-many, halted-is, made-step}
use Rattle.hep_core.proofs.Private.{further-after, further-kept, further-steps, further-value, kept-after, left, listed-now, private-kept, private-value, steps}
use Rattle.hep_core.proofs.OutStates.{IsUnderway}
use Rattle.hep_state.proofs.ReturnTurns.{IsRunningAlways}
use Rattle.hep_commit.proofs.Lists.{GoAlong}

-- ---- histories

but-last : {A : Type 0} → List A → List A
but-last [] = []
but-last (x ∷ []) = []
but-last (x ∷ y ∷ ys) = x ∷ but-last (y ∷ ys)

before-last : {A : Type 0} (xs : List A) (x : A) → but-last (xs ++ x ∷ []) ≡ xs
unfolding but-last
before-last [] x = refl
before-last (y ∷ []) x = refl
before-last (y ∷ z ∷ zs) x = ap (λ rest. y ∷ rest) (before-last (z ∷ zs) x)

-- the entry before is another one's
pub more-is : (h es entries : List Entry) (p n k : ℕ) → es ≡ h ++ record { process = p; steps = n } ∷ [] → HasMore p k es entries → entries ≡ h ++ record { process = p; steps = k } ∷ []
more-is h es entries p n k is more =
    let front = sym (before-last more.0 more.1) ∙ (ap but-last (sym more.2 ∙ is) ∙ before-last h (record { process = p; steps = n })) in
    more.3 ∙ ap (λ (fs : List Entry). fs ++ record { process = p; steps = k } ∷ []) front

-- and was taken off
pub popped : (h es mid : List Entry) (p n : ℕ) (r : Option Entry) → es ≡ h ++ record { process = p; steps = n } ∷ [] → MatchOption r ((es ≡ []) × (mid ≡ [])) (λ e. es ≡ mid ++ e ∷ []) → mid ≡ h
popped h es mid p n None is none =
    let long : length es ≡ length h + 1 = ap length is ∙ length-append h (let e : Entry = record { process = p; steps = n } in e ∷ []) in
    absurd (omega (arith, long, ap length none.0))
popped h es mid p n (Some e) is was = sym (before-last mid e) ∙ (ap but-last (sym was ∙ is) ∙ before-last h (record { process = p; steps = n }))

module _ (go : GoAlong) (i : Inside) (k : CoreInvariant i) (s : SegmentValue) (out : IsOutBy (core_value i) s) (first : CoreState) (at : IsUnderway i s first) (tops : IsRunningAlways i.image) (law : DependOnReads) (n : ℕ) (many : length s.records ≡ suc n)
    (lt : length i.history.items < i.limit) (few : suc (suc n) ≤ most_steps) (m : CoreState) (t : HasTakenSteps i s.id.process n m) (es : List Entry) (is : es ≡ i.history.items ++ record { process = s.id.process; steps = suc n } ∷ []) where
  abbrev p : ℕ
  p = s.id.process

  less : suc n ≤ most_steps
  less = omega (arith, few)

  pub noted-after : IsMachineAfter i.image i.cells (schedule_of es) m
  noted-after = kept-after go i k p n t.turns t.gone lt less m t.kept t.activations t.made es is

  -- a process that was made has room to be enrolled, and none was that wasn't made
  pub left-room : (machine : CoreState) → IsMachineAfter i.image i.cells (schedule_of es) machine → (roster : RosterValue) → KeepsRollFor machine i.roster roster → HasRoomLeft machine roster
  left-room machine after roster kept =
      record {
        room = kept.numbers;
        last = omega (arith, kept.kept.last, k.room.last, t.made, as-many i.image i.cells (schedule_of es) machine after.after, as-many i.image i.cells (schedule_of es) m noted-after.after);
      }

  -- ---- the next step was left out

  module _ (machine : CoreState) (after : IsMachineAfter i.image i.cells (schedule_of es) machine) (history : EntriesLeft) (same : history.items ≡ es) (back : Vec TicketId Global) (backs : back.items ≡ left go i k p) where
    unhalted : machine.halted ≡ false
    unhalted = halted-is i.image i.cells es (snapshot_of machine) after.after ∙ (sym (halted-is i.image i.cells es (snapshot_of m) noted-after.after) ∙ t.running)

    pub left-invariant : (roster : RosterValue) → KeepsRoll i.roster roster → HasRoomLeft machine roster → (saved : UndoLog) → CoreInvariant (record i { history = history; machine = machine; roster = roster; out = back; saved = saved })
    left-invariant roster noted room saved =
        private-kept go i k p n t.turns t.gone lt less m t.kept t.activations t.made es is machine after out.0.0 unhalted history same roster noted room back backs saved

    pub left-answer : AreSeen i.image i.cells → (roster : RosterValue) (saved : UndoLog)
        → (are_private i.image (start_in at.is.turn.living) (suc (suc n)) ≡ true) ⊎ (is_waiting i.image (run i.image (schedule_of es)) p ≡ true) ⊎ HasNoGap i.image i.cells (schedule_of es) p
        → (turn : Turn) → turn ≡ record { steps = suc n; blocked = false } → IsCommitted (placed_value i) s (Ok turn) (placed_value (record i { history = history; machine = machine; roster = roster; out = back; saved = saved }))
    left-answer seen roster saved why turn turn_is =
        subst (λ u. IsCommitted (placed_value i) s (Ok u) (placed_value (record i { history = history; machine = machine; roster = roster; out = back; saved = saved }))) (sym turn_is) (
        answer-left i s out first at.is tops law at.made n many lt (placed_value (record i { history = history; machine = machine; roster = roster; out = back; saved = saved }))
        (steps go i k p n t.turns t.gone lt less m t.kept t.activations t.made es is)
        (private-value go i k p n t.turns t.gone lt less m t.kept t.activations t.made es is machine after out.0.0 unhalted seen history same back backs)
        (subst (λ fs. (are_private i.image (start_in at.is.turn.living) (suc (suc n)) ≡ true) ⊎ (is_waiting i.image (state_after i.image fs) p ≡ true) ⊎ HasNoGap i.image i.cells (schedule_of fs) p) (sym same) (
        subst (λ z. (are_private i.image (start_in at.is.turn.living) (suc (suc n)) ≡ true) ⊎ (is_waiting i.image z p ≡ true) ⊎ HasNoGap i.image i.cells (schedule_of es) p) (sym (state-is i.image es)) why)))

  -- ---- it was made

  module _ (purges : GoAlongPurges) (turned : TurnOutcome) (no_wait : IsNoWait turned) (machine : CoreState) (done : HasTurned i.image i.cells (schedule_of es) p turned machine) (roster : RosterValue) (kept : KeepsRollFor machine i.roster roster) where
    stepped : (step i.image p (run i.image (schedule_of es)) ≢ None) × IsMachineAfter i.image i.cells (schedule_of es ++ p ∷ []) machine
    stepped = made-step i.image i.cells (schedule_of es) p turned machine no_wait done

    module _ (now : RosterValue) (along : GoAlongTurn p m.made turned machine roster now) (room : HasRoomLeft machine now) (entries : List Entry) (all : entries ≡ i.history.items ++ record { process = p; steps = suc (suc n) } ∷ []) (history : EntriesLeft) (same : history.items ≡ entries)
        (back : Vec TicketId Global) (backs : back.items ≡ left go i k p) where
      after-it : IsMachineAfter i.image i.cells (schedule_of entries) machine
      after-it = further-after go i k p n t.turns t.gone lt less m t.kept t.activations t.made es is stepped.0 machine stepped.1 entries all

      halted-now : (state_after i.image entries).halted ≡ machine.halted
      halted-now = sym (halted-is i.image i.cells entries (snapshot_of machine) after-it.after)

      named : (b : Bool) → (state_after i.image entries).halted ≡ b → IsStop i.image i.cells i.limit entries (if b then Some Halted else None)
      named true is = is
      named false is = is

      pub made-invariant : (stop : Option ChoiceStop) → stop ≡ (if machine.halted then Some Halted else None) → (saved : UndoLog)
          → CoreInvariant (record i { history = history; stop = stop; machine = machine; roster = now; out = back; saved = saved })
      made-invariant stop is_stop saved =
          further-kept go i k p n t.turns t.gone lt less m t.kept t.activations t.made es is stepped.0 machine stepped.1 entries all few now
          (listed-further go purges i.image i.cells (schedule_of es) (progress_after i.image es) p m machine noted-after.after stepped.1.after i.roster roster now kept.kept
          (listed-now go i k p n t.turns t.gone lt less m t.kept t.activations t.made es is) turned no_wait done along)
          room history same back backs saved stop (subst (IsStop i.image i.cells i.limit entries) (sym is_stop) (named machine.halted halted-now))

      pub made-answer : AreSeen i.image i.cells → are_private i.image (start_in at.is.turn.living) (suc (suc n)) ≡ false → (stop : Option ChoiceStop) → stop ≡ (if machine.halted then Some Halted else None) → (saved : UndoLog)
          → (turn : Turn) → turn ≡ record { steps = suc (suc n); blocked = false } → IsCommitted (placed_value i) s (Ok turn) (placed_value (record i { history = history; stop = stop; machine = machine; roster = now; out = back; saved = saved }))
      made-answer seen other stop is_stop saved turn turn_is =
          subst (λ u. IsCommitted (placed_value i) s (Ok u) (placed_value (record i { history = history; stop = stop; machine = machine; roster = now; out = back; saved = saved }))) (sym turn_is) (
          answer-made i s out first at.is tops law at.made n many lt (placed_value (record i { history = history; stop = stop; machine = machine; roster = now; out = back; saved = saved })) other
          (further-steps go i k p n t.turns t.gone lt less m t.kept t.activations t.made es is stepped.0 machine stepped.1 entries all)
          (further-value go i k p n t.turns t.gone lt less m t.kept t.activations t.made es is stepped.0 machine stepped.1 entries all seen history same back backs stop (
          is_stop ∙ ap (λ b. if b then Some Halted else None) (sym halted-now))))

  -- ---- all was put back

  module _ (as_before : AreAsBefore) (taken : HasTakenIn s first m) (machine : CoreState) (alone : LeavesAlone i.image p m machine) where
    still : IsMachineAfter i.image i.cells (schedule_of es) machine
    still = alone.after i.cells (schedule_of es) noted-after

    there : HasLevels (snapshot_of machine) p
    there = levels-undone as_before i.image p s first m machine at.is.turn.living at.made (taken at.is.turn.living) alone.top

    -- it can be put back
    pub turn-there : IsItsTurn i.image p machine
    turn-there = record { after = (i.cells, schedule_of es, still); running = alone.same.halted ∙ t.running; living = there }

    pub room-there : (saved : UndoLogValue) → saved ≡ saved_of at.is.turn.living (own_cells_of i.image at.is.turn.living.level.unit) → length saved.operands ≤ deepest (unit_code i.image turn-there.living.level.unit)
    room-there saved kept =
        let unit = unit-undone as_before i.image p s first m machine at.is.turn.living at.made (taken at.is.turn.living) alone.top turn-there.living in
        let few = few-operands at.is.turn in
        omega (arith, few, ap (λ (v : UndoLogValue). length v.operands) kept, ap (λ u. deepest (unit_code i.image u)) unit)

    module _ (saved : UndoLogValue) (kept : saved ≡ saved_of at.is.turn.living (own_cells_of i.image at.is.turn.living.level.unit)) (restored : CoreState) (put : HasRestored i.image p saved machine restored) (rooms : KeepsRoom machine restored) where
      shown : snapshot_of restored ≡ snapshot_of first
      shown = undone as_before i.image p s first m machine at.is.turn.living at.made (taken at.is.turn.living) alone.top saved kept restored put

      pub restored-after : IsMachineAfter i.image i.cells (schedule_of i.history.items) restored
      restored-after =
          machine-of i.image i.cells (schedule_of i.history.items) restored (subst (IsAfter i.image i.cells (schedule_of i.history.items)) (sym shown) at.is.after.after) (rooms i.image i.cells (rooms-of i.image i.cells (schedule_of es) machine still))

      pub restored-places : places_of i.image (snapshot_of restored) ≡ places_of i.image (snapshot_of i.machine)
      restored-places = ap (λ z. places_of i.image z) shown ∙ at.is.places
