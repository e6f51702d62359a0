use Rattle.std.proofs.Common.{◌≡◌, ◌≢◌, ◌<◌, ◌≤◌, ℕ, List, ◌++◌, ◌∷◌, [], ◌∙◌, inl, inr, sym, ap, subst, rules, false, true, Option, None, Some, length, arith, refl, ◌||◌, ◌&&◌, is_some, nat_eq, nat_lt, not}
use Rattle.hep_machine.specs.declared.event.Entry.{Entry}
use Rattle.hep_history.specs.Entries.{EntriesLeft}
use Rattle.hep_machine.specs.Words.{Units, is_number_among, living, run, schedule_of, state_after, progress_after, progress_after_step, State, is_waiting, step}
use Rattle.hep_blocked.specs.RosterUpdates.{AreListed, IsBlocked, IsReadyNoMore, WaitsNow, is_noted}
use Rattle.hep_step.specs.PurgeEffects.{have_cell}
use Rattle.hep_blocked.specs.Rosters.{KeepsRoll, RosterValue, want_of}
use Rattle.hep_blocked.proofs.KeptNeeds.{living-enrolled}
use Rattle.hep_state.specs.declared.turn.TurnOutcome.{TurnOutcome}
use Rattle.hep_state.specs.declared.turn.TurnOutcome.TheVariants.{Stepped, Purged, Waits}
use Rattle.hep_state.specs.Words.{HasTurned, IsAfter, IsMachineAfter, IsSameButTop, KeepsRollFor, LeavesOthers, LeavesRest, snapshot_of, IsUnturned}
use Rattle.hep_state.proofs.UnchangedStates.{on-err}
use Rattle.hep_core.specs.ProcessPlaces.{places_of}
use Rattle.hep_core.proofs.SettledMachines.{places-same}
use Rattle.hep_state.proofs.ProcessNumbers.{length-stacks}
use Rattle.hep_core.specs.Invariant.{CoreInvariant, core_value, placed_value}
use Rattle.hep_core.specs.declared.run_core.Core.TheInside.{Inside}
use Rattle.hep_state.specs.declared.core_state.CoreState.{CoreState}
use Rattle.hep_views.specs.MachineViews.{machine_view}
use Rattle.hep_core.specs.Tickets.{is_out}
use Rattle.hep_core.specs.Commits.{LeavesNext}
use Rattle.hep_core.specs.ProcessPlaces.{PlacedCore}
use Rattle.hep_core.specs.CoreValues.{CoreValue, HasNoStop, IsStop, IsTurn, state_of, stop_after}
use Rattle.hep_core.specs.declared.stop.ChoiceStop.{ChoiceStop}
use Rattle.hep_core.specs.Waking.{AreInArena, HasRoomLeft, awake_after, is_woken_after}
use Rattle.hep_core.specs.declared.stop.ChoiceStop.TheVariants.{ArenaFull, Halted, StepLimit}
use Rattle.hep_core.proofs.OtherTickets.{AreReadStill, entry-next, next-itself, next-same, rest-others}
use Rattle.hep_core.proofs.Committing.{DependOnReads}
use Rattle.hep_core.proofs.Histories.{state-is}
use Rattle.hep_core.proofs.GoodTickets.{AreSeen, activations-are, processes-are, halted-is, halted-next, named-left, next, schedule-next, some-of, state-left, state-next, stepped-kept, steps-on, unturned-kept, unturned-view, view-is, view-next, waited-kept, IsNoWait, along, along-emptying, as-many, blocked-now, emptied-to-lists, in-arena, made-step, no-memory, risen, waits-unstepped}
use Rattle.hep_core.proofs.run_core.Core.turn.Goals.{After-len, After-lives, After-turn, After-block, After-wake_after}
use Rattle.hep_core.proofs.run_core.Core.turn.Goals as goal
use Rattle.hep_source.proofs.Tests.{none-from-not}

pub lives-requires : goal.lives-requires
lives-requires c = c.self.invariant.after.numbers

-- ---- what is known once a turn is asked for

going-on : (c : After-lives) → (c.self.inside.stop ≡ None) × IsStop c.self.inside.image c.self.inside.cells c.self.inside.limit c.self.inside.history.items None
going-on c =
    let i = c.self.inside in
    let none : i.stop ≡ None = search rules in
    (none, subst (IsStop i.image i.cells i.limit i.history.items) none c.self.invariant.named)

is-alive : (c : After-len) → living (state_after c.self.inside.image c.self.inside.history.items) c.args.p ≢ None
is-alive c =
    let i = c.self.inside in
    let lives : c.lives.result ≡ true = search rules in
    some-of (living (state_after i.image i.history.items) c.args.p) (ap (λ (s : State). is_some (living s c.args.p)) (state-is i.image i.history.items) ∙ sym (c.lives.ensures.lives i.image i.cells (schedule_of i.history.items) c.self.invariant.after.after) ∙ lives)

is-asked : (c : After-turn) → length c.self.inside.history.items < c.self.inside.limit
is-asked c = omega (arith, c.len.ensures.count)

are-seen : (c : After-turn) → AreSeen c.self.inside.image c.self.inside.cells
are-seen c choices n = c.views_are_of_states.ensures c.self.inside.image c.self.inside.cells choices n c.is_runnable.ensures.accepted c.is_runnable.ensures.main

-- p isn't out
at-home : (c : After-lives) → is_out c.args.p c.self.inside.out.items ≡ false
at-home c = subst (λ (v : PlacedCore). is_out c.args.p v.core.out ≡ false) (sym c.self.view_is) c.requires

-- ---- no turn is asked for

pub returns-then-not-lives-clause-chosen : goal.returns-then-not-lives-clause-chosen
returns-then-not-lives-clause-chosen c =
    let i = c.self.inside in
    let h = i.history.items in
    let going = going-on (goal.at.returns-then-not-lives-clause-chosen c).After-lives in
    let dead : c.lives.result ≡ false = search rules in
    let ended = none-from-not (living (state_after i.image h) c.args.p) (ap (λ (s : State). is_some (living s c.args.p)) (state-is i.image h) ∙ sym (c.lives.ensures.lives i.image i.cells (schedule_of h) c.self.invariant.after.after) ∙ dead) in
    rw (← c.self.view_is) (going, ended, refl)

pub returns-then-self-len-clause-chosen : goal.returns-then-self-len-clause-chosen
returns-then-self-len-clause-chosen c =
    let i = c.self.inside in
    let h = i.history.items in
    let going = going-on (goal.at.returns-then-self-len-clause-chosen c).After-lives in
    let alive = is-alive (goal.at.returns-then-self-len-clause-chosen c).After-len in
    let full : length h ≡ i.limit = omega (arith, c.len.ensures.count, c.if-self-len.true, c.self.invariant.legal.within) in
    rw (← c.self.view_is) (inr (inl ((going, alive, at-home (goal.at.returns-then-self-len-clause-chosen c).After-lives), full, refl, refl)))

-- each activation was made by an entry of its own, of which there are less than 2^64 by far
pub turn-requires : goal.turn-requires
turn-requires c =
    let i = c.self.inside in
    let h = i.history.items in
    let k = c.self.invariant in
    let going = going-on (goal.at.turn-requires c).After-lives in
    let lives : c.lives.result ≡ true = search rules in
    record {
      turn = record {
        after = (i.cells, schedule_of h, k.after);
        running = halted-is i.image i.cells h (snapshot_of i.machine) k.after.after ∙ going.1;
        living = c.lives.ensures.levels lives;
      };
      countable = omega (arith, activations-are i.image i.cells h (snapshot_of i.machine) k.after.after, k.few.activations, c.len.ensures.count, c.len.ensures.few);
      numerable = omega (arith, processes-are i.image i.cells h (snapshot_of i.machine) k.after.after, length-stacks i.machine.processes.items 1 i.machine.made, k.few.processes, c.len.ensures.count, c.len.ensures.few);
      numbers = k.room.room;
    }

-- a process that was made has room to be enrolled, and none was that wasn't made
left-room : (i : Inside) (k : CoreInvariant i) (m : CoreState) (roster : RosterValue) → IsMachineAfter i.image i.cells (schedule_of i.history.items) m → KeepsRollFor m i.roster roster → HasRoomLeft m roster
left-room i k m roster after kept =
    let choices = schedule_of i.history.items in
    record {
      room = kept.numbers;
      last = omega (arith, kept.kept.last, k.room.last, as-many i.image i.cells choices m after.after, as-many i.image i.cells choices i.machine k.after.after);
    }

-- ---- a turn that wasn't taken

-- the core keeps its invariant, whatever it has stopped
unturned : (c : After-turn) → IsMachineAfter c.self.inside.image c.self.inside.cells (schedule_of c.self.inside.history.items) c.turn.new.self
    → (stop : Option ChoiceStop) → IsStop c.self.inside.image c.self.inside.cells c.self.inside.limit c.self.inside.history.items stop
    → CoreInvariant (record c.self.inside { history = c.turn.new.history; stop = stop; machine = c.turn.new.self; roster = c.turn.new.roster })
unturned c after =
    let i = c.self.inside in
    let k = c.self.invariant in
    unturned-kept i k c.turn.new.history c.turn.new.self c.turn.new.roster c.turn.ensures.entry.entries after c.turn.ensures.roster.kept (left-room i k c.turn.new.self c.turn.new.roster after c.turn.ensures.roster)

-- what is seen of it is what was seen, but for the stop
unturned-value : (c : After-turn) → IsMachineAfter c.self.inside.image c.self.inside.cells (schedule_of c.self.inside.history.items) c.turn.new.self
    → (stop : Option ChoiceStop) → record (core_value c.self.inside) { history = c.turn.new.history.items; stop = stop; view = machine_view c.self.inside.image (snapshot_of c.turn.new.self) }
    ≡ record (core_value c.self.inside) { stop = stop }
unturned-value c after stop =
    let view = unturned-view c.self.inside c.self.invariant c.turn.new.self after (are-seen c) in
    λ j. record (core_value c.self.inside) { history = c.turn.ensures.entry.entries j; stop = stop; view = view j }

pub invariant_of-self-in-Err-NoMemory : goal.invariant_of-self-in-Err-NoMemory
invariant_of-self-in-Err-NoMemory c =
    let i = c.self.inside in
    let k = c.self.invariant in
    unturned (goal.at.invariant_of-self-in-Err-NoMemory c).After-turn (c.in-Err-NoMemory.ensures.unturned.1.after i.cells (schedule_of i.history.items) k.after) i.stop k.named

pub returns-in-Err-NoMemory-clause-chosen : goal.returns-in-Err-NoMemory-clause-chosen
returns-in-Err-NoMemory-clause-chosen c =
    let at = goal.at.returns-in-Err-NoMemory-clause-chosen c in
    let i = c.self.inside in
    let h = i.history.items in
    let after = c.in-Err-NoMemory.ensures.unturned.1.after i.cells (schedule_of h) c.self.invariant.after in
    let gapped = subst (λ e. IsUnturned e i.image i.cells (schedule_of h) c.args.p) c.in-Err-NoMemory.field-0-is (c.in-Err-NoMemory.ensures.unturned.0 i.cells (schedule_of h) c.self.invariant.after) in
    rw (← c.self.view_is) ((going-on at.After-lives, is-alive at.After-len, at-home at.After-lives), is-asked at.After-turn, (λ gap. gapped gap.full), unturned-value at.After-turn after i.stop)

pub invariant_of-self-in-Err-ArenaFull : goal.invariant_of-self-in-Err-ArenaFull
invariant_of-self-in-Err-ArenaFull c =
    let at = goal.at.invariant_of-self-in-Err-ArenaFull c in
    let i = c.self.inside in
    let h = i.history.items in
    let k = c.self.invariant in
    let gap = subst (λ e. IsUnturned e i.image i.cells (schedule_of h) c.args.p) c.in-Err-ArenaFull.field-0-is (c.in-Err-ArenaFull.ensures.unturned.0 i.cells (schedule_of h) k.after) in
    unturned at.After-turn (c.in-Err-ArenaFull.ensures.unturned.1.after i.cells (schedule_of h) k.after) (Some ArenaFull) ((going-on at.After-lives).1, (c.args.p, gap))

pub returns-in-Err-ArenaFull-clause-chosen : goal.returns-in-Err-ArenaFull-clause-chosen
returns-in-Err-ArenaFull-clause-chosen c =
    let at = goal.at.returns-in-Err-ArenaFull-clause-chosen c in
    let i = c.self.inside in
    let h = i.history.items in
    let after = c.in-Err-ArenaFull.ensures.unturned.1.after i.cells (schedule_of h) c.self.invariant.after in
    let gap = subst (λ e. IsUnturned e i.image i.cells (schedule_of h) c.args.p) c.in-Err-ArenaFull.field-0-is (c.in-Err-ArenaFull.ensures.unturned.0 i.cells (schedule_of h) c.self.invariant.after) in
    rw (← c.self.view_is) (inr (inr ((going-on at.After-lives, is-alive at.After-len, at-home at.After-lives), is-asked at.After-turn, gap, refl, unturned-value at.After-turn after (Some ArenaFull))))

-- ---- a turn that made a step

-- what is known once it is noted
turned-now : (c : After-wake_after) → HasTurned c.self.inside.image c.self.inside.cells (schedule_of c.self.inside.history.items) c.args.p c.in-Ok.turned c.turn.new.self
turned-now c =
    let i = c.self.inside in
    c.in-Ok.ensures.turned i.cells (schedule_of i.history.items) c.self.invariant.after

no-wait : (c : After-wake_after) → IsNoWait c.in-Ok.turned
no-wait c = c.in_default-turned.not-Waits

stepped-now : (c : After-wake_after) → (step c.self.inside.image c.args.p (run c.self.inside.image (schedule_of c.self.inside.history.items)) ≢ None) × IsMachineAfter c.self.inside.image c.self.inside.cells (schedule_of c.self.inside.history.items ++ c.args.p ∷ []) c.turn.new.self
stepped-now c =
    let i = c.self.inside in
    made-step i.image i.cells (schedule_of i.history.items) c.args.p c.in-Ok.turned c.turn.new.self (no-wait c) (turned-now c)

entry-is : (c : After-wake_after) → c.note-in_default-turned.new.history.items ≡ c.self.inside.history.items ++ record { process = c.args.p; steps = 1 } ∷ []
entry-is c = c.note-in_default-turned.ensures ∙ ap (λ (es : List Entry). es ++ record { process = c.args.p; steps = 1 } ∷ []) c.turn.ensures.entry.entries

counted-before : (c : After-wake_after) → c.self.inside.machine.made ≡ length (run c.self.inside.image (schedule_of c.self.inside.history.items)).processes
counted-before c =
    let i = c.self.inside in
    as-many i.image i.cells (schedule_of i.history.items) i.machine c.self.invariant.after.after

counted-after : (c : After-wake_after) → c.turn.new.self.made ≡ length (run c.self.inside.image (schedule_of c.self.inside.history.items ++ c.args.p ∷ [])).processes
counted-after c =
    let i = c.self.inside in
    as-many i.image i.cells (schedule_of i.history.items ++ c.args.p ∷ []) c.turn.new.self (stepped-now c).1.after

noted-now : (c : After-wake_after) (q : ℕ) → is_number_among q c.note_ready.new.roster.ready
    ≡ is_noted c.args.p (is_some (living (run c.self.inside.image (schedule_of c.self.inside.history.items ++ c.args.p ∷ [])) c.args.p)) c.self.inside.machine.made c.turn.new.self.made c.self.inside.roster.ready q
noted-now c q =
    let i = c.self.inside in
    let p = c.args.p in
    let lives = is_some (living (run i.image (schedule_of i.history.items ++ p ∷ [])) p) in
    c.note_ready.ensures.ready i.image i.cells (schedule_of i.history.items ++ p ∷ []) (stepped-now c).1.after q ∙ ap (λ b. (b && (not (nat_eq p q) || lives)) || (nat_lt c.self.inside.machine.made c.turn.new.self.made && nat_eq q c.turn.new.self.made)) (c.turn.ensures.roster.kept.ready q)

-- the lists go along with what the turn came to
lists-by : (c : After-wake_after) (turned : TurnOutcome) → IsNoWait turned → HasTurned c.self.inside.image c.self.inside.cells (schedule_of c.self.inside.history.items) c.args.p turned c.turn.new.self
    → ((q : ℕ) → want_of c.wake_after.new.roster.waiting q ≡ awake_after turned c.turn.new.self.passing.ranges.items (want_of c.self.inside.roster.waiting q))
    → ((q : ℕ) → is_number_among q c.wake_after.new.roster.ready ≡ (is_woken_after turned c.turn.new.self.passing.ranges.items (want_of c.self.inside.roster.waiting) q || is_number_among q c.note_ready.new.roster.ready))
    → AreListed c.self.inside.image c.self.inside.cells (schedule_of c.self.inside.history.items ++ c.args.p ∷ [])
    (progress_after_step c.self.inside.image (progress_after c.self.inside.image c.self.inside.history.items) c.args.p (run c.self.inside.image (schedule_of c.self.inside.history.items ++ c.args.p ∷ []))) (want_of c.wake_after.new.roster.waiting) c.wake_after.new.roster.ready
lists-by c (Stepped changed) other done waits woken =
    let i = c.self.inside in
    let k = c.self.invariant in
    let p = c.args.p in
    let choices = schedule_of i.history.items in
    let before = k.after.after in
    c.lists_go_along_with_steps.ensures i.image i.cells choices (progress_after i.image i.history.items) (want_of i.roster.waiting) (want_of c.wake_after.new.roster.waiting) i.roster.ready c.wake_after.new.roster.ready p changed before.layout
    k.listed done.0 before.laid (done.2.told before.layout before.laid)
    (along i.image choices p changed (want_of i.roster.waiting) (want_of c.wake_after.new.roster.waiting) i.roster.ready c.note_ready.new.roster.ready c.wake_after.new.roster.ready c.self.inside.machine.made c.turn.new.self.made (counted-before c) (counted-after c) waits (noted-now c) woken)
lists-by c Purged other done waits woken =
    let i = c.self.inside in
    let k = c.self.invariant in
    let p = c.args.p in
    let choices = schedule_of i.history.items in
    let ranges = c.turn.new.self.passing.ranges.items in
    let before = k.after.after in
    c.lists_go_along_with_purges.ensures i.image i.cells choices (progress_after i.image i.history.items) (want_of i.roster.waiting) (want_of c.wake_after.new.roster.waiting) i.roster.ready c.wake_after.new.roster.ready p (have_cell ranges) before.layout
    k.listed done.0 before.laid (emptied-to-lists i.image i.cells choices p before.layout ranges before.laid done.2)
    (along-emptying i.image choices p (have_cell ranges) (want_of i.roster.waiting) (want_of c.wake_after.new.roster.waiting) i.roster.ready c.note_ready.new.roster.ready c.wake_after.new.roster.ready c.self.inside.machine.made c.turn.new.self.made (counted-before c) (counted-after c) waits (noted-now c) woken)
lists-by c (Waits want) other done waits woken = absurd (other want refl)

lists-now : (c : After-wake_after) → AreListed c.self.inside.image c.self.inside.cells (schedule_of c.self.inside.history.items ++ c.args.p ∷ [])
    (progress_after_step c.self.inside.image (progress_after c.self.inside.image c.self.inside.history.items) c.args.p (run c.self.inside.image (schedule_of c.self.inside.history.items ++ c.args.p ∷ []))) (want_of c.wake_after.new.roster.waiting) c.wake_after.new.roster.ready
lists-now c =
    let rs = c.turn.new.self.passing.ranges.items in
    let same = c.deref.ensures.value in
    let old = want_of c.self.inside.roster.waiting in
    let before : want_of c.note_ready.new.roster.waiting ≡ old = λ j q. (c.note_ready.ensures.waiting q ∙ c.turn.ensures.roster.kept.waiting q) j in
    let waits = subst (λ ws. (q : ℕ) → want_of c.wake_after.new.roster.waiting q ≡ awake_after c.in-Ok.turned rs (ws q)) before (subst (λ rs'. (q : ℕ) → want_of c.wake_after.new.roster.waiting q ≡ awake_after c.in-Ok.turned rs' (want_of c.note_ready.new.roster.waiting q)) same c.wake_after.ensures.waiting) in
    let woken = subst (λ ws. (q : ℕ) → is_number_among q c.wake_after.new.roster.ready ≡ (is_woken_after c.in-Ok.turned rs ws q || is_number_among q c.note_ready.new.roster.ready)) before (subst (λ rs'. (q : ℕ) → is_number_among q c.wake_after.new.roster.ready ≡ (is_woken_after c.in-Ok.turned rs' (want_of c.note_ready.new.roster.waiting) q || is_number_among q c.note_ready.new.roster.ready)) same c.wake_after.ensures.ready) in
    lists-by c c.in-Ok.turned (no-wait c) (turned-now c) waits woken

-- the state that the step leads to, and that the machine has stopped just where it has
after-step : (c : After-wake_after) → State
after-step c = next c.self.inside.image c.self.inside.cells c.self.inside.history.items c.args.p c.note-in_default-turned.new.history.items (entry-is c) (stepped-now c).0

halted-after : (c : After-wake_after) → c.turn.new.self.halted ≡ (after-step c).halted
unfolding after-step
halted-after c =
    let i = c.self.inside in
    halted-next i.image i.cells i.history.items c.args.p c.note-in_default-turned.new.history.items (entry-is c) (stepped-now c).0 c.turn.new.self (stepped-now c).1

halted-history : (c : After-wake_after) → (state_after c.self.inside.image c.note-in_default-turned.new.history.items).halted ≡ c.turn.new.self.halted
unfolding after-step
halted-history c =
    let i = c.self.inside in
    ap (λ (s : State). s.halted) (state-next i.image i.cells i.history.items c.args.p c.note-in_default-turned.new.history.items (entry-is c) (stepped-now c).0) ∙ sym (halted-after c)

-- the core keeps its invariant, whatever it has stopped
step-kept : (c : After-wake_after) → length c.self.inside.history.items < c.self.inside.limit → is_out c.args.p c.self.inside.out.items ≡ false
    → (stop : Option ChoiceStop) → IsStop c.self.inside.image c.self.inside.cells c.self.inside.limit c.note-in_default-turned.new.history.items stop
    → CoreInvariant (record c.self.inside { history = c.note-in_default-turned.new.history; stop = stop; machine = c.turn.new.self; roster = c.wake_after.new.roster })
step-kept c lt home =
    let done = stepped-now c in
    stepped-kept c.self.inside c.self.invariant c.args.p lt home c.note-in_default-turned.new.history (entry-is c) c.turn.new.self done.0 done.1 c.wake_after.new.roster (lists-now c) (record {
      room = omega (arith, c.note_ready.ensures.room.room, c.wake_after.ensures.others.1);
      last = omega (arith, c.note_ready.ensures.room.last, c.wake_after.ensures.others.0);
    })

-- the turn is one that made a step
step-made : (c : After-wake_after) → AreSeen c.self.inside.image c.self.inside.cells → (stop : Option ChoiceStop) → stop ≡ stop_after (after-step c)
    → IsTurn (core_value c.self.inside) c.args.p 1 false (record (core_value c.self.inside) {
      history = c.note-in_default-turned.new.history.items;
      stop = stop;
      view = machine_view c.self.inside.image (snapshot_of c.turn.new.self);
    })
unfolding after-step
step-made c seen stop stops =
    let i = c.self.inside in
    let h = i.history.items in
    let is = entry-is c in
    let done = stepped-now c in
    let view = view-next i.image i.cells h c.args.p c.note-in_default-turned.new.history.items is done.0 c.turn.new.self done.1 seen in
    (after-step c, steps-on i.image i.cells h c.args.p c.note-in_default-turned.new.history.items is done.0, λ j. record (core_value i) { history = is j; stop = stops j; view = view j })

pub invariant_of-self-then-self : goal.invariant_of-self-then-self
invariant_of-self-then-self c =
    let at = goal.at.invariant_of-self-then-self c in
    step-kept at.After-wake_after (is-asked at.After-turn) (at-home at.After-lives) (Some Halted) (halted-history at.After-wake_after ∙ c.if-self.true)

pub invariant_of-self-else-self : goal.invariant_of-self-else-self
invariant_of-self-else-self c =
    let at = goal.at.invariant_of-self-else-self c in
    let i = c.self.inside in
    step-kept at.After-wake_after (is-asked at.After-turn) (at-home at.After-lives) i.stop
    (subst (IsStop i.image i.cells i.limit c.note-in_default-turned.new.history.items) (sym (going-on at.After-lives).0) (halted-history at.After-wake_after ∙ c.if-self.false))

pub returns-then-self-clause-chosen : goal.returns-then-self-clause-chosen
returns-then-self-clause-chosen c =
    let at = goal.at.returns-then-self-clause-chosen c in
    let halted : (after-step at.After-wake_after).halted ≡ true = sym (halted-after at.After-wake_after) ∙ c.if-self.true in
    rw (← c.self.view_is) (going-on at.After-lives, at-home at.After-lives, is-asked at.After-turn, step-made at.After-wake_after (are-seen at.After-turn) (Some Halted) (rw halted refl))

pub returns-else-self-clause-chosen : goal.returns-else-self-clause-chosen
returns-else-self-clause-chosen c =
    let at = goal.at.returns-else-self-clause-chosen c in
    let going = going-on at.After-lives in
    let halted : (after-step at.After-wake_after).halted ≡ false = sym (halted-after at.After-wake_after) ∙ c.if-self.false in
    rw (← c.self.view_is) (going, at-home at.After-lives, is-asked at.After-turn, step-made at.After-wake_after (are-seen at.After-turn) c.self.inside.stop (going.0 ∙ rw halted refl))

pub wake_after-requires : goal.wake_after-requires
wake_after-requires c =
    let i = c.self.inside in
    record {
      few = subst (AreInArena c.in-Ok.turned) (sym c.deref.ensures.value) (
          in-arena i.image i.cells (schedule_of i.history.items) c.args.p c.in-Ok.turned c.turn.new.self (c.in-Ok.ensures.turned i.cells (schedule_of i.history.items) c.self.invariant.after));
    }

pub note_ready-requires : goal.note_ready-requires
note_ready-requires c =
    let i = c.self.inside in
    let h = i.history.items in
    let k = c.self.invariant in
    let turned = c.in-Ok.ensures.turned i.cells (schedule_of h) k.after in
    let no_wait = c.in_default-turned.not-Waits in
    record {
      last = omega (arith, c.turn.ensures.roster.kept.last, k.room.last);
      more = risen i.image i.cells (schedule_of h) c.args.p c.in-Ok.turned i.machine c.turn.new.self k.after.after no_wait turned;
      room = c.turn.ensures.roster.numbers;
      numbers = (made-step i.image i.cells (schedule_of h) c.args.p c.in-Ok.turned c.turn.new.self no_wait turned).1.numbers;
    }

-- ---- a turn that found its process waiting

pub block-requires : goal.block-requires
block-requires c =
    let i = c.self.inside in
    let k = c.self.invariant in
    let choices = schedule_of i.history.items in
    let kept = c.turn.ensures.roster.kept in
    let lives : c.lives.result ≡ true = search rules in
    record {
      enrolled = (λ j. kept.ready c.args.p j || is_some (kept.waiting c.args.p j))
          ∙ living-enrolled i.image i.cells choices (progress_after i.image i.history.items) (want_of i.roster.waiting) i.roster.ready k.listed c.args.p (sym (c.lives.ensures.lives i.image i.cells choices k.after.after) ∙ lives);
    }

waited-now : (c : After-block) → HasTurned c.self.inside.image c.self.inside.cells (schedule_of c.self.inside.history.items) c.args.p (Waits c.in-Waits.want) c.turn.new.self
waited-now c =
    let i = c.self.inside in
    subst (λ turned. HasTurned i.image i.cells (schedule_of i.history.items) c.args.p turned c.turn.new.self) c.in-Waits.is (c.in-Ok.ensures.turned i.cells (schedule_of i.history.items) c.self.invariant.after)

is-blocked : (c : After-block) → IsBlocked c.self.inside.image c.self.inside.cells (schedule_of c.self.inside.history.items) c.args.p c.in-Waits.want
is-blocked c =
    let i = c.self.inside in
    let choices = schedule_of i.history.items in
    let h = (waited-now c).0 in
    blocked-now i.image i.cells choices c.args.p c.in-Waits.want (snapshot_of c.turn.new.self) h (c.waiting_processes_need_it.ensures i.image c.args.p (run i.image choices) h.wanted h.waits)

pub invariant_of-self-in_err-block-in-Waits : goal.invariant_of-self-in_err-block-in-Waits
invariant_of-self-in_err-block-in-Waits c =
    let i = c.self.inside in
    let k = c.self.invariant in
    let done = waited-now (goal.at.invariant_of-self-in_err-block-in-Waits c).After-block in
    let same = c.in_err-block-in-Waits.ensures.refused in
    unturned-kept i k c.turn.new.history c.turn.new.self c.block.new.self c.turn.ensures.entry.entries done.1 (subst (KeepsRoll i.roster) (sym same) c.turn.ensures.roster.kept)
    (subst (HasRoomLeft c.turn.new.self) (sym same) (left-room i k c.turn.new.self c.turn.new.roster done.1 c.turn.ensures.roster)) i.stop k.named

pub returns-in_err-block-in-Waits-clause-chosen : goal.returns-in_err-block-in-Waits-clause-chosen
returns-in_err-block-in-Waits-clause-chosen c =
    let i = c.self.inside in
    let done = waited-now (goal.at.returns-in_err-block-in-Waits-clause-chosen c).After-block in
    let at = goal.at.returns-in_err-block-in-Waits-clause-chosen c in
    let unstepped = waits-unstepped i.image c.args.p (run i.image (schedule_of i.history.items)) done.0.wanted done.0.waits in
    rw (← c.self.view_is) (
    no-memory (core_value i) c.args.p c.from_residual.result (record (core_value i) { history = c.turn.new.history.items; view = machine_view i.image (snapshot_of c.turn.new.self) }) c.from_residual.ensures.1
    ((going-on at.After-lives, is-alive at.After-len, at-home at.After-lives), is-asked at.After-turn, (λ gap. gap.stepped unstepped), unturned-value at.After-turn done.1 i.stop))

pub invariant_of-self-in-Waits : goal.invariant_of-self-in-Waits
invariant_of-self-in-Waits c =
    let at = (goal.at.invariant_of-self-in-Waits c).After-block in
    let i = c.self.inside in
    let k = c.self.invariant in
    let h = i.history.items in
    let p = c.args.p in
    let done = waited-now at in
    let blocked = is-blocked at in
    let is : c.note.new.history.items ≡ h ++ record { process = p; steps = 0 } ∷ [] = c.note.ensures ∙ ap (λ (es : List Entry). es ++ record { process = p; steps = 0 } ∷ []) c.turn.ensures.entry.entries in
    let lt = is-asked (goal.at.invariant_of-self-in-Waits c).After-turn in
    let going = going-on (goal.at.invariant_of-self-in-Waits c).After-lives in
    let kept = c.turn.ensures.roster.kept in
    let told = c.in_ok-block-in-Waits.ensures in
    let before : want_of c.turn.new.roster.waiting ≡ want_of i.roster.waiting = λ j q. kept.waiting q j in
    let waits = subst (λ ws. WaitsNow p c.in-Waits.want ws (want_of c.block.new.self.waiting)) before told.waits in
    let ready : IsReadyNoMore p i.roster.ready c.block.new.self.ready = λ q. told.ready q ∙ ap (λ b. not (nat_eq p q) && b) (kept.ready q) in
    let listed = c.waiting_processes_are_listed.ensures i.image i.cells (schedule_of h) (progress_after i.image h) (want_of i.roster.waiting) (want_of c.block.new.self.waiting) i.roster.ready c.block.new.self.ready p c.in-Waits.want k.listed blocked waits ready in
    let left = left-room i k c.turn.new.self c.turn.new.roster done.1 c.turn.ensures.roster in
    let room : HasRoomLeft c.turn.new.self c.block.new.self = record { room = omega (arith, left.room, c.block.ensures.others.1); last = omega (arith, left.last, c.block.ensures.others.0) } in
    waited-kept i k p lt c.note.new.history is c.turn.new.self done.1 blocked.1 c.block.new.self listed room i.stop
    (subst (IsStop i.image i.cells i.limit c.note.new.history.items) (sym going.0) (named-left i k p lt c.note.new.history is c.turn.new.self done.1 blocked.1 c.block.new.self listed room going.1))

pub returns-in_ok-block-in-Waits-clause-chosen : goal.returns-in_ok-block-in-Waits-clause-chosen
returns-in_ok-block-in-Waits-clause-chosen c =
    let at = (goal.at.returns-in_ok-block-in-Waits-clause-chosen c).After-block in
    let i = c.self.inside in
    let h = i.history.items in
    let p = c.args.p in
    let done = waited-now at in
    let is : c.note.new.history.items ≡ h ++ record { process = p; steps = 0 } ∷ [] = c.note.ensures ∙ ap (λ (es : List Entry). es ++ record { process = p; steps = 0 } ∷ []) c.turn.ensures.entry.entries in
    let lt = is-asked (goal.at.returns-in_ok-block-in-Waits-clause-chosen c).After-turn in
    let going = going-on (goal.at.returns-in_ok-block-in-Waits-clause-chosen c).After-lives in
    let stop : i.stop ≡ stop_after (state_after i.image h) = going.0 ∙ rw going.1 refl in
    let seen = are-seen (goal.at.returns-in_ok-block-in-Waits-clause-chosen c).After-turn in
    let view = view-is i.image i.cells h (snapshot_of c.turn.new.self) done.1.after seen in
    rw (← c.self.view_is) (going, at-home (goal.at.returns-in_ok-block-in-Waits-clause-chosen c).After-lives, lt, (ap (λ (s : State). is_waiting i.image s p) (state-is i.image h) ∙ (is-blocked at).1, λ j. record (core_value i) { history = is j; stop = stop j; view = view j }))

-- ---- where processes are, where no turn was made

-- those of the machine, where constants that stood ahead may be operands
places-left : (c : After-turn) → IsSameButTop c.self.inside.image c.args.p (snapshot_of c.self.inside.machine) (snapshot_of c.turn.new.self) → places_of c.self.inside.image (snapshot_of c.turn.new.self) ≡ c.args.self.now.places
places-left c top =
    let i = c.self.inside in
    let lives : c.lives.result ≡ true = search rules in
    places-same i.image c.args.p (snapshot_of i.machine) (snapshot_of c.turn.new.self) (c.lives.ensures.levels lives) top ∙ ap (λ (v : PlacedCore). v.places) c.self.view_is

pub returns-then-not-lives-clause-places : goal.returns-then-not-lives-clause-places
returns-then-not-lives-clause-places c = refl

pub returns-then-self-len-clause-places : goal.returns-then-self-len-clause-places
returns-then-self-len-clause-places c = ap (λ (v : PlacedCore). v.places) c.self.view_is

pub returns-in-Err-NoMemory-clause-places : goal.returns-in-Err-NoMemory-clause-places
returns-in-Err-NoMemory-clause-places c = places-left (goal.at.returns-in-Err-NoMemory-clause-places c).After-turn c.in-Err-NoMemory.ensures.unturned.1.top

pub returns-in-Err-ArenaFull-clause-places : goal.returns-in-Err-ArenaFull-clause-places
returns-in-Err-ArenaFull-clause-places c = places-left (goal.at.returns-in-Err-ArenaFull-clause-places c).After-turn c.in-Err-ArenaFull.ensures.unturned.1.top

pub returns-in_err-block-in-Waits-clause-places : goal.returns-in_err-block-in-Waits-clause-places
returns-in_err-block-in-Waits-clause-places c =
    let i = c.self.inside in
    let waiting = subst (λ (turned : TurnOutcome). LeavesRest turned i.image c.args.p (snapshot_of i.machine) (snapshot_of c.turn.new.self)) c.in-Waits.is c.in-Ok.ensures.rest in
    on-err c.from_residual.result c.from_residual.ensures.0 (places-left (goal.at.returns-in_err-block-in-Waits-clause-places c).After-turn waiting)

-- ---- what comes next of other processes

pub returns-then-not-lives-clause-others : goal.returns-then-not-lives-clause-others
returns-then-not-lives-clause-others c = next-itself c.args.p c.args.self.now c.args.self.now refl

pub returns-then-self-len-clause-others : goal.returns-then-self-len-clause-others
returns-then-self-len-clause-others c =
    next-same c.args.p c.args.self.now (placed_value (record c.self.inside { stop = Some StepLimit })) (ap (λ (v : PlacedCore). v.places) c.self.view_is) (ap (λ (v : PlacedCore). v.core.program) c.self.view_is) (ap (λ (v : PlacedCore). state_of v.core) c.self.view_is)

-- where the machine has the same places
places-next : (c : After-turn) → IsSameButTop c.self.inside.image c.args.p (snapshot_of c.self.inside.machine) (snapshot_of c.turn.new.self) → (history : EntriesLeft) (stop : Option ChoiceStop)
    → state_after c.self.inside.image history.items ≡ state_after c.self.inside.image c.self.inside.history.items
    → LeavesNext c.args.p c.args.self.now (placed_value (record c.self.inside { history = history; stop = stop; machine = c.turn.new.self }))
places-next c top history stop state =
    next-same c.args.p c.args.self.now (placed_value (record c.self.inside { history = history; stop = stop; machine = c.turn.new.self })) (places-left c top) (ap (λ (v : PlacedCore). v.core.program) c.self.view_is) (
    state ∙ ap (λ (v : PlacedCore). state_of v.core) c.self.view_is)

pub returns-in-Err-NoMemory-clause-others : goal.returns-in-Err-NoMemory-clause-others
returns-in-Err-NoMemory-clause-others c =
    places-next (goal.at.returns-in-Err-NoMemory-clause-others c).After-turn c.in-Err-NoMemory.ensures.unturned.1.top c.turn.new.history c.self.inside.stop (ap (state_after c.self.inside.image) c.turn.ensures.entry.entries)

pub returns-in-Err-ArenaFull-clause-others : goal.returns-in-Err-ArenaFull-clause-others
returns-in-Err-ArenaFull-clause-others c =
    places-next (goal.at.returns-in-Err-ArenaFull-clause-others c).After-turn c.in-Err-ArenaFull.ensures.unturned.1.top c.turn.new.history (Some ArenaFull) (ap (state_after c.self.inside.image) c.turn.ensures.entry.entries)

-- where it was found waiting
waits-top : (c : After-block) → IsSameButTop c.self.inside.image c.args.p (snapshot_of c.self.inside.machine) (snapshot_of c.turn.new.self)
waits-top c =
    let i = c.self.inside in
    subst (λ (turned : TurnOutcome). LeavesRest turned i.image c.args.p (snapshot_of i.machine) (snapshot_of c.turn.new.self)) c.in-Waits.is c.in-Ok.ensures.rest

pub returns-in_err-block-in-Waits-clause-others : goal.returns-in_err-block-in-Waits-clause-others
returns-in_err-block-in-Waits-clause-others c =
    let at = goal.at.returns-in_err-block-in-Waits-clause-others c in
    places-next at.After-turn (waits-top at.After-block) c.turn.new.history c.self.inside.stop (ap (state_after c.self.inside.image) c.turn.ensures.entry.entries)

pub returns-in_ok-block-in-Waits-clause-others : goal.returns-in_ok-block-in-Waits-clause-others
returns-in_ok-block-in-Waits-clause-others c =
    let at = goal.at.returns-in_ok-block-in-Waits-clause-others c in
    let i = c.self.inside in
    let h = i.history.items in
    let is : c.note.new.history.items ≡ h ++ record { process = c.args.p; steps = 0 } ∷ [] = c.note.ensures ∙ ap (λ (es : List Entry). es ++ record { process = c.args.p; steps = 0 } ∷ []) c.turn.ensures.entry.entries in
    places-next at.After-turn (waits-top at.After-block) c.note.new.history i.stop (state-left i.image i.cells h c.args.p c.note.new.history.items is)

-- after a step
step-next : (c : After-wake_after) → HasNoStop (core_value c.self.inside) → (stop : Option ChoiceStop)
    → LeavesNext c.args.p c.args.self.now (placed_value (record c.self.inside { history = c.note-in_default-turned.new.history; stop = stop; machine = c.turn.new.self }))
step-next c going stop =
    let i = c.self.inside in
    let h = i.history.items in
    let p = c.args.p in
    let es = c.note-in_default-turned.new.history.items in
    let done = stepped-now c in
    let law : AreReadStill = c.others_leave_what_is_read.ensures in
    let depend : DependOnReads = record { kept = c.segments_depend_on_reads.ensures.kept; made = c.segments_depend_on_reads.ensures.made } in
    let turns : schedule_of es ≡ schedule_of h ++ p ∷ [] = schedule-next i.image i.cells h p es (entry-is c) done.0 in
    let after = subst (λ ps. IsMachineAfter i.image i.cells ps c.turn.new.self) (sym turns) done.1 in
    let stay = rest-others i.image p c.in-Ok.turned (snapshot_of i.machine) (snapshot_of c.turn.new.self) (no-wait c) c.in-Ok.ensures.rest in
    let now = record i { history = c.note-in_default-turned.new.history; stop = stop; machine = c.turn.new.self } in
    rw (← c.self.view_is) (entry-next law depend i c.self.invariant going p 1 es turns c.turn.new.self after stay (core_value now) refl)

pub returns-then-self-clause-others : goal.returns-then-self-clause-others
returns-then-self-clause-others c = let at = goal.at.returns-then-self-clause-others c in step-next at.After-wake_after (going-on at.After-lives) (Some Halted)

pub returns-else-self-clause-others : goal.returns-else-self-clause-others
returns-else-self-clause-others c = let at = goal.at.returns-else-self-clause-others c in step-next at.After-wake_after (going-on at.After-lives) c.self.inside.stop
