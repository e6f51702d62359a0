-- What follows from what a machine keeps of the state after a history, and what a turn tells of what it touched, as the laws of lists ask for it.
use Rattle.std.proofs.Common.{◌≡◌, ◌≢◌, inl, inr, ℕ, true, false, true≢false, ◌<◌, ◌≤◌, List, [], ◌∷◌, ◌++◌, length, length-append, arith, refl, sym, ap, ◌∙◌, subst, Option, Some, None, ◌+◌, zero, suc, Bool, Result, Err, IsSome, is_some, ◌||◌, slice_get}
use Rattle.hep_machine.specs.Words.{Units, IsLegal, is_held, layout_of, Layout, opening, run, run_from, schedule_of, state_after, progress_after, progress_after_entry, progress_after_step, State, state_after_turn, is_waiting, step, Wanted, wanted_by, view_of, is_number_among, living}
use Rattle.hep_machine.specs.declared.event.Entry.{Entry}
use Rattle.hep_cells.specs.declared.want.Want.{Want}
use Rattle.hep_blocked.specs.RosterUpdates.{AreListed, GoesAlong, GoesAlongEmptying, HasEmptied, IsBlocked, awake_by, awake_where, is_noted, is_woken, is_woken_where}
use Rattle.hep_blocked.specs.Rosters.{KeepsRoll, RosterValue, want_of}
use Rattle.hep_blocked.proofs.KeptNeeds.{listed-alike}
use Rattle.hep_history.specs.Entries.{EntriesLeft}
use Rattle.hep_state.specs.declared.core_state.CoreState.{CoreState}
use Rattle.hep_state.specs.Words.{IsMachineAfter, Snapshot, snapshot_of, IsAfter, HasWaited, HasPurged, HasTurned, HasLevels}
use Rattle.hep_views.specs.MachineViews.{machine_view}
use Rattle.hep_core.specs.Invariant.{AreFew, AreLiving, CoreInvariant}
use Rattle.hep_core.specs.CoreValues.{IsStop, CoreValue, IsChoice}
use Rattle.hep_core.specs.declared.run_core.Core.TheInside.{Inside}
use Rattle.hep_core.specs.declared.stop.ChoiceStop.{ChoiceStop}
use Rattle.hep_commit.specs.TicketId.{TicketId}
use Rattle.hep_core.specs.Tickets.{is_out}
use Rattle.hep_core.proofs.UnchangedPlaces.{living-stepped, living-waited}
use Rattle.hep_core.proofs.Histories.{legal-stepped, legal-waited, progress-last, progress-stepped, schedule-stepped, schedule-waited, state-is, state-stepped, turned}
use Rattle.hep_layout.proofs.HeldFrames.{run-last}
use Rattle.hep_machine.proofs.Others.{activations_after, processes_after}
use Rattle.hep_source.proofs.Tests.{some-there}
use Rattle.hep_state.proofs.ProcessNumbers.{length-stacks}
use Rattle.std.specs.Result.{IsErrAnd}
use Rattle.std.proofs.lemmas.Option.{none-some, same_Some, slice_get_within}
use Rattle.std.proofs.lemmas.Result.{err_from_is_err_and}
use Rattle.hep_layout.specs.Words.{address}
use Rattle.hep_image.specs.Image.{most_cells}
use Rattle.hep_blocked.proofs.LivingProcesses.{waits-idle}
use Rattle.hep_step.specs.declared.closed_range.ClosedRange.{ClosedRange}
use Rattle.hep_step.specs.PurgeEffects.{have_cell}
use Rattle.hep_step.specs.PurgeReady.{AreReached}
use Rattle.hep_blocked.specs.Needs.{need_of}
use Rattle.hep_state.specs.declared.turn.TurnOutcome.{TurnOutcome}
use Rattle.hep_state.specs.declared.turn.TurnOutcome.TheVariants.{Stepped, Purged, Waits}
use Rattle.hep_core.specs.declared.core_fault.ChooseFault.{ChooseFault}
use Rattle.hep_core.specs.declared.core_fault.ChooseFault.TheVariants.{NoMemory}
use Rattle.hep_core.specs.declared.stop.Turn.{Turn}
use Rattle.hep_core.specs.Waking.{AreInArena, HasRoomLeft}
use Rattle.hep_state.proofs.Runs.{few-more}

-- what is seen of machines: `hep_views`
abbrev pub AreSeen : Units → ℕ → Type 0
AreSeen program cells = (choices : List ℕ) (m : Snapshot) → IsAfter program cells choices m → machine_view program m ≡ view_of program is_held (run program choices)

pub some-of : {A : Type 0} (o : Option A) → is_some o ≡ true → o ≢ None
some-of o e f = true≢false (sym e ∙ ap is_some f)

pub there-is : (o : Option State) → o ≢ None → (s : State) × (o ≡ Some s)
there-is None h = absurd (h refl)
there-is (Some s) h = (s, refl)

module _ (program : Units) (cells : ℕ) (history : List Entry) (m : Snapshot) (after : IsAfter program cells (schedule_of history) m) where
  pub halted-is : m.halted ≡ (state_after program history).halted
  halted-is = after.shows.halted ∙ ap (λ (s : State). s.halted) (sym (state-is program history))

  pub records-are : m.records ≡ (state_after program history).records
  records-are = after.shows.records ∙ ap (λ (s : State). s.records) (sym (state-is program history))

  pub faults-are : m.faults ≡ (state_after program history).faults
  faults-are = after.shows.faults ∙ ap (λ (s : State). s.faults) (sym (state-is program history))

  pub activations-are : m.activations ≡ length (state_after program history).activations
  activations-are = after.shows.activations ∙ ap (λ (s : State). length s.activations) (sym (state-is program history))

  pub processes-are : length m.processes ≡ length (state_after program history).processes
  processes-are = after.shows.processes ∙ ap (λ (s : State). length s.processes) (sym (state-is program history))

  pub laid-out : IsSome (layout_of program cells is_held (schedule_of history))
  laid-out = some-there (layout_of program cells is_held (schedule_of history)) after.layout after.laid

  pub view-is : AreSeen program cells → machine_view program m ≡ view_of program is_held (state_after program history)
  view-is seen = seen (schedule_of history) m after ∙ ap (view_of program is_held) (sym (state-is program history))

-- ---- a turn that wasn't taken

-- a core with the same entries, whose machine keeps the same state
module _ (c : Inside) (kept : CoreInvariant c) (history : EntriesLeft) (machine : CoreState) (roster : RosterValue) (same : history.items ≡ c.history.items) (after : IsMachineAfter c.image c.cells (schedule_of c.history.items) machine)
    (noted : KeepsRoll c.roster roster) (room : HasRoomLeft machine roster) where
  pub unturned-kept : (stop : Option ChoiceStop) → IsStop c.image c.cells c.limit c.history.items stop → CoreInvariant (record c { history = history; stop = stop; machine = machine; roster = roster })
  unturned-kept stop named =
      record {
        after = subst (λ es. IsMachineAfter c.image c.cells (schedule_of es) machine) (sym same) after;
        listed = subst (λ es. AreListed c.image c.cells (schedule_of es) (progress_after c.image es) (want_of roster.waiting) roster.ready) (sym same) (
            listed-alike c.image c.cells (schedule_of c.history.items) (progress_after c.image c.history.items) (want_of c.roster.waiting) (want_of roster.waiting) c.roster.ready roster.ready kept.listed noted.waiting noted.ready);
        room = room;
        legal = subst (IsLegal c.image c.cells c.limit) (sym same) kept.legal;
        few = subst (AreFew c.image) (sym same) kept.few;
        named = subst (λ es. IsStop c.image c.cells c.limit es stop) (sym same) named;
        living = subst (λ es. AreLiving c.image es c.out.items) (sym same) kept.living;
        tabled = kept.tabled;
        owned = kept.owned;
      }

-- what is seen of it
pub unturned-view : (c : Inside) (kept : CoreInvariant c) (machine : CoreState) → IsMachineAfter c.image c.cells (schedule_of c.history.items) machine → AreSeen c.image c.cells
    → machine_view c.image (snapshot_of machine) ≡ machine_view c.image (snapshot_of c.machine)
unturned-view c kept machine after seen =
    view-is c.image c.cells c.history.items (snapshot_of machine) after.after seen
    ∙ sym (view-is c.image c.cells c.history.items (snapshot_of c.machine) kept.after.after seen)

-- ---- one step more

module _ (program : Units) (cells : ℕ) (h : List Entry) (p : ℕ) (h' : List Entry) (is : h' ≡ h ++ record { process = p; steps = 1 } ∷ []) (made : step program p (run program (schedule_of h)) ≢ None) where
  made-there : step program p (state_after program h) ≢ None
  made-there = subst (λ (s : State). step program p s ≢ None) (sym (state-is program h)) made

  pub next : State
  next = (there-is (step program p (state_after program h)) made-there).0

  pub steps-on : step program p (state_after program h) ≡ Some next
  unfolding next
  steps-on = (there-is (step program p (state_after program h)) made-there).1

  pub state-next : state_after program h' ≡ next
  state-next = ap (state_after program) is ∙ state-stepped program h p next steps-on

  pub schedule-next : schedule_of h' ≡ schedule_of h ++ p ∷ []
  schedule-next = ap schedule_of is ∙ schedule-stepped h p

  -- an entry more makes one activation at most, and one process
  pub few-next : AreFew program h → AreFew program h'
  few-next few =
      let s = state_after program h in
      let t = state_after_turn program p s in
      let there : state_after program h' ≡ t = ap (state_after program) is ∙ turned program h p in
      let longer : length h' ≡ length h + 1 = ap length is ∙ length-append h (record { process = p; steps = 1 } ∷ []) in
      let acts : length t.activations ≤ length s.activations + 1 = few-more s.activations t.activations (activations_after program p s) in
      let procs : length t.processes ≤ length s.processes + 1 = elim (processes_after program p s) [ inl e ↦ omega (arith, e) | inr e ↦ omega (arith, e) ] in
      record {
        activations = omega (arith, few.activations, acts, longer, ap (λ (z : State). length z.activations) there);
        processes = omega (arith, few.processes, procs, longer, ap (λ (z : State). length z.processes) there);
      }

  -- those that are out live on
  pub living-next : (out : List TicketId) → is_out p out ≡ false → AreLiving program h out → AreLiving program h' out
  living-next out home lives = subst (λ es. AreLiving program es out) (sym is) (living-stepped program h p next out steps-on home lives)

  -- the lists that go along with the step
  pub listed-next : (waits : ℕ → Option Want) (ready : List ℕ) → (progress_after program h).state ≡ run program (schedule_of h)
      → AreListed program cells (schedule_of h ++ p ∷ []) (progress_after_step program (progress_after program h) p (run program (schedule_of h ++ p ∷ []))) waits ready
      → AreListed program cells (schedule_of h') (progress_after program h') waits ready
  listed-next waits ready state listed =
      subst (λ ps. AreListed program cells ps (progress_after program h') waits ready) (sym schedule-next) (
      subst (λ x. AreListed program cells (schedule_of h ++ p ∷ []) x waits ready) (sym (ap (progress_after program) is ∙ progress-stepped program h p state)) listed)

  module _ (m : CoreState) (after : IsMachineAfter program cells (schedule_of h ++ p ∷ []) m) where
    pub after-next : IsMachineAfter program cells (schedule_of h') m
    after-next = subst (λ ps. IsMachineAfter program cells ps m) (sym schedule-next) after

    pub halted-next : m.halted ≡ next.halted
    halted-next = halted-is program cells h' (snapshot_of m) after-next.after ∙ ap (λ (s : State). s.halted) state-next

    pub legal-next : (limit : ℕ) → IsLegal program cells limit h → length h < limit → IsLegal program cells limit h'
    legal-next limit legal lt =
        let room = subst (λ es. IsSome (layout_of program cells is_held (schedule_of es))) is (laid-out program cells h' (snapshot_of m) after-next.after) in
        subst (IsLegal program cells limit) (sym is) (legal-stepped program cells limit h p next legal lt room steps-on)

    pub view-next : AreSeen program cells → machine_view program (snapshot_of m) ≡ view_of program is_held next
    view-next seen = view-is program cells h' (snapshot_of m) after-next.after seen ∙ ap (view_of program is_held) state-next

-- ---- one entry more, without a step

module _ (program : Units) (cells : ℕ) (h : List Entry) (p : ℕ) (h' : List Entry) (is : h' ≡ h ++ record { process = p; steps = 0 } ∷ []) where
  pub schedule-left : schedule_of h' ≡ schedule_of h
  schedule-left = ap schedule_of is ∙ schedule-waited h p

  pub state-left : state_after program h' ≡ state_after program h
  state-left = state-is program h' ∙ ap (run program) schedule-left ∙ sym (state-is program h)

  pub few-left : AreFew program h → AreFew program h'
  few-left few =
      let longer : length h' ≡ length h + 1 = ap length is ∙ length-append h (record { process = p; steps = 0 } ∷ []) in
      record {
        activations = omega (arith, few.activations, longer, ap (λ (z : State). length z.activations) state-left);
        processes = omega (arith, few.processes, longer, ap (λ (z : State). length z.processes) state-left);
      }

  pub listed-left : (waits : ℕ → Option Want) (ready : List ℕ) → AreListed program cells (schedule_of h) (progress_after_entry program (progress_after program h) (record { process = p; steps = 0 }) 0) waits ready
      → AreListed program cells (schedule_of h') (progress_after program h') waits ready
  listed-left waits ready listed =
      subst (λ ps. AreListed program cells ps (progress_after program h') waits ready) (sym schedule-left) (
      subst (λ x. AreListed program cells (schedule_of h) x waits ready) (sym (ap (progress_after program) is ∙ progress-last program h (record { process = p; steps = 0 }))) listed)

  pub legal-left : (limit : ℕ) → IsLegal program cells limit h → length h < limit → is_waiting program (run program (schedule_of h)) p ≡ true → IsLegal program cells limit h'
  legal-left limit legal lt waits =
      subst (IsLegal program cells limit) (sym is) (legal-waited program cells limit h p legal lt (ap (λ (s : State). is_waiting program s p) (state-is program h) ∙ waits))

-- ---- the opening

-- nothing has stopped
pub opening-goes : (program : Units) → (state_after program []).halted ≡ false
unfolding state_after run run_from schedule_of opening
opening-goes program = refl

-- ---- a core after a turn

-- that made a step
module _ (i : Inside) (k : CoreInvariant i) (p : ℕ) (lt : length i.history.items < i.limit) (home : is_out p i.out.items ≡ false) (history : EntriesLeft) (is : history.items ≡ i.history.items ++ record { process = p; steps = 1 } ∷ []) (m : CoreState)
    (made : step i.image p (run i.image (schedule_of i.history.items)) ≢ None) (after : IsMachineAfter i.image i.cells (schedule_of i.history.items ++ p ∷ []) m) (roster : RosterValue)
    (listed : AreListed i.image i.cells (schedule_of i.history.items ++ p ∷ []) (progress_after_step i.image (progress_after i.image i.history.items) p (run i.image (schedule_of i.history.items ++ p ∷ []))) (want_of roster.waiting) roster.ready)
    (room : HasRoomLeft m roster) where
  pub stepped-kept : (stop : Option ChoiceStop) → IsStop i.image i.cells i.limit history.items stop → CoreInvariant (record i { history = history; stop = stop; machine = m; roster = roster })
  stepped-kept stop named =
      record {
        after = after-next i.image i.cells i.history.items p history.items is made m after;
        listed = listed-next i.image i.cells i.history.items p history.items is made (want_of roster.waiting) roster.ready k.listed.state listed;
        room = room;
        legal = legal-next i.image i.cells i.history.items p history.items is made m after i.limit k.legal lt;
        few = few-next i.image i.cells i.history.items p history.items is made k.few;
        named = named;
        living = living-next i.image i.cells i.history.items p history.items is made i.out.items home k.living;
        tabled = k.tabled;
        owned = k.owned;
      }

-- that found its process waiting
module _ (i : Inside) (k : CoreInvariant i) (p : ℕ) (lt : length i.history.items < i.limit) (history : EntriesLeft) (is : history.items ≡ i.history.items ++ record { process = p; steps = 0 } ∷ []) (m : CoreState)
    (after : IsMachineAfter i.image i.cells (schedule_of i.history.items) m) (waiting : is_waiting i.image (run i.image (schedule_of i.history.items)) p ≡ true) (roster : RosterValue)
    (listed : AreListed i.image i.cells (schedule_of i.history.items) (progress_after_entry i.image (progress_after i.image i.history.items) (record { process = p; steps = 0 }) 0) (want_of roster.waiting) roster.ready)
    (room : HasRoomLeft m roster) where
  pub waited-kept : (stop : Option ChoiceStop) → IsStop i.image i.cells i.limit history.items stop → CoreInvariant (record i { history = history; stop = stop; machine = m; roster = roster })
  waited-kept stop named =
      record {
        after = subst (λ ps. IsMachineAfter i.image i.cells ps m) (sym (schedule-left i.image i.cells i.history.items p history.items is)) after;
        listed = listed-left i.image i.cells i.history.items p history.items is (want_of roster.waiting) roster.ready listed;
        room = room;
        legal = legal-left i.image i.cells i.history.items p history.items is i.limit k.legal lt waiting;
        few = few-left i.image i.cells i.history.items p history.items is k.few;
        named = named;
        living = subst (λ es. AreLiving i.image es i.out.items) (sym is) (living-waited i.image i.history.items p i.out.items k.living);
        tabled = k.tabled;
        owned = k.owned;
      }

  -- it has stopped no more than before
  pub named-left : IsStop i.image i.cells i.limit i.history.items None → IsStop i.image i.cells i.limit history.items None
  named-left going = ap (λ (s : State). s.halted) (state-left i.image i.cells i.history.items p history.items is) ∙ going

pub emptied-to-lists : (program : Units) (cells : ℕ) (choices : List ℕ) (p : ℕ) (layout : Layout) (ranges : List ClosedRange) → layout_of program cells is_held choices ≡ Some layout → HasPurged program cells choices p ranges → HasEmptied program choices p layout (have_cell ranges)
emptied-to-lists program cells choices p layout ranges laid h =
    record { others = λ at c found outside. h.others layout at c laid found outside; now = λ at c found inside. h.emptied layout at c laid found inside }

-- ---- a turn that made a step

abbrev pub IsNoWait : TurnOutcome → Type 0
IsNoWait turned = (want : Want) → turned ≡ Waits want → ⊥

pub made-step : (program : Units) (cells : ℕ) (choices : List ℕ) (p : ℕ) (turned : TurnOutcome) (new : CoreState) → IsNoWait turned → HasTurned program cells choices p turned new
    → (step program p (run program choices) ≢ None) × IsMachineAfter program cells (choices ++ p ∷ []) new
made-step program cells choices p (Stepped changed) new other h = (h.0, h.1)
made-step program cells choices p Purged new other h = (h.0, h.1)
made-step program cells choices p (Waits want) new other h = absurd (other want refl)

each-reached : (m : CoreState) (ranges : List ClosedRange) → length m.frames.arena.contents ≤ most_cells → AreReached m.frames.arena ranges → (i : ℕ) (r : ClosedRange) → slice_get ranges i ≡ Some r → r.first + r.cells ≤ most_cells
each-reached m [] few h i r e = absurd (none-some r e)
each-reached m (s ∷ ss) few h zero r e = subst (λ (x : ClosedRange). x.first + x.cells ≤ most_cells) (same_Some s r e) (omega (arith, few, h.0.inside))
each-reached m (s ∷ ss) few h (suc i) r e = each-reached m ss few h.1 i r e

pub in-arena : (program : Units) (cells : ℕ) (choices : List ℕ) (p : ℕ) (turned : TurnOutcome) (new : CoreState) → HasTurned program cells choices p turned new → AreInArena turned new.passing.ranges.items
in-arena program cells choices p (Stepped changed) new h = tt
in-arena program cells choices p Purged new h = each-reached new new.passing.ranges.items (omega (arith, h.1.few, h.1.after.size)) h.3
in-arena program cells choices p (Waits want) new h = tt

-- as many processes as the state has
pub as-many : (program : Units) (cells : ℕ) (choices : List ℕ) (m : CoreState) → IsAfter program cells choices (snapshot_of m) → m.made ≡ length (run program choices).processes
as-many program cells choices m after = sym (length-stacks m.processes.items 1 m.made) ∙ after.shows.processes

-- no process is taken back
pub risen : (program : Units) (cells : ℕ) (choices : List ℕ) (p : ℕ) (turned : TurnOutcome) (old new : CoreState) → IsAfter program cells choices (snapshot_of old) → IsNoWait turned → HasTurned program cells choices p turned new
    → old.made ≤ new.made
risen program cells choices p turned old new after other has =
    let s = run program choices in
    let made = made-step program cells choices p turned new other has in
    let grown : length s.processes ≤ length (run program (choices ++ p ∷ [])).processes =
    subst (λ (t : State). length s.processes ≤ length t.processes) (sym (run-last program choices p)) (elim (processes_after program p s) [ inl e ↦ omega (arith, e) | inr e ↦ omega (arith, e) ]) in
    omega (arith, grown, as-many program cells choices old after, as-many program cells (choices ++ p ∷ []) new made.1.after)

-- who is ready once those who were woken and those who are noted are
noted-so : (program : Units) (choices : List ℕ) (p : ℕ) (woken : ℕ → Bool) (ready noted left : List ℕ) (before now : ℕ)
    → before ≡ length (run program choices).processes → now ≡ length (run program (choices ++ p ∷ [])).processes
    → ((q : ℕ) → is_number_among q noted ≡ is_noted p (is_some (living (run program (choices ++ p ∷ [])) p)) before now ready q)
    → ((q : ℕ) → is_number_among q left ≡ (woken q || is_number_among q noted))
    → (q : ℕ) → is_number_among q left
    ≡ (woken q || is_noted p (is_some (living (run program (choices ++ p ∷ [])) p)) (length (run program choices).processes) (length (run program (choices ++ p ∷ [])).processes) ready q)
noted-so program choices p woken ready noted left before now counted many are is q =
    is q
    ∙ (ap (λ b. woken q || b) (are q)
    ∙ λ i. woken q || is_noted p (is_some (living (run program (choices ++ p ∷ [])) p)) (counted i) (many i) ready q)

-- the lists once those are woken that waited, and the others are noted
pub along : (program : Units) (choices : List ℕ) (p : ℕ) (changed : Option Want) (waiting after : ℕ → Option Want) (ready noted left : List ℕ) (before now : ℕ)
    → before ≡ length (run program choices).processes → now ≡ length (run program (choices ++ p ∷ [])).processes
    → ((q : ℕ) → after q ≡ awake_by changed (waiting q))
    → ((q : ℕ) → is_number_among q noted ≡ is_noted p (is_some (living (run program (choices ++ p ∷ [])) p)) before now ready q)
    → ((q : ℕ) → is_number_among q left ≡ (is_woken changed waiting q || is_number_among q noted))
    → GoesAlong program choices p changed waiting after ready left
along program choices p changed waiting after ready noted left before now counted many waits are woken =
    record {
      waits = waits;
      are_ready = noted-so program choices p (is_woken changed waiting) ready noted left before now counted many are woken;
    }

pub along-emptying : (program : Units) (choices : List ℕ) (p : ℕ) (emptied : ℕ → Bool) (waiting after : ℕ → Option Want) (ready noted left : List ℕ) (before now : ℕ)
    → before ≡ length (run program choices).processes → now ≡ length (run program (choices ++ p ∷ [])).processes
    → ((q : ℕ) → after q ≡ awake_where emptied (waiting q))
    → ((q : ℕ) → is_number_among q noted ≡ is_noted p (is_some (living (run program (choices ++ p ∷ [])) p)) before now ready q)
    → ((q : ℕ) → is_number_among q left ≡ (is_woken_where emptied waiting q || is_number_among q noted))
    → GoesAlongEmptying program choices p emptied waiting after ready left
along-emptying program choices p emptied waiting after ready noted left before now counted many waits are woken =
    record {
      waits = waits;
      are_ready = noted-so program choices p (is_woken_where emptied waiting) ready noted left before now counted many are woken;
    }

-- ---- a process that waits

pub waits-unstepped : (program : Units) (p : ℕ) (s : State) (w : Wanted) → wanted_by program p s ≡ Some w → step program p s ≡ None
waits-unstepped program p s w e = waits-idle program p s (ap is_some e)

-- what a turn says of it is what the laws of lists ask for
pub blocked-now : (program : Units) (cells : ℕ) (choices : List ℕ) (p : ℕ) (want : Want) (m : Snapshot) → (h : HasWaited program cells choices p want.cell want.full m)
    → need_of program p (run program choices) ≡ Some h.wanted → IsBlocked program cells choices p want
blocked-now program cells choices p want m h needed = (
  record {
    wanted = h.wanted;
    needed = needed;
    state = h.state;
    kept = λ layout laid. subst (λ (fs : Layout). address program (run program choices) fs h.wanted.at ≡ Some want.cell) (same_Some _ _ (sym h.after.laid ∙ laid)) h.found;
  },
  ap is_some h.waits,
)

-- a process with levels is one of those that were made
pub within : (m : Snapshot) (p : ℕ) → HasLevels m p → p ≤ length m.processes
within m zero h = absurd (none-some _ h.kept)
within m (suc k) h = omega (arith, slice_get_within m.processes k _ h.kept)

-- ---- refused memory

pub no-memory : (P : CoreValue) (p : ℕ) (r : Result Turn ChooseFault) (Q : CoreValue) → IsErrAnd r (λ e. e ≡ NoMemory) → IsChoice P p (Err NoMemory) Q → IsChoice P p r Q
no-memory P p r Q h given = let told = err_from_is_err_and r h in subst (λ x. IsChoice P p x Q) (sym (told.1 ∙ ap Err told.2)) given
