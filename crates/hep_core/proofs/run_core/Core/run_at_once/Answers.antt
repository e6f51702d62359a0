use Rattle.std.proofs.Common.{◌≡◌, ◌≤◌, ◌+◌, ◌*◌, ℕ, List, ◌++◌, Some, true, false, length, replicate, refl, sym, ap, ◌∙◌, subst, arith}
use Rattle.hep_machine.specs.declared.event.Entry.{Entry}
use Rattle.hep_machine.specs.Histories.{most_steps}
use Rattle.hep_machine.specs.Words.{last_process, next_of_ready, schedule_of, state_after, view_of, is_held}
use Rattle.hep_blocked.specs.Rosters.{want_of}
use Rattle.hep_history.specs.Entries.{EntriesLeft}
use Rattle.hep_commit.specs.DecodedImages.{AreTables}
use Rattle.hep_commit.specs.Going.{HasGone}
use Rattle.hep_commit.specs.OwnCells.{AreOwnCells}
use Rattle.hep_commit.specs.TurnsInPlace.{IsAsBefore}
use Rattle.hep_commit.proofs.AppliedSegments.{AreTurnsIn}
use Rattle.hep_state.specs.declared.core_state.CoreState.{CoreState}
use Rattle.hep_state.specs.Words.{IsMachineAfter, LivesOn, snapshot_of}
use Rattle.hep_state.proofs.OtherProcesses.{beside-again}
use Rattle.hep_core.specs.Commits.{AreTurnsAtOnce, LeavesNext, most_tickets}
use Rattle.hep_core.specs.Invariant.{CoreInvariant, core_value, placed_value}
use Rattle.hep_core.specs.declared.run_core.Core.TheInside.{Inside}
use Rattle.hep_core.specs.ProcessPlaces.{PlacedCore, places_of}
use Rattle.hep_core.specs.CoreValues.{CoreValue, IsFree, IsStop, free_of, next_ready_of, state_of}
use Rattle.hep_core.specs.Waking.{HasRoomLeft}
use Rattle.hep_core.proofs.OtherTickets.{AreReadStill, entry-next, next-between}
use Rattle.hep_core.proofs.AfterPrivate.{left-kept, roll-same}
use Rattle.hep_core.proofs.ChoiceChains.{CanRun, core_at, run-through, turns-made}
use Rattle.hep_core.proofs.Committing.{DependOnReads, IsSettledIn, turns-of}
use Rattle.hep_core.proofs.Histories.{schedule-many}
use Rattle.hep_core.proofs.GoodTickets.{AreSeen, view-is}
use Rattle.hep_core.proofs.OutStates.{left-placed, settled-by, turn-in}
use Rattle.hep_core.proofs.run_core.Core.run_at_once.Goals.{After-run_in_place}
use Rattle.hep_core.proofs.run_core.Core.run_at_once.Goals as goal
use Rattle.hep_commit.proofs.AdvanceRunsToBreakpoint.{turns-are}

-- where no more than room was made for entries, nothing has changed
pub returns-then-is_err-clause-none : goal.returns-then-is_err-clause-none
returns-then-is_err-clause-none c never =
    (λ j. record { core = record (core_value c.self.inside) { history = c.reserve.ensures.items j }; places = places_of c.self.inside.image (snapshot_of c.self.inside.machine) }) ∙ c.self.view_is

pub settle-requires : goal.settle-requires
settle-requires c = turn-in c.self.inside c.self.invariant c.args.self.now c.self.view_is c.requires.free.0 c.args.p c.requires.free.1 c.args.p refl

-- ---- what is known before

pub run_in_place-requires-clause-prepared : goal.run_in_place-requires-clause-prepared
run_in_place-requires-clause-prepared c =
    record {
      tables = subst (AreTables c.self.inside.image) (sym c.deref.ensures.value) c.self.invariant.tabled;
      own = subst (AreOwnCells c.self.inside.image) (sym c.deref-2.ensures.value) c.self.invariant.owned;
      ahead = c.requires.program ∙ ap (λ (v : PlacedCore). v.core.program) (sym c.self.view_is);
    }

pub run_in_place-requires-clause-turn : goal.run_in_place-requires-clause-turn
run_in_place-requires-clause-turn c =
    (settled-by c.self.inside c.self.invariant c.args.self.now c.self.view_is c.requires.free.0 c.args.p c.requires.free.1 c.args.p refl c.settle.new.self c.settle.ensures.after c.settle.ensures.top c.settle.ensures.made).turn

module _ (c : After-run_in_place) where
  abbrev i : Inside
  i = c.self.inside

  abbrev p : ℕ
  p = c.args.p

  abbrev m : CoreState
  m = c.run_in_place.new.machine

  abbrev h : List Entry
  h = i.history.items

  free : IsFree (core_value i) p
  free = subst (λ (v : PlacedCore). IsFree v.core p) (sym c.self.view_is) c.requires.free

  is : IsSettledIn i p c.settle.new.self
  is = settled-by i c.self.invariant c.args.self.now c.self.view_is c.requires.free.0 p c.requires.free.1 p refl c.settle.new.self c.settle.ensures.after c.settle.ensures.top c.settle.ensures.made

  seen : AreSeen i.image i.cells
  seen choices n = c.views_are_of_states.ensures i.image i.cells choices n c.is_runnable.ensures.accepted c.is_runnable.ensures.main

  -- ---- none were made

  module _ (never : c.run_in_place.result ≡ false) where
    as_before : IsAsBefore i.image c.settle.new.self m
    as_before = c.run_in_place.ensures.none never

    still : IsMachineAfter i.image i.cells (schedule_of h) m
    still = as_before.kept i.cells (schedule_of h) is.after

    room-still : HasRoomLeft m i.roster
    room-still =
        let made = as_before.made ∙ is.made in
        record { room = omega (arith, made, c.self.invariant.room.room); last = omega (arith, made, c.self.invariant.room.last) }

    kept-still : CoreInvariant (record i { history = c.reserve.new.self; machine = m; saved = c.run_in_place.new.saved })
    kept-still = left-kept i c.self.invariant c.reserve.new.self c.reserve.ensures.items m still i.roster (roll-same i.roster) room-still c.run_in_place.new.saved i.stop c.self.invariant.named

    same : placed_value (record i { history = c.reserve.new.self; machine = m; saved = c.run_in_place.new.saved }) ≡ c.args.self.now
    same =
        let places = ap (λ z. places_of i.image z) as_before.shown ∙ is.places in
        left-placed i c.self.invariant c.reserve.new.self c.reserve.ensures.items m still places seen i.stop ∙ c.self.view_is

  -- ---- all were

  module _ (ran : c.run_in_place.result ≡ true) (history : EntriesLeft) (noted : history.items ≡ c.reserve.new.self.items ++ replicate c.args.turns (record { process = c.args.p; steps = 1023 })) (room : length i.history.items + c.args.turns ≤ i.limit) (given : ℕ)
      (count : given ≡ i.given + c.args.turns) (left : i.given + c.args.turns ≤ most_tickets) where
    abbrev n : ℕ
    n = c.args.turns

    abbrev now : Inside
    now = record i { history = history; machine = m; saved = c.run_in_place.new.saved; given = given }

    abbrev entry : Entry
    entry = record { process = p; steps = 1023 }

    few : 1023 ≤ most_steps
    few = omega arith

    depend : DependOnReads
    depend = record { kept = c.segments_depend_on_reads.ensures.kept; made = c.segments_depend_on_reads.ensures.made }

    laws : AreTurnsIn i.image
    laws = turns-of i.image _ c.private_steps_are_turns.ensures c.is_runnable.ensures.accepted c.is_runnable.ensures.main

    gone-so : (after : List ℕ) × HasGone i.image i.cells p (schedule_of h) (n * 1023) after × IsMachineAfter i.image i.cells after m
    gone-so = c.run_in_place.ensures.gone ran i.cells (schedule_of h) is.after

    lives : LivesOn p 0 c.settle.new.self m
    lives = c.run_in_place.ensures.lives ran

    last : last_process h ≡ p
    last = subst (λ (v : PlacedCore). last_process v.core.history ≡ p) (sym c.self.view_is) c.requires.last

    next : next_ready_of (core_value i) ≡ Some p
    next = subst (λ (v : PlacedCore). next_ready_of v.core ≡ Some p) (sym c.self.view_is) c.requires.next

    can : CanRun c.lists_go_along_with_steps.ensures i.image i.cells i.limit p (want_of i.roster.waiting) i.roster.ready i.out.items free.2 1022 few h n
    can =
        let k = c.self.invariant in
        record {
          far = record { layout = k.after.after.layout; laid = k.after.after.laid; listed = k.listed; few = k.few; legal = λ within. k.legal; living = k.living };
          going = free.0.1;
          lives = free.1;
          last = last;
          next = ap (λ q. next_of_ready q (free_of (core_value i))) (sym last) ∙ next;
          room = room;
          machine = snapshot_of c.settle.new.self;
          there = is.after.after;
          levels = is.turn.living;
          are = c.run_in_place.ensures.private ran is.turn.living;
        }

    end : CanRun c.lists_go_along_with_steps.ensures i.image i.cells i.limit p (want_of i.roster.waiting) i.roster.ready i.out.items free.2 1022 few (h ++ replicate n entry) 0
    end = run-through c.lists_go_along_with_steps.ensures i.image i.cells i.limit p (want_of i.roster.waiting) i.roster.ready i.out.items free.2 1022 few laws is.after.few h n can

    entries : h ++ replicate n entry ≡ history.items
    entries = sym (noted ∙ ap (λ es. es ++ replicate n entry) c.reserve.ensures.items)

    end-now : CanRun c.lists_go_along_with_steps.ensures i.image i.cells i.limit p (want_of i.roster.waiting) i.roster.ready i.out.items free.2 1022 few history.items 0
    end-now = subst (λ es. CanRun c.lists_go_along_with_steps.ensures i.image i.cells i.limit p (want_of i.roster.waiting) i.roster.ready i.out.items free.2 1022 few es 0) entries end

    turns-now : schedule_of history.items ≡ schedule_of h ++ replicate (n * 1023) p
    turns-now = ap schedule_of (sym entries) ∙ schedule-many h p 1023 n

    after-it : IsMachineAfter i.image i.cells (schedule_of history.items) m
    after-it =
        subst (λ ps. IsMachineAfter i.image i.cells ps m) (turns-are i.image i.cells p (schedule_of h) (n * 1023) gone-so.0 gone-so.1 ∙ sym turns-now) gone-so.2

    made-same : m.made ≡ i.machine.made
    made-same = lives.made ∙ is.made

    kept : CoreInvariant now
    kept =
        let k = c.self.invariant in
        record {
          after = after-it;
          listed = end-now.far.listed;
          room = record { room = omega (arith, made-same, k.room.room); last = omega (arith, made-same, k.room.last) };
          legal = end-now.far.legal (omega (arith, end-now.room));
          few = end-now.far.few;
          named = subst (λ stop. IsStop i.image i.cells i.limit history.items stop) (sym free.0.0) end-now.going;
          living = end-now.far.living;
          tabled = k.tabled;
          owned = k.owned;
        }

    abbrev at_core : List Entry → ℕ → CoreValue
    at_core es g = core_at c.lists_go_along_with_steps.ensures i.image i.cells i.limit p (want_of i.roster.waiting) i.roster.ready i.out.items free.2 1022 few es g

    begins : at_core h i.given ≡ core_value i
    begins =
        let view = view-is i.image i.cells h (snapshot_of i.machine) c.self.invariant.after.after seen in
        λ j. record (core_value i) { stop = sym free.0.0 j; view = sym view j }

    ends : at_core (h ++ replicate n entry) (i.given + n) ≡ core_value now
    ends =
        let view = ap (λ es. view_of i.image is_held (state_after i.image es)) entries ∙ sym (view-is i.image i.cells history.items (snapshot_of m) after-it.after seen) in
        λ j. record (core_value i) { history = entries j; stop = sym free.0.0 j; view = view j; given = sym count j }

    made : AreTurnsAtOnce p n c.args.self.now (placed_value now)
    unfolding can
    made =
        let there = turns-made c.lists_go_along_with_steps.ensures i.image i.cells i.limit p (want_of i.roster.waiting) i.roster.ready i.out.items free.2 1022 few laws is.after.few depend refl h n can c.requires.some i.given left
        (placed_value now) (sym ends) (record { machine = snapshot_of m; after = after-it.after; places = refl }) in
        subst (λ (v : PlacedCore). AreTurnsAtOnce p n v (placed_value now)) ((λ j. record (placed_value i) { core = begins j; places = is.places j }) ∙ c.self.view_is) there

    leaves : LeavesNext p c.args.self.now (placed_value now)
    leaves =
        let law : AreReadStill = c.others_leave_what_is_read.ensures in
        let stay = beside-again p (snapshot_of i.machine) (snapshot_of c.settle.new.self) (snapshot_of m) is.others lives.others in
        let rest = entry-next law depend i c.self.invariant free.0 p (n * 1023) history.items turns-now m after-it stay (core_value now) refl in
        next-between p c.args.self.now (placed_value i) (placed_value now) (placed_value now) (ap (λ (v : PlacedCore). v.places) c.self.view_is) (ap (λ (v : PlacedCore). v.core.program) c.self.view_is)
        (ap (λ (v : PlacedCore). state_of v.core) c.self.view_is) rest refl refl refl refl

pub invariant_of-self-then-not-run_in_place : goal.invariant_of-self-then-not-run_in_place
invariant_of-self-then-not-run_in_place c = kept-still (goal.at.invariant_of-self-then-not-run_in_place c).After-run_in_place c.if-not-run_in_place.true

pub returns-then-not-run_in_place-clause-none : goal.returns-then-not-run_in_place-clause-none
returns-then-not-run_in_place-clause-none c never = same (goal.at.returns-then-not-run_in_place-clause-none c).After-run_in_place c.if-not-run_in_place.true

pub invariant_of-self-2 : goal.invariant_of-self-2
invariant_of-self-2 c =
    kept (goal.at.invariant_of-self-2 c).After-run_in_place c.if-not-run_in_place.false c.push_many.new.self c.push_many.ensures.items
    (omega (arith, c.if-saturating_sub-turns.false, c.saturating_sub.ensures, c.len.ensures.count, c.requires.some)) (c.self.inside.given + c.args.turns) refl
    (omega (arith, c.if-self-turns.false, c.requires.some))

pub returns-clause-made : goal.returns-clause-made
returns-clause-made c all =
    made (goal.at.returns-clause-made c).After-run_in_place c.if-not-run_in_place.false c.push_many.new.self c.push_many.ensures.items
    (omega (arith, c.if-saturating_sub-turns.false, c.saturating_sub.ensures, c.len.ensures.count, c.requires.some)) (c.self.inside.given + c.args.turns) refl
    (omega (arith, c.if-self-turns.false, c.requires.some))

pub returns-clause-others : goal.returns-clause-others
returns-clause-others c all =
    leaves (goal.at.returns-clause-others c).After-run_in_place c.if-not-run_in_place.false c.push_many.new.self c.push_many.ensures.items
    (omega (arith, c.if-saturating_sub-turns.false, c.saturating_sub.ensures, c.len.ensures.count, c.requires.some)) (c.self.inside.given + c.args.turns) refl
    (omega (arith, c.if-self-turns.false, c.requires.some))
