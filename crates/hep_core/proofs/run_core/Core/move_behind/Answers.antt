use Rattle.std.proofs.Common.{◌≡◌, ◌≢◌, ◌<◌, ◌≤◌, ◌+◌, ◌-◌, ℕ, suc, List, ◌++◌, ◌∷◌, [], false, length, refl, sym, ap, ◌∙◌, subst, arith}
use Rattle.hep_machine.specs.Histories.{most_steps}
use Rattle.hep_machine.specs.Words.{schedule_of}
use Rattle.hep_history.specs.Entries.{EntriesLeft}
use Rattle.hep_commit.specs.DecodedImages.{AreTables}
use Rattle.hep_commit.specs.Going.{HasGone, MakesMoves}
use Rattle.hep_commit.specs.TicketId.{TicketId}
use Rattle.hep_commit.specs.SegmentStarts.{start_in}
use Rattle.hep_commit.specs.OwnCells.{AreOwnCells}
use Rattle.hep_commit.specs.TurnsInPlace.{IsAsBefore}
use Rattle.hep_state.specs.declared.core_state.CoreState.{CoreState}
use Rattle.hep_state.specs.Words.{IsMachineAfter, LivesOn, snapshot_of}
use Rattle.hep_state.proofs.OtherProcesses.{beside-again}
use Rattle.hep_core.specs.Commits.{HasMovedBehind, HasSteps, LeavesNext, core_after_return}
use Rattle.hep_core.specs.Invariant.{CoreInvariant, core_value, placed_value}
use Rattle.hep_core.specs.declared.run_core.Core.TheInside.{Inside}
use Rattle.hep_core.specs.Tickets.{is_out, without_process}
use Rattle.hep_core.specs.ProcessPlaces.{PlacedCore, places_of}
use Rattle.hep_core.specs.CoreValues.{HasNoStop, state_of}
use Rattle.hep_core.specs.Waking.{HasRoomLeft}
use Rattle.hep_core.proofs.OtherTickets.{AreReadStill, entry-next, next-between}
use Rattle.hep_core.proofs.AfterPrivate.{left-kept, roll-same}
use Rattle.hep_core.proofs.Committing.{DependOnReads, IsSettledIn, tops-of, where-now}
use Rattle.hep_core.proofs.Histories.{schedule-several}
use Rattle.hep_core.proofs.InPlace.{activations-same, moved-behind}
use Rattle.hep_core.proofs.GoodTickets.{AreSeen, activations-are}
use Rattle.hep_core.proofs.ProcessesOut.{without-home}
use Rattle.hep_core.proofs.Private.{kept-after, private-kept, private-value, steps}
use Rattle.hep_core.proofs.OutStates.{going-in, left-placed, settled-by, turn-in}
use Rattle.hep_core.proofs.run_core.Core.move_behind.Goals.{After-turn_in_place-steps}
use Rattle.hep_core.proofs.run_core.Core.move_behind.Goals as goal
use Rattle.hep_state.proofs.ReturnTurns.{IsRunningAlways}

-- where no more than room was made for an entry, nothing has changed
pub returns-then-is_err-clause-none : goal.returns-then-is_err-clause-none
returns-then-is_err-clause-none c never =
    (λ j. record { core = record (core_value c.self.inside) { history = c.reserve.ensures.items j }; places = places_of c.self.inside.image (snapshot_of c.self.inside.machine) }) ∙ c.self.view_is

pub settle-requires : goal.settle-requires
settle-requires c = turn-in c.self.inside c.self.invariant c.args.self.now c.self.view_is c.requires.going c.args.p c.requires.lives c.args.p refl

-- ---- what is known before

pub turn_in_place-steps-requires-clause-prepared : goal.turn_in_place-steps-requires-clause-prepared
turn_in_place-steps-requires-clause-prepared c =
    record {
      tables = subst (AreTables c.self.inside.image) (sym c.deref.ensures.value) c.self.invariant.tabled;
      own = subst (AreOwnCells c.self.inside.image) (sym c.deref-2.ensures.value) c.self.invariant.owned;
      ahead = c.requires.program ∙ ap (λ (v : PlacedCore). v.core.program) (sym c.self.view_is);
    }

pub turn_in_place-steps-requires-clause-turn : goal.turn_in_place-steps-requires-clause-turn
turn_in_place-steps-requires-clause-turn c =
    (settled-by c.self.inside c.self.invariant c.args.self.now c.self.view_is c.requires.going c.args.p c.requires.lives c.args.p refl c.settle.new.self c.settle.ensures.after c.settle.ensures.top c.settle.ensures.made).turn

module _ (c : After-turn_in_place-steps) where
  abbrev i : Inside
  i = c.self.inside

  abbrev m : CoreState
  m = c.turn_in_place-steps.new.machine

  going : HasNoStop (core_value i)
  going = going-in i c.self.invariant c.args.self.now c.self.view_is c.requires.going

  home : is_out c.args.p i.out.items ≡ false
  home = subst (λ (v : PlacedCore). is_out c.args.p v.core.out ≡ false) (sym c.self.view_is) c.requires.home

  is : IsSettledIn i c.args.p c.settle.new.self
  is = settled-by i c.self.invariant c.args.self.now c.self.view_is c.requires.going c.args.p c.requires.lives c.args.p refl c.settle.new.self c.settle.ensures.after c.settle.ensures.top c.settle.ensures.made

  seen : AreSeen i.image i.cells
  seen choices n = c.views_are_of_states.ensures i.image i.cells choices n c.is_runnable.ensures.accepted c.is_runnable.ensures.main

  -- ---- none was made

  module _ (zero : c.turn_in_place-steps.result ≡ 0) where
    as_before : IsAsBefore i.image c.settle.new.self m
    as_before = c.turn_in_place-steps.ensures.none zero

    still : IsMachineAfter i.image i.cells (schedule_of i.history.items) m
    still = as_before.kept i.cells (schedule_of i.history.items) is.after

    room-still : HasRoomLeft m i.roster
    room-still =
        let made = as_before.made ∙ is.made in
        record { room = omega (arith, made, c.self.invariant.room.room); last = omega (arith, made, c.self.invariant.room.last) }

    kept-still : CoreInvariant (record i { history = c.reserve.new.self; machine = m; saved = c.turn_in_place-steps.new.saved })
    kept-still = left-kept i c.self.invariant c.reserve.new.self c.reserve.ensures.items m still i.roster (roll-same i.roster) room-still c.turn_in_place-steps.new.saved i.stop c.self.invariant.named

    same : placed_value (record i { history = c.reserve.new.self; machine = m; saved = c.turn_in_place-steps.new.saved }) ≡ c.args.self.now
    same =
        let places = ap (λ z. places_of i.image z) as_before.shown ∙ is.places in
        left-placed i c.self.invariant c.reserve.new.self c.reserve.ensures.items m still places seen i.stop ∙ c.self.view_is

  -- ---- some were

  module _ (some : c.turn_in_place-steps.result ≢ 0) (history : EntriesLeft) (noted : history.items ≡ c.reserve.new.self.items ++ record { process = c.args.p; steps = c.turn_in_place-steps.result } ∷ []) (room : length i.history.items < i.limit) where
    abbrev less : ℕ
    less = c.turn_in_place-steps.result - 1

    more : 0 < c.turn_in_place-steps.result
    more = omega (arith, some)

    many : c.turn_in_place-steps.result ≡ suc less
    many = omega (arith, some)

    moves : MakesMoves i.image c.args.p c.settle.new.self (suc less) m
    moves = subst (λ n. MakesMoves i.image c.args.p c.settle.new.self n m) many (c.turn_in_place-steps.ensures.gone more)

    abbrev gone-so : (after : List ℕ) × HasGone i.image i.cells c.args.p (schedule_of i.history.items) (suc less) after × IsMachineAfter i.image i.cells after m
    gone-so = moves i.cells (schedule_of i.history.items) is.after

    few : suc less ≤ most_steps
    few = omega (arith, many, c.turn_in_place-steps.ensures.few)

    lives : LivesOn c.args.p 0 c.settle.new.self m
    lives = c.turn_in_place-steps.ensures.lives more

    acts : m.activations ≡ i.machine.activations
    acts =
        activations-same i.image i.cells c.args.p (suc less) i.history.items c.settle.new.self m is.after gone-so.0 gone-so.1 gone-so.2 (omega (arith, lives.counted))
        ∙ (activations-are i.image i.cells i.history.items (snapshot_of c.settle.new.self) is.after.after ∙ sym (activations-are i.image i.cells i.history.items (snapshot_of i.machine) c.self.invariant.after.after))

    procs : m.made ≡ i.machine.made
    procs = lives.made ∙ is.made

    entries : history.items ≡ i.history.items ++ record { process = c.args.p; steps = suc less } ∷ []
    entries = noted ∙ (λ j. c.reserve.ensures.items j ++ record { process = c.args.p; steps = many j } ∷ [])

    after-it : IsMachineAfter i.image i.cells (schedule_of history.items) m
    after-it = kept-after c.lists_go_along_with_steps.ensures i c.self.invariant c.args.p less gone-so.0 gone-so.1 room few m gone-so.2 acts procs history.items entries

    running : m.halted ≡ false
    running = lives.running ∙ is.turn.running

    left-out : i.out.items ≡ without_process c.args.p i.out.items
    left-out = sym (without-home c.args.p i.out.items home)

    kept : CoreInvariant (record i { history = history; machine = m; saved = c.turn_in_place-steps.new.saved })
    kept =
        let k = c.self.invariant in
        private-kept c.lists_go_along_with_steps.ensures i k c.args.p less gone-so.0 gone-so.1 room few m gone-so.2 acts procs history.items entries m after-it going.0 running history refl i.roster (roll-same i.roster)
        (record { room = omega (arith, procs, k.room.room); last = omega (arith, procs, k.room.last) }) i.out left-out c.turn_in_place-steps.new.saved

    steps-made : HasSteps (core_after_return (core_value i) c.args.p) c.args.p c.turn_in_place-steps.result (core_value (record i { history = history; machine = m; saved = c.turn_in_place-steps.new.saved }))
    steps-made =
        let k = c.self.invariant in
        subst (λ n. HasSteps (core_after_return (core_value i) c.args.p) c.args.p n (core_value (record i { history = history; machine = m; saved = c.turn_in_place-steps.new.saved }))) (sym many) (
          steps c.lists_go_along_with_steps.ensures i k c.args.p less gone-so.0 gone-so.1 room few m gone-so.2 acts procs history.items entries,
          private-value c.lists_go_along_with_steps.ensures i k c.args.p less gone-so.0 gone-so.1 room few m gone-so.2 acts procs history.items entries m after-it going.0 running seen history refl i.out left-out,
        )

    moved : HasMovedBehind (placed_value i) c.args.p c.turn_in_place-steps.result (placed_value (record i { history = history; machine = m; saved = c.turn_in_place-steps.new.saved }))
    moved =
        let p = c.args.p in
        let tops : IsRunningAlways i.image = tops-of i.image _ c.tops_are_running.ensures.running c.is_runnable.ensures.accepted c.is_runnable.ensures.main in
        let law : DependOnReads = record { kept = c.segments_depend_on_reads.ensures.kept; made = c.segments_depend_on_reads.ensures.made } in (
          start_in is.turn.living,
          where-now i p c.settle.new.self is tops,
          λ id own.
              let of = c.turn_in_place-steps.ensures.made more id own in
              (of.0, of.1, moved-behind i p c.settle.new.self is tops law of.0 (ap (λ (t : TicketId). t.process) of.1 ∙ own) c.turn_in_place-steps.result _ of.2 steps-made),
        )

    leaves : LeavesNext c.args.p c.args.self.now (placed_value (record i { history = history; machine = m; saved = c.turn_in_place-steps.new.saved }))
    leaves =
        let p = c.args.p in
        let now = record i { history = history; machine = m; saved = c.turn_in_place-steps.new.saved } in
        let law : AreReadStill = c.others_leave_what_is_read.ensures in
        let depend : DependOnReads = record { kept = c.segments_depend_on_reads.ensures.kept; made = c.segments_depend_on_reads.ensures.made } in
        let turns = ap schedule_of entries ∙ schedule-several i.history.items p (suc less) in
        let stay = beside-again p (snapshot_of i.machine) (snapshot_of c.settle.new.self) (snapshot_of m) is.others lives.others in
        let rest = entry-next law depend i c.self.invariant going p (suc less) history.items turns m after-it stay (core_value now) refl in
        next-between p c.args.self.now (placed_value i) (placed_value now) (placed_value now) (ap (λ (v : PlacedCore). v.places) c.self.view_is) (ap (λ (v : PlacedCore). v.core.program) c.self.view_is)
        (ap (λ (v : PlacedCore). state_of v.core) c.self.view_is) rest refl refl refl refl

pub invariant_of-self-then-steps-eq0 : goal.invariant_of-self-then-steps-eq0
invariant_of-self-then-steps-eq0 c = kept-still (goal.at.invariant_of-self-then-steps-eq0 c).After-turn_in_place-steps c.if-steps-eq0.true

pub returns-then-steps-eq0-clause-none : goal.returns-then-steps-eq0-clause-none
returns-then-steps-eq0-clause-none c never = same (goal.at.returns-then-steps-eq0-clause-none c).After-turn_in_place-steps c.if-steps-eq0.true

pub invariant_of-self-2 : goal.invariant_of-self-2
invariant_of-self-2 c = kept (goal.at.invariant_of-self-2 c).After-turn_in_place-steps c.if-steps-eq0.false c.note.new.history c.note.ensures (omega (arith, c.if-self-len.false, c.len.ensures.count))

pub returns-clause-made : goal.returns-clause-made
returns-clause-made c some =
    let room : length c.self.inside.history.items < c.self.inside.limit = omega (arith, c.if-self-len.false, c.len.ensures.count) in
    let made = moved (goal.at.returns-clause-made c).After-turn_in_place-steps c.if-steps-eq0.false c.note.new.history c.note.ensures room in
    subst (λ (v : PlacedCore). (length v.core.history < v.core.limit) × HasMovedBehind v c.args.p c.turn_in_place-steps.result (placed_value (record c.self.inside { history = c.note.new.history; machine = c.turn_in_place-steps.new.machine; saved = c.turn_in_place-steps.new.saved }))) c.self.view_is (room, made)

pub returns-clause-others : goal.returns-clause-others
returns-clause-others c some = leaves (goal.at.returns-clause-others c).After-turn_in_place-steps c.if-steps-eq0.false c.note.new.history c.note.ensures (omega (arith, c.if-self-len.false, c.len.ensures.count))
