use Rattle.std.proofs.Common.{◌≡◌, ◌≢◌, ◌≤◌, ◌<◌, ◌+◌, ℕ, List, ◌++◌, ◌∷◌, [], false, length, refl, sym, ap, ◌∙◌, subst, arith, replicate}
use Rattle.std.proofs.lemmas.List.{append-nil}
use Rattle.hep_machine.specs.Words.{schedule_of}
use Rattle.hep_commit.specs.DecodedImages.{AreTables}
use Rattle.hep_commit.specs.Going.{HasGone, MakesMoves}
use Rattle.hep_history.specs.Entries.{EntriesLeft}
use Rattle.hep_state.specs.declared.core_state.CoreState.{CoreState}
use Rattle.hep_state.specs.Words.{HasLevels, IsMachineAfter, snapshot_of}
use Rattle.hep_core.specs.Commits.{LeavesNext}
use Rattle.hep_core.specs.SilentChoices.{AreChoices, entries_along}
use Rattle.hep_core.specs.Invariant.{CoreInvariant, core_value, placed_value}
use Rattle.hep_core.specs.declared.run_core.Core.TheInside.{Inside}
use Rattle.hep_core.specs.Tickets.{is_out}
use Rattle.hep_core.specs.ProcessPlaces.{PlacedCore, places_of}
use Rattle.hep_core.specs.CoreValues.{HasNoStop, state_of}
use Rattle.hep_core.specs.Waking.{HasRoomLeft}
use Rattle.hep_core.proofs.OtherTickets.{AreReadStill, entry-next, next-between}
use Rattle.hep_core.proofs.AfterPrivate.{left-kept, roll-same}
use Rattle.hep_core.proofs.SilentChoices.{chosen-so, core-goes-on, core_along}
use Rattle.hep_core.proofs.Committing.{DependOnReads, turn-of}
use Rattle.hep_core.proofs.Histories.{schedule-along}
use Rattle.hep_core.proofs.GoodTickets.{AreSeen}
use Rattle.hep_core.proofs.SettledMachines.{places-same}
use Rattle.hep_core.proofs.OutStates.{going-in, left-placed, levels-in}
use Rattle.hep_core.proofs.run_core.Core.move_once.Goals.{After-turn_by_table}
use Rattle.hep_core.proofs.run_core.Core.move_once.Goals as goal
use Rattle.hep_commit.proofs.AdvanceRunsToBreakpoint.{turns-are}

-- where no more than room was made for an entry, nothing has changed
pub returns-then-is_err-clause-none : goal.returns-then-is_err-clause-none
returns-then-is_err-clause-none c never =
    (λ j. record { core = record (core_value c.self.inside) { history = c.reserve.ensures.items j }; places = places_of c.self.inside.image (snapshot_of c.self.inside.machine) }) ∙ c.self.view_is

-- ---- what is known before

pub turn_by_table-requires : goal.turn_by_table-requires
turn_by_table-requires c =
    let i = c.self.inside in
    let k = c.self.invariant in
    record {
      turn = turn-of i k c.args.p (going-in i k c.args.self.now c.self.view_is c.requires.going) (levels-in i k c.args.self.now c.self.view_is c.requires.going c.args.p c.requires.lives);
      tables = subst (AreTables i.image) (sym c.deref.ensures.value) k.tabled;
    }

none-gone : (i : Inside) (p n : ℕ) (after : List ℕ) (m : CoreState) → n ≡ 0 → HasGone i.image i.cells p (schedule_of i.history.items) n after → IsMachineAfter i.image i.cells after m → IsMachineAfter i.image i.cells (schedule_of i.history.items) m
none-gone i p n after m zero gone is =
    subst (λ ps. IsMachineAfter i.image i.cells ps m) (turns-are i.image i.cells p (schedule_of i.history.items) n after gone ∙ (ap (λ k. schedule_of i.history.items ++ replicate k p) zero ∙ append-nil (schedule_of i.history.items))) is

module _ (c : After-turn_by_table) where
  abbrev i : Inside
  i = c.self.inside

  abbrev machine : CoreState
  machine = c.turn_by_table.new.machine

  going : HasNoStop (core_value i)
  going = going-in i c.self.invariant c.args.self.now c.self.view_is c.requires.going

  levels : HasLevels (snapshot_of i.machine) c.args.p
  levels = levels-in i c.self.invariant c.args.self.now c.self.view_is c.requires.going c.args.p c.requires.lives

  home : is_out c.args.p i.out.items ≡ false
  home = subst (λ (v : PlacedCore). is_out c.args.p v.core.out ≡ false) (sym c.self.view_is) c.requires.home

  seen : AreSeen i.image i.cells
  seen choices n = c.views_are_of_states.ensures i.image i.cells choices n c.is_runnable.ensures.accepted c.is_runnable.ensures.main

  -- ---- none is made

  module _ (zero : c.turn_by_table.result ≡ 0) where
    still : IsMachineAfter i.image i.cells (schedule_of i.history.items) machine
    still =
        let gone = c.turn_by_table.ensures.gone i.cells (schedule_of i.history.items) c.self.invariant.after in
        none-gone i c.args.p c.turn_by_table.result gone.0 machine zero gone.1 gone.2

    room : HasRoomLeft machine i.roster
    room = record { room = omega (arith, c.turn_by_table.ensures.lives.made, c.self.invariant.room.room); last = omega (arith, c.turn_by_table.ensures.lives.made, c.self.invariant.room.last) }

    kept-still : CoreInvariant (record i { history = c.reserve.new.self; machine = machine })
    kept-still = left-kept i c.self.invariant c.reserve.new.self c.reserve.ensures.items machine still i.roster (roll-same i.roster) room i.saved i.stop c.self.invariant.named

    same : placed_value (record i { history = c.reserve.new.self; machine = machine }) ≡ c.args.self.now
    same =
        let places = places-same i.image c.args.p (snapshot_of i.machine) (snapshot_of machine) levels (c.turn_by_table.ensures.none zero) in
        left-placed i c.self.invariant c.reserve.new.self c.reserve.ensures.items machine still places seen i.stop ∙ c.self.view_is

  -- ---- one is

  module _ (some : c.turn_by_table.result ≢ 0) (history : EntriesLeft) (noted : history.items ≡ c.reserve.new.self.items ++ record { process = c.args.p; steps = 1 } ∷ []) (lt : length i.history.items < i.limit) where
    once : c.turn_by_table.result ≡ 1
    once = omega (arith, c.turn_by_table.ensures.few, some)

    moves : MakesMoves i.image c.args.p i.machine 1 machine
    moves = subst (λ n. MakesMoves i.image c.args.p i.machine n machine) once c.turn_by_table.ensures.gone

    entries : history.items ≡ entries_along i.history.items c.args.p 1
    entries = noted ∙ ap (λ es. entries_along es c.args.p 1) c.reserve.ensures.items

    within : length i.history.items + 1 ≤ i.limit
    within = omega (arith, lt)

    kept : CoreInvariant (core_along i history machine)
    kept =
        let gone = moves i.cells (schedule_of i.history.items) c.self.invariant.after in
        core-goes-on c.lists_go_along_with_steps.ensures i c.args.p c.self.invariant going.0 home 1 gone.0 machine history gone.1 gone.2
        (c.turn_by_table.ensures.lives.running ∙ (turn-of i c.self.invariant c.args.p going levels).running) c.turn_by_table.ensures.lives.made within entries

    chosen : AreChoices c.args.p (core_value i) 1 (core_value (core_along i history machine))
    chosen =
        let gone = moves i.cells (schedule_of i.history.items) c.self.invariant.after in
        chosen-so c.lists_go_along_with_steps.ensures i c.args.p c.self.invariant going.0 home seen 1 gone.0 machine history gone.1 kept within entries

    leaves : LeavesNext c.args.p c.args.self.now (placed_value (core_along i history machine))
    leaves =
        let now = core_along i history machine in
        let law : AreReadStill = c.others_leave_what_is_read.ensures in
        let depend : DependOnReads = record { kept = c.segments_depend_on_reads.ensures.kept; made = c.segments_depend_on_reads.ensures.made } in
        let turns = ap schedule_of entries ∙ schedule-along i.history.items c.args.p 1 in
        let rest = entry-next law depend i c.self.invariant going c.args.p 1 history.items turns machine kept.after c.turn_by_table.ensures.lives.others (core_value now) refl in
        next-between c.args.p c.args.self.now (placed_value i) (placed_value now) (placed_value now) (ap (λ (v : PlacedCore). v.places) c.self.view_is) (ap (λ (v : PlacedCore). v.core.program) c.self.view_is)
        (ap (λ (v : PlacedCore). state_of v.core) c.self.view_is) rest refl refl refl refl

pub invariant_of-self-then-turn_by_table-eq0 : goal.invariant_of-self-then-turn_by_table-eq0
invariant_of-self-then-turn_by_table-eq0 c = kept-still (goal.at.invariant_of-self-then-turn_by_table-eq0 c).After-turn_by_table c.if-turn_by_table-eq0.true

pub returns-then-turn_by_table-eq0-clause-none : goal.returns-then-turn_by_table-eq0-clause-none
returns-then-turn_by_table-eq0-clause-none c never = same (goal.at.returns-then-turn_by_table-eq0-clause-none c).After-turn_by_table c.if-turn_by_table-eq0.true

pub invariant_of-self-2 : goal.invariant_of-self-2
invariant_of-self-2 c = kept (goal.at.invariant_of-self-2 c).After-turn_by_table c.if-turn_by_table-eq0.false c.note.new.history c.note.ensures (omega (arith, c.if-self-len.false, c.len.ensures.count))

pub returns-clause-chosen : goal.returns-clause-chosen
returns-clause-chosen c once =
    rw (← c.self.view_is) (refl, chosen (goal.at.returns-clause-chosen c).After-turn_by_table c.if-turn_by_table-eq0.false c.note.new.history c.note.ensures (omega (arith, c.if-self-len.false, c.len.ensures.count)))

pub returns-clause-others : goal.returns-clause-others
returns-clause-others c once = leaves (goal.at.returns-clause-others c).After-turn_by_table c.if-turn_by_table-eq0.false c.note.new.history c.note.ensures (omega (arith, c.if-self-len.false, c.len.ensures.count))
