use Rattle.std.proofs.Common.{◌≡◌, ◌≤◌, ◌+◌, None, false, true, length, rules, refl, sym, ap, ◌∙◌, subst, arith}
use Rattle.hep_machine.specs.Words.{schedule_of}
use Rattle.hep_commit.specs.AdvanceBreakpointRows.{PassesFrom}
use Rattle.hep_commit.specs.DecodedImages.{AreTables}
use Rattle.hep_state.specs.Words.{snapshot_of}
use Rattle.hep_state.proofs.UnchangedStates.{on-err}
use Rattle.hep_core.specs.SilentChoices.{begun, entries_along}
use Rattle.hep_core.specs.Invariant.{CoreInvariant, core_value, placed_value}
use Rattle.hep_core.specs.declared.run_core.Core.TheInside.{Inside}
use Rattle.hep_core.specs.Tickets.{is_out}
use Rattle.hep_core.specs.ProcessPlaces.{PlacedCore, places_of}
use Rattle.hep_core.specs.CoreValues.{HasNoStop, IsStop, state_of}
use Rattle.hep_core.proofs.OtherTickets.{AreReadStill, entry-next, next-between, next-itself}
use Rattle.hep_core.proofs.SilentChoices.{chosen-so, core-goes-on, core_along}
use Rattle.hep_core.proofs.Committing.{DependOnReads}
use Rattle.hep_core.proofs.Histories.{schedule-along, state-is}
use Rattle.hep_core.proofs.GoodTickets.{AreSeen, activations-are, halted-is}
use Rattle.hep_core.proofs.run_core.Core.move_past.Goals.{After-lives, After-note_all, After-reserve}
use Rattle.hep_core.proofs.run_core.Core.move_past.Goals as goal

pub lives-requires : goal.lives-requires
lives-requires c = c.self.invariant.after.numbers

-- ---- none is made

pub returns-then-is_some-clause-chosen : goal.returns-then-is_some-clause-chosen
returns-then-is_some-clause-chosen c = begun c.args.self.now.core

pub returns-then-is_some-clause-others : goal.returns-then-is_some-clause-others
returns-then-is_some-clause-others c = next-itself c.args.p c.args.self.now c.args.self.now refl

pub returns-then-not-lives-clause-chosen : goal.returns-then-not-lives-clause-chosen
returns-then-not-lives-clause-chosen c = begun c.args.self.now.core

pub returns-then-not-lives-clause-others : goal.returns-then-not-lives-clause-others
returns-then-not-lives-clause-others c = next-itself c.args.p c.args.self.now c.args.self.now refl

-- where no more than room was made for entries, nothing has changed
reserved-same : (c : After-reserve) → placed_value (record c.self.inside { history = c.reserve.new.self }) ≡ c.args.self.now
reserved-same c =
    (λ j. record { core = record (core_value c.self.inside) { history = c.reserve.ensures.items j }; places = places_of c.self.inside.image (snapshot_of c.self.inside.machine) }) ∙ c.self.view_is

pub returns-in_err-reserve-clause-refused : goal.returns-in_err-reserve-clause-refused
returns-in_err-reserve-clause-refused c = on-err c.from_residual.result c.from_residual.ensures.0 (reserved-same (goal.at.returns-in_err-reserve-clause-refused c).After-reserve)

pub returns-in_err-reserve-clause-others : goal.returns-in_err-reserve-clause-others
returns-in_err-reserve-clause-others c = next-itself c.args.p c.args.self.now _ (reserved-same (goal.at.returns-in_err-reserve-clause-others c).After-reserve)

-- ---- what is known before

no-stop : (c : After-lives) → c.self.inside.stop ≡ None
no-stop c = search rules

-- a core at no stop isn't halted
goes : (i : Inside) → CoreInvariant i → i.stop ≡ None → i.machine.halted ≡ false
goes i k stop =
    halted-is i.image i.cells i.history.items (snapshot_of i.machine) k.after.after ∙ subst (IsStop i.image i.cells i.limit i.history.items) stop k.named

pub pass_on-made-requires-clause-turn : goal.pass_on-made-requires-clause-turn
pass_on-made-requires-clause-turn c =
    let i = c.self.inside in
    let k = c.self.invariant in
    let lives : c.lives.result ≡ true = search rules in
    record {
      turn = record { after = (i.cells, schedule_of i.history.items, k.after); running = goes i k (no-stop (goal.at.pass_on-made-requires-clause-turn c).After-lives); living = c.lives.ensures.levels lives };
      tables = subst (AreTables i.image) (sym c.deref.ensures.value) k.tabled;
    }

-- each activation was made by an entry of its own, of which there are less than 2^63
pub pass_on-made-requires-clause-countable : goal.pass_on-made-requires-clause-countable
pass_on-made-requires-clause-countable c =
    let i = c.self.inside in
    let k = c.self.invariant in
    omega (arith, activations-are i.image i.cells i.history.items (snapshot_of i.machine) k.after.after, k.few.activations, c.in_ok-reserve.ensures.few, ap length c.reserve.ensures.items, c.min-room.ensures, c.requires.1)

-- ---- so many choices

module _ (c : After-note_all) where
  abbrev i : Inside
  i = c.self.inside

  running : i.stop ≡ None
  running = no-stop (goal.at.After-note_all c).After-lives

  home : is_out c.args.p i.out.items ≡ false
  home = subst (λ (v : PlacedCore). is_out c.args.p v.core.out ≡ false) (sym c.self.view_is) c.requires.0

  entries : c.note_all.new.history.items ≡ entries_along i.history.items c.args.p c.pass_on-made.result
  entries = c.note_all.ensures ∙ ap (λ es. entries_along es c.args.p c.pass_on-made.result) c.reserve.ensures.items

  within : length i.history.items + c.pass_on-made.result ≤ i.limit
  within = omega (arith, c.pass_on-made.ensures.few, c.min-room.ensures, c.len.ensures.count, c.self.invariant.legal.within)

  kept : CoreInvariant (core_along i c.note_all.new.history c.pass_on-made.new.machine)
  kept =
      let done = c.pass_on-made.ensures in
      let gone = done.gone i.cells (schedule_of i.history.items) c.self.invariant.after in
      core-goes-on c.lists_go_along_with_steps.ensures i c.args.p c.self.invariant running home c.pass_on-made.result gone.0 c.pass_on-made.new.machine c.note_all.new.history gone.1 gone.2
      (done.lives.running ∙ goes i c.self.invariant running) done.lives.made within entries

  are-seen : AreSeen i.image i.cells
  are-seen choices n = c.views_are_of_states.ensures i.image i.cells choices n c.is_runnable.ensures.accepted c.is_runnable.ensures.main

pub invariant_of-self-2 : goal.invariant_of-self-2
invariant_of-self-2 c = kept (goal.at.invariant_of-self-2 c).After-note_all

pub returns-clause-chosen : goal.returns-clause-chosen
returns-clause-chosen c =
    let at = (goal.at.returns-clause-chosen c).After-note_all in
    let gone = c.pass_on-made.ensures.gone c.self.inside.cells (schedule_of c.self.inside.history.items) c.self.invariant.after in
    rw (← c.self.view_is) (
    chosen-so c.lists_go_along_with_steps.ensures c.self.inside c.args.p c.self.invariant (running at) (home at) (are-seen at) c.pass_on-made.result gone.0 c.pass_on-made.new.machine c.note_all.new.history gone.1 (kept at) (within at) (entries at))

pub returns-clause-unwatched : goal.returns-clause-unwatched
returns-clause-unwatched c =
    let i = c.self.inside in
    let passed = c.pass_on-made.ensures.unwatched i.cells (schedule_of i.history.items) c.self.invariant.after in
    subst (λ (v : PlacedCore). PassesFrom v.core.program c.args.watches.now c.args.p (state_of v.core) c.pass_on-made.result) c.self.view_is (
    subst (λ s. PassesFrom i.image c.args.watches.now c.args.p s c.pass_on-made.result) (sym (state-is i.image i.history.items)) passed)

pub returns-clause-few : goal.returns-clause-few
returns-clause-few c = omega (arith, c.pass_on-made.ensures.few, c.min-room.ensures)

-- ---- what comes next of other processes

pub returns-clause-others : goal.returns-clause-others
returns-clause-others c =
    let at = (goal.at.returns-clause-others c).After-note_all in
    let i = c.self.inside in
    let p = c.args.p in
    let n = c.pass_on-made.result in
    let m = c.pass_on-made.new.machine in
    let es = c.note_all.new.history.items in
    let now = core_along i c.note_all.new.history m in
    let law : AreReadStill = c.others_leave_what_is_read.ensures in
    let depend : DependOnReads = record { kept = c.segments_depend_on_reads.ensures.kept; made = c.segments_depend_on_reads.ensures.made } in
    let going : HasNoStop (core_value i) = (running at, subst (IsStop i.image i.cells i.limit i.history.items) (running at) c.self.invariant.named) in
    let turns = ap schedule_of (entries at) ∙ schedule-along i.history.items p n in
    let leaves = entry-next law depend i c.self.invariant going p n es turns m (kept at).after c.pass_on-made.ensures.lives.others (core_value now) refl in
    next-between p c.args.self.now (placed_value i) (placed_value now) (placed_value now) (ap (λ (v : PlacedCore). v.places) c.self.view_is) (ap (λ (v : PlacedCore). v.core.program) c.self.view_is)
    (ap (λ (v : PlacedCore). state_of v.core) c.self.view_is) leaves refl refl refl refl
