use Rattle.std.proofs.Common.{refl, ◌≡◌, ◌≤◌, ◌<◌, ◌+◌, ◌^◌, ℕ, true, List, None, IsSome, length, arith, sym, ap, ◌∙◌, subst, is_some}
use Rattle.hep_machine.specs.Words.{Units}
use Rattle.hep_arena.specs.Holes.{first_fit}
use Rattle.hep_code.specs.Words.{deepest}
use Rattle.hep_image.specs.Image.{most_cells}
use Rattle.hep_step.specs.declared.call_kind.CallKind.{CallKind}
use Rattle.hep_step.specs.declared.call_kind.CallKind.TheVariants.{Calls, Creates, Refers}
use Rattle.hep_step.specs.NextCalls.{is_creation}
use Rattle.hep_step.specs.Effects.{fails}
use Rattle.hep_step.specs.Simulation.{unit_code}
use Rattle.hep_state.specs.declared.calling.CalledUnit.{CalledUnit}
use Rattle.hep_state.specs.declared.core_state.CoreState.{CoreState}
use Rattle.hep_state.specs.Words.{HoldsInTurn, HasCallAhead, IsMachineAfter, IsMaking, IsRefused, IsUnit, LeavesAlone, Makes, ShowsSame, Changes, HaveRoom, Snapshot, snapshot_of, IsToEnd, HasGaps, turn_of}
use Rattle.hep_state.proofs.OtherProcesses.{beside-again, beside-shown}
use Rattle.hep_state.proofs.GivenArguments.{ahead-after, can-begin, stepped-given}
use Rattle.hep_state.proofs.UnchangedStates.{alone, carry, rooms-of, rooms-written, shown-written, turned-so, without-memory}
use Rattle.hep_state.proofs.core_state.CoreState.take_call.Goals.{After-fits, After-reserve}
use Rattle.hep_state.proofs.core_state.CoreState.take_call.Goals as goal
use Rattle.hep_source.proofs.Tests.{none-from-not}

-- ---- a fault

module _ (c : After-reserve) where
  -- where room was made for it
  reserved-shown : snapshot_of c.reserve.new.self ≡ snapshot_of c.args.self.now
  reserved-shown = shown-written c.give.new.self c.reserve.new.self c.reserve.ensures.others c.reserve.ensures.written.0 c.reserve.ensures.written.1 ∙ ap snapshot_of c.give.ensures.others

  reserved-rooms : (cells : ℕ) → HaveRoom c.args.image.now cells c.args.self.now → HaveRoom c.args.image.now cells c.reserve.new.self
  reserved-rooms cells h = rooms-written c.args.image.now cells c.give.new.self c.reserve.new.self c.reserve.ensures.others (c.give.ensures.rooms cells h)

pub returns-in_err-reserve-in-Err-clause-unturned : goal.returns-in_err-reserve-in-Err-clause-unturned
returns-in_err-reserve-in-Err-clause-unturned c =
    let before = (goal.at.returns-in_err-reserve-in-Err-clause-unturned c).After-reserve in
    without-memory (IsRefused c.args.image.now c.args.p c.args.self.now c.reserve.new.self) c.from_residual.result c.from_residual.ensures.1 (
      λ cells choices h.
          let ends = c.in-Err.ensures.fault cells choices h (ahead-after c.requires.at.3 h.after) in
          c.gaps_are_told.ensures.fault (turn_of ends) c.args.call.line c.in-Err.kind ends.holds,
      alone c.args.image.now c.args.p c.args.self.now c.reserve.new.self (reserved-shown before) (reserved-rooms before),
    )

pub returns-in-Err-clause-turned : goal.returns-in-Err-clause-turned
returns-in-Err-clause-turned c cells choices h =
    let program = c.args.image.now in
    let at = ahead-after c.requires.at.3 h.after in
    let before = (goal.at.returns-in-Err-clause-turned c).After-reserve in
    let untouched = c.calls_touch_nothing.ensures (turn_of at) c.args.call c.is_runnable.ensures.accepted c.is_runnable.ensures.main at.holds in
    let ending = subst (λ (n : Snapshot). IsToEnd program cells choices c.args.p n (fails c.args.call.line c.in-Err.kind)) (sym (reserved-shown before)) (c.in-Err.ensures.fault cells choices h at) in
    turned-so program cells choices c.args.p c.fail.new.self untouched (c.fail.ensures.stepped program cells choices ending) (c.fail.ensures.rooms program cells (reserved-rooms before cells (rooms-of program cells choices c.args.self.now h)))

pub fail-requires-clause-ending : goal.fail-requires-clause-ending
fail-requires-clause-ending c =
    let program = c.args.image.now in
    let at = c.requires.at in
    let before = (goal.at.fail-requires-clause-ending c).After-reserve in (
      program,
      at.0,
      at.1,
      subst (λ (n : Snapshot). IsToEnd program at.0 at.1 c.args.p n (fails c.args.call.line c.in-Err.kind)) (sym (reserved-shown before)) (c.in-Err.ensures.fault at.0 at.1 at.2 at.3),
      (reserved-rooms before at.0 (rooms-of program at.0 at.1 c.args.self.now at.2)).numbers,
    )

-- ---- none

pub unit-unit-requires : goal.unit-unit-requires
unit-unit-requires c =
    let at = c.requires.at.3 in
    c.calls_can_be_made.ensures.inside (turn_of at) c.args.call c.is_runnable.ensures.accepted c.is_runnable.ensures.main at.holds

module _ (c : After-fits) where
  abbrev program : Units
  program = c.args.image.now

  abbrev u : ℕ
  u = c.args.call.unit

  abbrev callee : CalledUnit
  callee = record { unit = u; cells = c.unit-unit.result.now.cells; entry = c.unit-unit.result.now.entry }

  given-shown : snapshot_of c.give.new.self ≡ snapshot_of c.args.self.now
  given-shown = ap snapshot_of c.give.ensures.others

  -- what is called
  called : IsUnit program u c.unit-unit.result.now.cells c.unit-unit.result.now.entry
  called =
      let at = c.requires.at.3 in
      record {
        inside = c.calls_can_be_made.ensures.inside (turn_of at) c.args.call c.is_runnable.ensures.accepted c.is_runnable.ensures.main at.holds;
        cells_are = c.unit-unit.ensures.cells;
        entry_is = c.unit-unit.ensures.entry;
      }

  -- whether its frame has a gap
  fits-so : c.fits.result ≡ is_some (first_fit c.unit-unit.result.now.cells c.args.self.now.frames.arena.holes)
  fits-so = c.fits.ensures.fit ∙ ap (λ (m : CoreState). is_some (first_fit c.unit-unit.result.now.cells m.frames.arena.holes)) c.give.ensures.others

  deep : c.unit-unit.result.now.operands ≡ deepest (unit_code program u)
  deep = c.unit-unit.ensures.operands ∙ ap deepest c.unit-unit.ensures.code

  -- by turns after which the machine keeps the state
  module _ (cells : ℕ) (choices : List ℕ) (h : IsMachineAfter program cells choices c.args.self.now) where
    at-call : HasCallAhead program cells choices c.args.p (snapshot_of c.args.self.now) c.args.call
    at-call = ahead-after c.requires.at.3 h.after

    untouched : Changes program cells choices c.args.p None
    untouched = c.calls_touch_nothing.ensures (turn_of at-call) c.args.call c.is_runnable.ensures.accepted c.is_runnable.ensures.main at-call.holds

    -- what is made
    made : HoldsInTurn program cells choices c.args.p (snapshot_of c.args.self.now) (λ t. IsMaking c.args.call.way t u c.in-Ok.kept c.args.call.next c.give.new.self.passing.given.items c.give.new.self.passing.shapes.items)
    made = c.in-Ok.ensures.given cells choices h at-call

    gaps-there : c.fits.result ≡ true → HasGaps program cells choices c.args.p
    gaps-there fits =
        c.gaps_are_told.ensures.some c.args.call.way (turn_of made) u c.unit-unit.result.now.cells c.unit-unit.result.now.entry c.in-Ok.kept c.args.call.next c.give.new.self.passing.given.items c.give.new.self.passing.shapes.items made.holds called (sym fits-so ∙ fits)

  -- the machine was only given what the dummy arguments stand for
  given-alone : LeavesAlone program c.args.p c.args.self.now c.give.new.self
  given-alone = alone program c.args.p c.args.self.now c.give.new.self given-shown c.give.ensures.rooms

  -- where room was made for it
  module _ (new : CoreState) (same : ShowsSame c.give.new.self new) where
    shown : snapshot_of new ≡ snapshot_of c.args.self.now
    shown = same.shown ∙ given-shown

    rooms : (cells : ℕ) → HaveRoom program cells c.args.self.now → HaveRoom program cells new
    rooms cells h = same.rooms program cells (c.give.ensures.rooms cells h)

    left-alone : LeavesAlone program c.args.p c.args.self.now new
    left-alone = alone program c.args.p c.args.self.now new shown rooms

    few : length new.frames.arena.contents ≤ most_cells
    few = omega (arith, c.requires.at.2.few, c.requires.at.2.after.size, ap (λ (m : Snapshot). length m.arena.contents) shown)

    countable : new.activations + 1 < 2 ^ 64
    countable = omega (arith, c.requires.countable, ap (λ (m : Snapshot). m.activations) shown)

    gap : c.fits.result ≡ true → IsSome (first_fit c.unit-unit.result.now.cells new.frames.arena.holes)
    gap fits = subst (λ (m : Snapshot). IsSome (first_fit c.unit-unit.result.now.cells m.arena.holes)) (sym shown) (sym fits-so ∙ fits)

    -- what is made and given is so
    making : (cells : ℕ) (choices : List ℕ) → IsMachineAfter program cells choices c.args.self.now → (way : CallKind) → c.args.call.way ≡ way → Makes way program cells choices c.args.p new callee c.in-Ok.kept c.args.call.next
    making cells choices h way is =
        record {
          making = carry (λ i. HoldsInTurn program cells choices c.args.p (sym shown i) (λ t. IsMaking (is i) t u c.in-Ok.kept c.args.call.next (sym same.passing i).given.items (sym same.passing i).shapes.items)) (made cells choices h);
          unit = called;
        }

pub returns-then-not-fits-clause-unturned : goal.returns-then-not-fits-clause-unturned
returns-then-not-fits-clause-unturned c =
    let before = (goal.at.returns-then-not-fits-clause-unturned c).After-fits in
    let unit = c.unit-unit.result.now in (
      λ cells choices h.
          let made = made before cells choices h in
          c.gaps_are_told.ensures.none c.args.call.way (turn_of made) c.args.call.unit unit.cells unit.entry c.in-Ok.kept c.args.call.next c.give.new.self.passing.given.items c.give.new.self.passing.shapes.items made.holds (called before) (none-from-not (first_fit unit.cells c.args.self.now.frames.arena.holes) (sym (fits-so before) ∙ c.if-not-fits.true)),
      given-alone before,
    )

-- ---- CALL, or a reference

pub begin_call-requires : goal.begin_call-requires
begin_call-requires c =
    let gap = carry (λ i. IsSome (first_fit (c.unit-unit.ensures.cells i) c.give.new.self.frames.arena.holes)) (sym c.fits.ensures.fit ∙ c.if-not-fits.false) in
    can-begin c.requires.at c.give.ensures.others c.give.ensures.rooms c.in-Ok.kept (sym c.creates.ensures ∙ c.if-creates.false) c.requires.countable c.in-Ok.ensures.given gap

pub returns-in_err-reserve-clause-unturned : goal.returns-in_err-reserve-clause-unturned
returns-in_err-reserve-clause-unturned c =
    let before = (goal.at.returns-in_err-reserve-clause-unturned c).After-fits in
    let r = c.from_residual-in_err-reserve in
    without-memory (IsRefused c.args.image.now c.args.p c.args.self.now c.give.new.self) r.result r.ensures.1 (
    (λ cells choices h. gaps-there before cells choices h c.if-not-fits.false, given-alone before))

pub returns-in_err-begin_call-clause-unturned : goal.returns-in_err-begin_call-clause-unturned
returns-in_err-begin_call-clause-unturned c =
    let before = (goal.at.returns-in_err-begin_call-clause-unturned c).After-fits in
    let r = c.from_residual-in_err-begin_call in
    without-memory (IsRefused c.args.image.now c.args.p c.args.self.now c.begin_call.new.self) r.result r.ensures.1 (
    (λ cells choices h. gaps-there before cells choices h c.if-not-fits.false, left-alone before c.begin_call.new.self c.in_err-begin_call.ensures.refused))

pub returns-in_ok-begin_call-clause-turned : goal.returns-in_ok-begin_call-clause-turned
returns-in_ok-begin_call-clause-turned c = (stepped-given c.requires.at c.give.ensures.others c.give.ensures.rooms c.begin_call.new.self c.in_ok-begin_call.ensures.made).turned

-- ---- CREATE

creation : (way : CallKind) → is_creation way ≡ true → way ≡ Creates
creation Calls e = absurd cc
creation Creates e = refl
creation Refers e = absurd cc

pub returns-in_err-process-clause-unturned : goal.returns-in_err-process-clause-unturned
returns-in_err-process-clause-unturned c =
    let before = (goal.at.returns-in_err-process-clause-unturned c).After-fits in
    let r = c.from_residual-in_err-process in
    without-memory (IsRefused c.args.image.now c.args.p c.args.self.now c.reserve_creation.new.self) r.result r.ensures.1 (
    (λ cells choices h. gaps-there before cells choices h c.if-not-fits.false, left-alone before c.reserve_creation.new.self c.reserve_creation.ensures.same))

pub reserve_creation-requires : goal.reserve_creation-requires
reserve_creation-requires c =
    let at = c.requires.at in
    record { numbers = (c.give.ensures.rooms at.0 (rooms-of c.args.image.now at.0 at.1 c.args.self.now at.2)).numbers; few = omega (arith, c.requires.numerable, ap (λ (m : CoreState). m.made) c.give.ensures.others) }

pub create-requires : goal.create-requires
create-requires c =
    let at = c.requires.at in
    let before = (goal.at.create-requires c).After-fits in
    let new = c.reserve_creation.new.self in
    let same = c.reserve_creation.ensures.same in
    let room = c.in_ok-process.ensures in
    record {
      creating = (c.args.image.now, at.0, at.1, c.in-Ok.kept, making before new same at.0 at.1 at.2 Creates (creation c.args.call.way (sym c.creates.ensures ∙ c.if-creates.true)));
      few = few before new same;
      countable = countable before new same;
      gap = gap before new same c.if-not-fits.false;
      node = room.process.node;
      empty = room.made.empty;
      level = omega (arith, room.made.level.0, room.made.level.1);
      process = room.process.process;
      next = room.made.number_is ∙ sym (ap (λ n. n + 1) same.made);
      numbers = (rooms before new same at.0 (rooms-of c.args.image.now at.0 at.1 c.args.self.now at.2)).numbers;
    }

pub returns-in_ok-process-clause-turned : goal.returns-in_ok-process-clause-turned
returns-in_ok-process-clause-turned c cells choices h =
    let before = (goal.at.returns-in_ok-process-clause-turned c).After-fits in
    let program = c.args.image.now in
    let new = c.reserve_creation.new.self in
    let same = c.reserve_creation.ensures.same in
    let stepped = c.create.ensures.stepped program cells choices c.in-Ok.kept (making before new same cells choices h Creates (creation c.args.call.way (sym c.creates.ensures ∙ c.if-creates.true))) in
    turned-so program cells choices c.args.p c.create.new.self (untouched before cells choices h) stepped
    (c.create.ensures.rooms program cells (rooms before new same cells (rooms-of program cells choices c.args.self.now h)) (omega (arith, deep before, c.in_ok-process.ensures.made.operands)))

-- ---- the others stand where they stood

pub returns-in-Err-clause-rest : goal.returns-in-Err-clause-rest
returns-in-Err-clause-rest c =
    let before = (goal.at.returns-in-Err-clause-rest c).After-reserve in
    let old = snapshot_of c.args.self.now in
    let reserved = snapshot_of c.reserve.new.self in
    beside-again c.args.p old reserved (snapshot_of c.fail.new.self) (beside-shown c.args.p old reserved (reserved-shown before)) c.fail.ensures.others

pub returns-in_ok-begin_call-clause-rest : goal.returns-in_ok-begin_call-clause-rest
returns-in_ok-begin_call-clause-rest c =
    (stepped-given c.requires.at c.give.ensures.others c.give.ensures.rooms c.begin_call.new.self c.in_ok-begin_call.ensures.made).lives.others

pub returns-in_ok-process-clause-rest : goal.returns-in_ok-process-clause-rest
returns-in_ok-process-clause-rest c =
    let before = (goal.at.returns-in_ok-process-clause-rest c).After-fits in
    let old = snapshot_of c.args.self.now in
    let new = c.reserve_creation.new.self in
    beside-again c.args.p old (snapshot_of new) (snapshot_of c.create.new.self) (beside-shown c.args.p old (snapshot_of new) (shown before new c.reserve_creation.ensures.same)) c.create.ensures.others
