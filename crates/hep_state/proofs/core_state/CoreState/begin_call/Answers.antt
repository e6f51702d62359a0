use Rattle.std.proofs.Common.{◌≡◌, ◌<◌, ◌≤◌, ℕ, List, arith, sym, ap, ◌∙◌, subst, length, IsSome, vec_capacity}
use Rattle.hep_machine.specs.Words.{Units}
use Rattle.hep_arena.specs.Holes.{first_fit}
use Rattle.hep_code.specs.Words.{deepest}
use Rattle.hep_step.specs.Simulation.{unit_code}
use Rattle.hep_state.specs.declared.calling.CalledUnit.{CalledUnit}
use Rattle.hep_state.specs.declared.core_state.CoreState.{CoreState}
use Rattle.hep_state.specs.Words.{HaveRoom, HoldsInTurn, IsMachineAfter, IsMaking, IsUnit, Makes, ShowsSame, Snapshot, snapshot_of, turn_of}
use Rattle.hep_state.proofs.OtherProcesses.{beside-again, beside-shown}
use Rattle.hep_state.proofs.GivenArguments.{ahead-after}
use Rattle.hep_state.proofs.UnchangedStates.{carry, rooms-of, turned-so}
use Rattle.hep_state.proofs.core_state.CoreState.begin_call.Goals.{After-calls_touch_nothing, After-reserve_level}
use Rattle.hep_state.proofs.core_state.CoreState.begin_call.Goals as goal

inside : (c : After-calls_touch_nothing) → c.args.call.unit < length c.args.image.now
inside c =
    let at = c.requires.calling.at.3 in
    c.calls_can_be_made.ensures.inside (turn_of at) c.args.call c.is_runnable.ensures.accepted c.is_runnable.ensures.main at.holds

pub unit-unit-requires : goal.unit-unit-requires
unit-unit-requires c = inside (goal.at.unit-unit-requires c).After-calls_touch_nothing

pub reserve_level-requires : goal.reserve_level-requires
reserve_level-requires c = record { living = c.requires.calling.at.3.levels; numbers = c.requires.calling.at.2.numbers }

module _ (c : After-reserve_level) where
  abbrev program : Units
  program = c.args.image.now

  abbrev u : ℕ
  u = c.args.call.unit

  abbrev new : CoreState
  new = c.reserve_level.new.self

  abbrev callee : CalledUnit
  callee = record { unit = u; cells = c.unit-unit.result.now.cells; entry = c.unit-unit.result.now.entry }

  same : ShowsSame c.args.self.now new
  same = c.reserve_level.ensures.same

  -- what is called
  called : IsUnit program u c.unit-unit.result.now.cells c.unit-unit.result.now.entry
  called = record { inside = inside (goal.at.After-reserve_level c).After-calls_touch_nothing; cells_are = c.unit-unit.ensures.cells; entry_is = c.unit-unit.ensures.entry }

  deep : c.unit-unit.result.now.operands ≡ deepest (unit_code program u)
  deep = c.unit-unit.ensures.operands ∙ ap deepest c.unit-unit.ensures.code

  module _ {cells : ℕ} {choices : List ℕ} (h : IsMachineAfter program cells choices c.args.self.now) where
    -- what is made once there is room for it
    makes : Makes c.args.call.way program cells choices c.args.p new callee c.args.kept c.args.call.next
    makes =
        record {
          making = carry (λ i. HoldsInTurn program cells choices c.args.p (sym same.shown i) (λ t. IsMaking c.args.call.way t u c.args.kept c.args.call.next (sym same.passing i).given.items (sym same.passing i).shapes.items)) (c.requires.making cells choices h);
          unit = called;
        }

    rooms : HaveRoom program cells new
    rooms = same.rooms program cells (rooms-of program cells choices c.args.self.now h)

pub call-requires : goal.call-requires
call-requires c =
    let before = (goal.at.call-requires c).After-reserve_level in
    let calling = c.requires.calling in
    let h = calling.at.2 in
    let shown = (same before).shown in
    let room = c.in_ok-reserve_level.ensures.level in
    record {
      calling = (c.args.call.way, c.args.image.now, calling.at.0, calling.at.1, calling.above, makes before h);
      few = omega (arith, h.few, h.after.size, ap (λ (m : Snapshot). length m.arena.contents) shown);
      countable = omega (arith, calling.countable, ap (λ (m : Snapshot). m.activations) shown);
      gap = carry (λ i. IsSome (first_fit (sym c.unit-unit.ensures.cells i) (sym shown i).arena.holes)) c.requires.gap;
      node = room.node;
      level = room.level;
      pending = room.pending;
      numbers = (rooms before h).numbers;
    }

pub returns-clause-made : goal.returns-clause-made
returns-clause-made c =
    let before = (goal.at.returns-clause-made c).After-reserve_level in
    let program = c.args.image.now in
    let calling = c.requires.calling in
    let shown = (same before).shown in
    let lives = c.call.ensures.lives in
    record {
      turned = λ cells choices h.
          let at = ahead-after calling.at.3 h.after in
          let untouched = c.calls_touch_nothing.ensures (turn_of at) c.args.call c.is_runnable.ensures.accepted c.is_runnable.ensures.main at.holds in
          turned-so program cells choices c.args.p c.call.new.self untouched (c.call.ensures.stepped c.args.call.way program cells choices calling.above (makes before h))
          (c.call.ensures.rooms program cells (rooms before h) (λ i q e own. subst (λ n. n ≤ vec_capacity q.operands) (deep before) (c.in_ok-reserve_level.ensures.level.operands i q e own)));
      lives = record {
        living = lives.living;
        running = lives.running ∙ ap (λ (m : Snapshot). m.halted) shown;
        made = lives.made ∙ (same before).made;
        counted = omega (arith, lives.counted, ap (λ (m : Snapshot). m.activations) shown);
        others = beside-again c.args.p (snapshot_of c.args.self.now) (snapshot_of (new before)) (snapshot_of c.call.new.self) (beside-shown c.args.p (snapshot_of c.args.self.now) (snapshot_of (new before)) shown) lives.others;
      };
    }
