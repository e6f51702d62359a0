use Rattle.std.proofs.Common.{◌≡◌, ◌-◌, ◌<◌, ◌≤◌, ◌∷◌, drop, length, refl, sym, ap, ◌∙◌, subst, arith, vec_capacity, length-set}
use Rattle.std.specs.Vec.{with_item}
use Rattle.hep_code.specs.Words.{values_ahead, deepest}
use Rattle.hep_step.specs.Simulation.{unit_code}
use Rattle.hep_proc.specs.declared.process.Local.{Local}
use Rattle.hep_proc.specs.Stacks.{stack_with}
use Rattle.hep_proc.proofs.Levels.{last-there, some-levels}
use Rattle.hep_state.specs.Words.{HasLevels, IsAhead, IsInFront, Snapshot, snapshot_of, with_stack, IsAfter}
use Rattle.hep_state.proofs.NextSteps.{found-ahead}
use Rattle.hep_state.proofs.Processes.{process-at, room-moved, stacks-set, some-levels-at}
use Rattle.hep_state.proofs.TopActivations.{settled, turning}
use Rattle.hep_state.proofs.TakenTurns.{inside, room-ahead}
use Rattle.hep_state.proofs.UnchangedStates.{carry, machine-of, rooms-of, rooms-set, top-settled}
use Rattle.hep_state.proofs.core_state.CoreState.step_ahead.Goals as goal
use Rattle.hep_binding.proofs.Calls.{set-numbered}

pub place-at-requires : goal.place-at-requires
place-at-requires c = record { numbers = c.requires.after.2.numbers; living = c.requires.living }

pub top-unit-requires : goal.top-unit-requires
top-unit-requires c = some-levels-at (process-at c.args.self.now c.args.p c.requires.after.2.numbers c.place-at.ensures c.requires.living.kept c.index_mut-process.ensures.value)

pub unit-requires : goal.unit-requires
unit-requires c =
    let e = c.requires.living in
    let it = process-at c.args.self.now c.args.p c.requires.after.2.numbers c.place-at.ensures e.kept c.index_mut-process.ensures.value in
    let turn = turning c.args.p c.requires.after.2.after e c.requires.running in
    subst (λ (l : Local). l.unit < length c.args.image.now) (sym (c.top-unit.ensures e.level e.below e.operands e.pending it.stack)) (inside turn.1)

pub settle_top-requires : goal.settle_top-requires
settle_top-requires c =
    let program = c.args.image.now in
    let e = c.requires.living in
    let l = e.level in
    let h = c.requires.after in
    let q = c.index_mut-process.result.now in
    let it = process-at c.args.self.now c.args.p c.requires.after.2.numbers c.place-at.ensures e.kept c.index_mut-process.ensures.value in
    let turn = turning c.args.p h.2.after e c.requires.running in
    let code : c.as_slice-code.result.now ≡ unit_code program l.unit = c.as_slice-code.ensures ∙ (c.unit.ensures.code ∙ ap (λ (k : Local). unit_code program k.unit) (c.top-unit.ensures l e.below e.operands e.pending it.stack)) in
    let ahead = ap (λ is. values_ahead (drop l.index is)) code in
    let room : deepest (unit_code program l.unit) ≤ vec_capacity q.operands = h.2.room c.place-at.result q it.there _ l (last-there q l e.below e.operands e.pending it.stack) in
    (l, e.below, e.operands, e.pending, it.stack, omega (arith, ahead, room, room-ahead turn.1))

pub top-requires : goal.top-requires
top-requires c =
    let program = c.args.image.now in
    let e = c.requires.living in
    let it = process-at c.args.self.now c.args.p c.requires.after.2.numbers c.place-at.ensures e.kept c.index_mut-process.ensures.value in
    let code : c.as_slice-code.result.now ≡ unit_code program e.level.unit = c.as_slice-code.ensures ∙ (c.unit.ensures.code ∙ ap (λ (k : Local). unit_code program k.unit) (c.top-unit.ensures e.level e.below e.operands e.pending it.stack)) in
    let s = c.settle_top.ensures.settled program e.level e.below e.operands e.pending code it.stack in
    some-levels c.settle_top.new.process (record e.level { index = s.0 }) e.below s.1 e.pending s.2

pub returns : goal.returns
returns c =
    let program = c.args.image.now in
    let old = c.args.self.now in
    let m = snapshot_of old in
    let p = c.args.p in
    let q = c.index_mut-process.result.now in
    let r = c.settle_top.new.process in
    let e = c.requires.living in
    let l = e.level in
    let ls = e.below in
    let vs = e.operands in
    let ws = e.pending in
    let it = process-at old p c.requires.after.2.numbers c.place-at.ensures e.kept c.index_mut-process.ensures.value in
    let code : c.as_slice-code.result.now ≡ unit_code program l.unit = c.as_slice-code.ensures ∙ (c.unit.ensures.code ∙ ap (λ (k : Local). unit_code program k.unit) (c.top-unit.ensures l ls vs ws it.stack)) in
    let s = c.settle_top.ensures.settled program l ls vs ws code it.stack in
    let later = record l { index = s.0 } in
    let k = stack_with later ls s.1 ws in
    let top : c.top.result ≡ later = c.top.ensures later ls s.1 ws s.2 in
    let stacks = stacks-set old p r k c.requires.after.2.numbers it c.settle_top.ensures.same.number s.2 in
    let shown : snapshot_of (record old { processes = with_item old.processes c.place-at.result r }) ≡ with_stack m p (later ∷ ls) s.1 ws = λ i. record m { processes = stacks i } in
    let levels : HasLevels (with_stack m p (later ∷ ls) s.1 ws) p = record { level = later; below = ls; operands = s.1; pending = ws; kept = set-numbered m.processes p (stack_with l ls vs ws) k e.kept } in
    let here : drop c.top.result.index c.as_slice-code.result.now ≡ drop s.0 (unit_code program l.unit) = (λ i. drop (top i).index (code i)) in
    record {
      ahead =
          subst (λ (n : Snapshot). IsAhead program p old n c.ahead_at.result) (sym shown) (
          found-ahead program old levels
          (λ cells choices after.
          let turn = turning p after.after e c.requires.running in
          (turn.0, settled turn.1 s.1 s.0 s.3.stands))
          s.3.past c.ahead_at.result (carry (λ i. IsInFront (top i).index (here i) c.ahead_at.result) c.ahead_at.ensures));
      after = λ cells choices h.
          let turn = turning p h.after e c.requires.running in
          machine-of program cells choices _ (subst (IsAfter program cells choices) (sym shown) (settled turn.1 s.1 s.0 s.3.stands).after) (
          rooms-set program cells old _ r it c.settle_top.ensures.same.number refl refl refl (room-moved program q r l s.0 ls vs s.1 ws it.stack s.2 c.settle_top.ensures.same.room (h.room c.place-at.result q it.there)) (rooms-of program cells choices old h));
      same = record { arena = refl; nodes = refl; processes = ap length stacks ∙ length-set m.processes (p - 1) k; activations = refl; records = refl; faults = refl; halted = refl };
      top = top-settled p program m _ e s.1 s.0 shown s.3 s.4;
      living = subst (λ (n : Snapshot). HasLevels n p) (sym shown) levels;
    }
