use Rattle.std.proofs.Common.{◌≡◌, ◌≤◌, Bool, false, Some, [], ◌∷◌, ◌++◌, length, take, refl, sym, ap, ◌∙◌, subst, arith, slice_get, slice_set, vec_capacity}
use Rattle.std.specs.Vec.{with_item}
use Rattle.hep_machine.specs.Words.{numbered, with_numbered}
use Rattle.hep_code.specs.Words.{deepest}
use Rattle.hep_proc.specs.Nodes.{nodes_of}
use Rattle.hep_step.specs.Simulation.{unit_code}
use Rattle.hep_proc.specs.declared.process.Local.{Local}
use Rattle.hep_proc.specs.Stacks.{Stack, stack_with}
use Rattle.hep_proc.proofs.Levels.{operands-are}
use Rattle.hep_state.specs.declared.core_state.CoreState.{CoreState}
use Rattle.hep_state.specs.Words.{HasMadeTurn, entered_level, snapshot_made_by, snapshot_of, stacks_of, turn_of}
use Rattle.hep_state.proofs.BegunActivations.{made-shown}
use Rattle.hep_state.proofs.OtherProcesses.{beside-same, beside-set}
use Rattle.hep_state.proofs.Processes.{kept-set, numbers-still, process-still, room-more, stacks-set, some-levels-at}
use Rattle.hep_state.proofs.UnchangedStates.{rooms-begun, rooms-set}
use Rattle.hep_state.proofs.core_state.CoreState.call.Goals as goal

pub begin_activation-level-requires : goal.begin_activation-level-requires
begin_activation-level-requires c =
    let r = c.requires.calling in
    record { making = (r.0, r.1, r.2, r.3, c.args.kept, c.args.index, r.5); few = c.requires.few; countable = c.requires.countable; gap = c.requires.gap; node = c.requires.node; numbers = c.requires.numbers }

pub place-at-requires : goal.place-at-requires
place-at-requires c = record { numbers = c.requires.numbers; living = c.requires.calling.5.making.levels }

pub index_mut-requires : goal.index_mut-requires
index_mut-requires c =
    let same = ap (λ (m : CoreState). m.processes.items) c.begin_activation-level.ensures.others in
    omega (arith, c.place-at.ensures.inside, ap length same)

pub put_above-requires : goal.put_above-requires
put_above-requires c =
    let same = ap (λ (m : CoreState). m.processes.items) c.begin_activation-level.ensures.others in
    let made = ap (λ (m : CoreState). m.made) c.begin_activation-level.ensures.others in
    let it = process-still c.args.self.now c.begin_activation-level.new.self c.args.p same made c.requires.numbers c.place-at.ensures c.requires.calling.5.making.levels.kept c.index_mut.ensures.value in
    let there = ap (λ qs. slice_get qs c.place-at.result) (sym same) ∙ it.there in
    let e = c.requires.calling.5.making in
    record {
      levels = (some-levels-at it, c.requires.level c.place-at.result c.index_mut.result.now there it.number);
      few = omega (arith, e.holds.after.few, ap length (operands-are c.index_mut.result.now e.levels.level e.levels.below e.levels.operands e.levels.pending it.stack));
      pending = c.requires.pending c.place-at.result c.index_mut.result.now there it.number;
    }

pub returns : goal.returns
returns c =
    let p = c.args.p in
    let u = c.args.called.unit in
    let old = c.args.self.now in
    let m = snapshot_of old in
    let new = c.begin_activation-level.new.self in
    let begun = c.begin_activation-level.ensures in
    let level = c.begin_activation-level.result in
    let q = c.index_mut.result.now in
    let r = c.put_above.new.self in
    let arena = new.frames.arena in
    let nodes = nodes_of new.frames.nodes in
    let same = ap (λ (n : CoreState). n.processes.items) begun.others in
    let count = ap (λ (n : CoreState). n.made) begun.others in
    let numbers = numbers-still old new same count c.requires.numbers in
    let number = c.put_above.ensures.number in
    record {
      stepped = λ way program cells choices above makes.
          let t = turn_of makes.making in
          let e = makes.making.holds in
          let it = process-still old new p same count c.requires.numbers c.place-at.ensures makes.making.levels.kept c.index_mut.ensures.value in
          let later : Local = record t.level { kept = c.args.kept; index = c.args.index } in
          let pending = t.pending ++ take c.args.kept t.operands in
          let k : Stack = record { levels = entered_level program u level.key ∷ (later ∷ t.below); operands = []; pending = pending } in
          let entered : level ≡ entered_level program u level.key = begun.level ∙ (λ i. record { key = level.key; unit = u; kept = 0; index = makes.unit.entry_is i }) in
          let stack = c.put_above.ensures.stack t.level t.below t.operands t.pending it.stack ∙ (λ i. record { levels = entered i ∷ (later ∷ t.below); operands = []; pending = pending }) in
          let stacks = ap (stacks_of (slice_set new.processes.items c.place-at.result r)) (sym count) ∙ (stacks-set new p r k numbers it number stack ∙ (λ i. with_numbered (stacks_of (same i) (count i)) p k)) in
          let shown = ap (λ (n : CoreState). snapshot_of (record n { processes = with_item new.processes c.place-at.result r })) begun.others ∙ (λ i. record (snapshot_made_by false t u level.key c.args.kept c.args.index arena nodes) { processes = stacks i }) in
          subst (HasMadeTurn t) (sym shown) (
          subst (λ (creates : Bool). HasMadeTurn t (snapshot_made_by creates t u level.key c.args.kept c.args.index arena nodes)) above (
          made-shown e.turning u e.actuals e.binding way level.key c.args.kept c.args.index arena nodes (begun.entered way program cells choices c.args.kept c.args.index makes) e.after));
      rooms = λ program cells h deep.
          let e = c.requires.calling.5.making.levels in
          let it = process-still old new p same count c.requires.numbers c.place-at.ensures e.kept c.index_mut.ensures.value in
          let had = rooms-begun program cells old new begun.others h in
          let capacity = c.put_above.ensures.operands in
          let unit = ap (λ (l : Local). deepest (unit_code program l.unit)) begun.level in
          let enough : deepest (unit_code program level.unit) ≤ vec_capacity r.operands = omega (arith, unit, capacity, deep c.place-at.result q (ap (λ qs. slice_get qs c.place-at.result) (sym same) ∙ it.there) it.number) in
          rooms-set program cells new _ r it number refl refl refl (
          room-more program q r e.level (record e.level { kept = c.args.kept; index = c.args.index }) level e.below e.operands [] e.pending (e.pending ++ take c.args.kept e.operands) refl it.stack (c.put_above.ensures.stack e.level e.below e.operands e.pending it.stack) (omega (arith, capacity)) enough (had.room c.place-at.result q it.there)) had;
      lives =
          let e = c.requires.calling.5.making.levels in
          let it = process-still old new p same count c.requires.numbers c.place-at.ensures e.kept c.index_mut.ensures.value in
          let before = stack_with e.level e.below e.operands e.pending in
          let later : Local = record e.level { kept = c.args.kept; index = c.args.index } in
          let pending = e.pending ++ take c.args.kept e.operands in
          let k : Stack = record { levels = level ∷ (later ∷ e.below); operands = []; pending = pending } in
          let kept : numbered (snapshot_of new).processes p ≡ Some before = (λ i. numbered (stacks_of (same i) (count i)) p) ∙ e.kept in
          record {
            living = record { level = level; below = later ∷ e.below; operands = []; pending = pending; kept = kept-set new p r k numbers it kept number (c.put_above.ensures.stack e.level e.below e.operands e.pending it.stack) };
            running = ap (λ (n : CoreState). n.halted) begun.others;
            made = count;
            counted = omega (arith, ap (λ (n : CoreState). n.activations) begun.others);
            others = λ n z apart there. beside-set p new r numbers it kept number n z apart (beside-same p m (snapshot_of new) (λ i. stacks_of (same i) (count i)) n z apart there);
          };
    }
