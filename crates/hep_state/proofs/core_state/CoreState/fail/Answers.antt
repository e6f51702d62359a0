use Rattle.std.proofs.Common.{◌≡◌, ◌∷◌, ◌++◌, List, [], reverse, refl, sym, ap, ◌∙◌, subst}
use Rattle.hep_machine.specs.Words.{activations_on, is_held}
use Rattle.hep_proc.specs.FrameTable.{CanAllLeave, CanLeave}
use Rattle.hep_layout.specs.Words.{is_stacked}
use Rattle.hep_proc.specs.Nodes.{nodes_of}
use Rattle.hep_proc.specs.declared.process.Local.{Local}
use Rattle.hep_proc.specs.declared.process.Process.{Process}
use Rattle.hep_proc.specs.Stacks.{keys_of, Stack}
use Rattle.hep_state.specs.Words.{HasMadeTurn, fault_at, snapshot_of, snapshot_failed, state_before, state_failed, turn_of}
use Rattle.hep_state.proofs.SilentTurns.{can-all-leave, can-leave, failed-ended, failed-shown, lead-upwards}
use Rattle.hep_state.proofs.OtherProcesses.{beside-set}
use Rattle.hep_state.proofs.Processes.{process-at, room-none, stacks-set, some-levels-at}
use Rattle.hep_state.proofs.UnchangedStates.{rooms-set}
use Rattle.hep_state.proofs.core_state.CoreState.fail.Goals as goal

pub place-at-requires : goal.place-at-requires
place-at-requires c = record { numbers = c.requires.ending.4; living = c.requires.ending.3.levels }

pub top-unit-requires : goal.top-unit-requires
top-unit-requires c = some-levels-at (process-at c.args.self.now c.args.p c.requires.ending.4 c.place-at.ensures c.requires.ending.3.levels.kept c.index_mut-process.ensures.value)

pub leave_all-requires : goal.leave_all-requires
leave_all-requires c =
    let e = c.requires.ending.3 in
    let m = snapshot_of c.args.self.now in
    let it = process-at c.args.self.now c.args.p c.requires.ending.4 c.place-at.ensures e.levels.kept c.index_mut-process.ensures.value in
    subst (λ (ls : List Local). CanAllLeave m.arena m.nodes (keys_of ls)) (ap (λ (k : Stack). k.levels) (sym it.stack)) (can-all-leave e.holds.turning)

pub returns-clause-stepped : goal.returns-clause-stepped
returns-clause-stepped c program cells choices e =
    let p = c.args.p in
    let kind = c.args.kind in
    let m = snapshot_of c.args.self.now in
    let t = turn_of e in
    let turning = e.holds.turning in
    let old = state_before t in
    let later = state_failed t kind in
    let arena = c.leave_all.new.frames.arena in
    let nodes = nodes_of c.leave_all.new.frames.nodes in
    let it = process-at c.args.self.now p c.requires.ending.4 c.place-at.ensures e.levels.kept c.index_mut-process.ensures.value in
    let same = c.top-unit.ensures t.level t.below t.operands t.pending it.stack in
    let ends = activations_on (t.top.0 ∷ t.top.1) in
    let can = subst (λ (ls : List Local). CanLeave m.nodes (is_stacked old) (keys_of ls) ends) (ap (λ (k : Stack). k.levels) (sym it.stack)) (can-leave turning) in
    let left = c.leave_all.ensures.ended program old later (is_held old) turning.after.layout ends turning.after.shows.keeps can
    (failed-ended turning kind) (lead-upwards program choices later refl) in
    let shown = failed-shown turning arena nodes c.args.line kind left c.leave_all.ensures.cells e.holds.simulated in
    let none : ◌≡◌ {A = Stack} (record { levels = reverse c.leave_all.new.levels.items; operands = c.clear.new.self.items; pending = c.clear-2.new.self.items }) (record { levels = []; operands = []; pending = [] }) =
    λ i. record { levels = reverse (c.leave_all.ensures.none i); operands = c.clear.ensures.items i; pending = c.clear-2.ensures.items i } in
    let stacks = stacks-set c.args.self.now p (record c.index_mut-process.result.now { levels = c.leave_all.new.levels; operands = c.clear.new.self; pending = c.clear-2.new.self }) (record { levels = []; operands = []; pending = [] }) c.requires.ending.4 it refl none in
    let faults : c.append.new.items.items ≡ m.faults ++ fault_at t c.args.line kind ∷ [] = c.append.ensures ∙ ap (λ l. m.faults ++ fault_at (record t { level = l }) c.args.line kind ∷ []) same in
    subst (HasMadeTurn t) (λ i. record (snapshot_failed t c.args.line kind arena nodes) { processes = sym stacks i; faults = sym faults i }) shown

pub returns-clause-rooms : goal.returns-clause-rooms
returns-clause-rooms c program cells h =
    let r : Process = record c.index_mut-process.result.now { levels = c.leave_all.new.levels; operands = c.clear.new.self; pending = c.clear-2.new.self } in
    let it = process-at c.args.self.now c.args.p c.requires.ending.4 c.place-at.ensures c.requires.ending.3.levels.kept c.index_mut-process.ensures.value in
    rooms-set program cells c.args.self.now _ r it refl refl refl refl (room-none program r c.leave_all.ensures.none) h

pub returns-clause-others : goal.returns-clause-others
returns-clause-others c =
    let r : Process = record c.index_mut-process.result.now { levels = c.leave_all.new.levels; operands = c.clear.new.self; pending = c.clear-2.new.self } in
    let levels = c.requires.ending.3.levels in
    let it = process-at c.args.self.now c.args.p c.requires.ending.4 c.place-at.ensures levels.kept c.index_mut-process.ensures.value in
    beside-set c.args.p c.args.self.now r c.requires.ending.4 it levels.kept refl
