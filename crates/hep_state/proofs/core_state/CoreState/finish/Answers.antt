use Rattle.std.proofs.Common.{[], ◌∷◌, refl, sym, ap, ◌∙◌, subst, arith}
use Rattle.hep_machine.specs.Words.{is_held}
use Rattle.hep_proc.specs.Nodes.{nodes_of}
use Rattle.hep_proc.proofs.Slabs.{some-value}
use Rattle.hep_proc.specs.declared.process.Local.{Local}
use Rattle.hep_proc.specs.Stacks.{Stack}
use Rattle.hep_state.specs.Words.{HasMadeTurn, node_under, snapshot_of, snapshot_returned, state_before, state_returned, turn_of}
use Rattle.hep_state.proofs.SilentTurns.{kept-now, lead-upwards, returned-ended, returned-shown, top-node}
use Rattle.hep_state.proofs.OtherProcesses.{beside-set}
use Rattle.hep_state.proofs.Processes.{kept-set, process-at, room-fewer, stacks-set, some-levels-at}
use Rattle.hep_state.proofs.UnchangedStates.{rooms-set}
use Rattle.hep_state.proofs.core_state.CoreState.finish.Goals as goal

pub place-at-requires : goal.place-at-requires
place-at-requires c = record { numbers = c.requires.4; living = c.requires.3.levels }

pub leave-requires : goal.leave-requires
leave-requires c =
    let e = c.requires.3 in
    let slab = c.args.self.now.frames.nodes in
    let t = turn_of e in
    let it = process-at c.args.self.now c.args.p c.requires.4 c.place-at.ensures e.levels.kept c.index_mut-process.ensures.value in
    record {
      some = some-levels-at it;
      out = record {
        level = t.level;
        below = t.below;
        operands = t.operands;
        pending = t.pending;
        stack = it.stack;
        there = some-value slab t.level.key _ (top-node e.holds.turning);
        kept = kept-now e.holds.turning;
      };
    }

pub returns-clause-stepped : goal.returns-clause-stepped
returns-clause-stepped c program cells choices e =
    let p = c.args.p in
    let m = snapshot_of c.args.self.now in
    let arena = c.leave.new.frames.arena in
    let nodes = nodes_of c.leave.new.frames.nodes in
    let t = turn_of e in
    let turning = e.holds.turning in
    let it = process-at c.args.self.now p c.requires.4 c.place-at.ensures e.levels.kept c.index_mut-process.ensures.value in
    let same = c.leave.ensures.level t.level t.below t.operands t.pending it.stack in
    let there = ap (λ (l : Local). m.nodes l.key) same ∙ top-node turning in
    let left = c.leave.ensures.frames.ended program (state_before t) (state_returned t) (is_held (state_before t)) turning.after.layout (node_under m.nodes t.level.key) turning.after.shows.keeps there
    (returned-ended turning) (lead-upwards program choices (state_returned t) refl) in
    let shown = returned-shown turning arena nodes left c.leave.ensures.frames.cells e.holds.simulated in
    let stacks = stacks-set c.args.self.now p c.leave.new.process (record { levels = t.below; operands = []; pending = t.pending }) c.requires.4 it c.leave.ensures.number (c.leave.ensures.stack t.level t.below t.operands t.pending it.stack) in
    subst (HasMadeTurn t) (λ i. record (snapshot_returned t arena nodes) { processes = sym stacks i }) shown

pub returns-clause-rooms : goal.returns-clause-rooms
returns-clause-rooms c program cells h =
    let p = c.args.p in
    let q = c.index_mut-process.result.now in
    let r = c.leave.new.process in
    let it = process-at c.args.self.now p c.requires.4 c.place-at.ensures c.requires.3.levels.kept c.index_mut-process.ensures.value in
    rooms-set program cells c.args.self.now _ r it c.leave.ensures.number refl refl refl (
    room-fewer program q r c.leave.result c.leave.ensures.fewer c.leave.ensures.capacity (h.room c.place-at.result q it.there)) h

pub returns-clause-others : goal.returns-clause-others
returns-clause-others c =
    let levels = c.requires.3.levels in
    let it = process-at c.args.self.now c.args.p c.requires.4 c.place-at.ensures levels.kept c.index_mut-process.ensures.value in
    beside-set c.args.p c.args.self.now c.leave.new.process c.requires.4 it levels.kept c.leave.ensures.number

pub returns-clause-lives : goal.returns-clause-lives
returns-clause-lives c levels l ls below =
    let m = c.args.self.now in
    let p = c.args.p in
    let it = process-at m p c.requires.4 c.place-at.ensures levels.kept c.index_mut-process.ensures.value in
    let k : Stack = record { levels = l ∷ ls; operands = []; pending = levels.pending } in
    let left = c.leave.ensures.stack levels.level levels.below levels.operands levels.pending it.stack ∙ (λ i. record { levels = below i; operands = []; pending = levels.pending }) in
    record {
      living = record { level = l; below = ls; operands = []; pending = levels.pending; kept = kept-set m p c.leave.new.process k c.requires.4 it levels.kept c.leave.ensures.number left };
      running = refl;
      made = refl;
      counted = omega arith;
      others = beside-set p m c.leave.new.process c.requires.4 it levels.kept c.leave.ensures.number;
    }
