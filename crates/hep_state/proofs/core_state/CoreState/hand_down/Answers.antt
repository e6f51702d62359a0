use Rattle.std.proofs.Common.{◌∷◌, refl, sym, ap, ◌∙◌, subst, arith}
use Rattle.hep_machine.specs.Words.{is_held}
use Rattle.hep_proc.specs.Nodes.{nodes_of}
use Rattle.hep_proc.proofs.Slabs.{some-value}
use Rattle.hep_proc.specs.declared.process.Local.{Local}
use Rattle.hep_proc.specs.Stacks.{operands_answered, pending_answered, Stack, stack_with}
use Rattle.hep_state.specs.Words.{HasMadeTurn, node_under, snapshot_answered, snapshot_of, state_answered, state_before, turn_of}
use Rattle.hep_state.proofs.SilentTurns.{answer-room, answered-ended, answered-shown, kept-now, lead-upwards, top-node}
use Rattle.hep_state.proofs.OtherProcesses.{beside-set}
use Rattle.hep_state.proofs.Processes.{kept-set, process-at, room-below, room-fewer, stacks-set, some-levels-at}
use Rattle.hep_state.proofs.UnchangedStates.{rooms-set}
use Rattle.hep_state.proofs.core_state.CoreState.hand_down.Goals as goal

pub place-at-requires : goal.place-at-requires
place-at-requires c = record { numbers = c.requires.4.numbers; living = c.requires.3.levels }

pub leave-requires : goal.leave-requires
leave-requires c =
    let e = c.requires.3 in
    let q = c.index_mut-process.result.now in
    let slab = c.args.self.now.frames.nodes in
    let t = turn_of e in
    let it = process-at c.args.self.now c.args.p c.requires.4.numbers c.place-at.ensures e.levels.kept c.index_mut-process.ensures.value in
    record {
      some = some-levels-at it;
      out = record {
        out = record {
          level = t.level;
          below = t.below;
          operands = t.operands;
          pending = t.pending;
          stack = it.stack;
          there = some-value slab t.level.key _ (top-node e.holds.turning);
          kept = kept-now e.holds.turning;
        };
        room = λ l ls below.
            let stack = it.stack ∙ (λ i. stack_with t.level (below i) t.operands t.pending) in
            omega (arith, answer-room e.holds.turning c.args.value e.holds.simulated l ls below, room-below c.requires.0 q t.level l ls t.operands t.pending stack (c.requires.4.room c.place-at.result q it.there));
      };
    }

pub returns-clause-stepped : goal.returns-clause-stepped
returns-clause-stepped c program cells choices e =
    let p = c.args.p in
    let v = c.args.value in
    let m = snapshot_of c.args.self.now in
    let arena = c.leave.new.frames.arena in
    let nodes = nodes_of c.leave.new.frames.nodes in
    let t = turn_of e in
    let turning = e.holds.turning in
    let it = process-at c.args.self.now p c.requires.4.numbers c.place-at.ensures e.levels.kept c.index_mut-process.ensures.value in
    let same = c.leave.ensures.level t.level t.below t.operands t.pending it.stack in
    let there = ap (λ (l : Local). m.nodes l.key) same ∙ top-node turning in
    let left = c.leave.ensures.frames.ended program (state_before t) (state_answered t v) (is_held (state_before t)) turning.after.layout (node_under m.nodes t.level.key) turning.after.shows.keeps there
    (answered-ended turning v) (lead-upwards program choices (state_answered t v) refl) in
    let shown = answered-shown turning v arena nodes left c.leave.ensures.frames.cells e.holds.simulated in
    let stack = c.leave.ensures.stack t.level t.below t.operands t.pending it.stack in
    let stacks = stacks-set c.args.self.now p c.leave.new.process (record { levels = t.below; operands = operands_answered t.pending t.below v; pending = pending_answered t.pending t.below }) c.requires.4.numbers it c.leave.ensures.number stack in
    subst (HasMadeTurn t) (λ i. record (snapshot_answered t v arena nodes) { processes = sym stacks i }) shown

pub returns-clause-rooms : goal.returns-clause-rooms
returns-clause-rooms c program cells h =
    let p = c.args.p in
    let q = c.index_mut-process.result.now in
    let r = c.leave.new.process in
    let it = process-at c.args.self.now p c.requires.4.numbers c.place-at.ensures c.requires.3.levels.kept c.index_mut-process.ensures.value in
    rooms-set program cells c.args.self.now _ r it c.leave.ensures.number refl refl refl (room-fewer program q r c.leave.result c.leave.ensures.fewer c.leave.ensures.capacity (h.room c.place-at.result q it.there)) h

pub returns-clause-others : goal.returns-clause-others
returns-clause-others c =
    let levels = c.requires.3.levels in
    let it = process-at c.args.self.now c.args.p c.requires.4.numbers c.place-at.ensures levels.kept c.index_mut-process.ensures.value in
    beside-set c.args.p c.args.self.now c.leave.new.process c.requires.4.numbers it levels.kept c.leave.ensures.number

pub returns-clause-lives : goal.returns-clause-lives
returns-clause-lives c levels l ls below =
    let m = c.args.self.now in
    let p = c.args.p in
    let v = c.args.value in
    let it = process-at m p c.requires.4.numbers c.place-at.ensures levels.kept c.index_mut-process.ensures.value in
    let k : Stack = record { levels = l ∷ ls; operands = operands_answered levels.pending levels.below v; pending = pending_answered levels.pending levels.below } in
    let left = c.leave.ensures.stack levels.level levels.below levels.operands levels.pending it.stack ∙ (λ i. record { levels = below i; operands = operands_answered levels.pending levels.below v; pending = pending_answered levels.pending levels.below }) in
    record {
      living = record {
        level = l;
        below = ls;
        operands = operands_answered levels.pending levels.below v;
        pending = pending_answered levels.pending levels.below;
        kept = kept-set m p c.leave.new.process k c.requires.4.numbers it levels.kept c.leave.ensures.number left;
      };
      running = refl;
      made = refl;
      counted = omega arith;
      others = beside-set p m c.leave.new.process c.requires.4.numbers it levels.kept c.leave.ensures.number;
    }
