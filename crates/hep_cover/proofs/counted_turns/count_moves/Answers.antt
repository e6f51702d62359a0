use Rattle.std.proofs.Common.{◌≡◌, ◌≤◌, refl, sym, ap, ◌∙◌, subst, arith, is_some, vec_capacity}
use Rattle.hep_machine.specs.Words.{main_among}
use Rattle.hep_conditions.specs.Words.{IsAccepted}
use Rattle.hep_proc.specs.Nodes.{nodes_of}
use Rattle.hep_image.specs.Image.{most_cells}
use Rattle.hep_step.specs.PerformedSteps as step
use Rattle.hep_proc.specs.Stacks.{stack_with}
use Rattle.hep_proc.proofs.Levels.{last-there}
use Rattle.hep_state.specs.Words.{IsAfter, TurnOf, top_frame, turn_with}
use Rattle.hep_state.proofs.OtherProcesses.{beside-set}
use Rattle.hep_state.proofs.SilentTurns.{top-node}
use Rattle.hep_state.proofs.Processes.{kept-set, process-at, room-moved, shown-now}
use Rattle.hep_state.proofs.TakenTurns.{inside}
use Rattle.hep_state.proofs.TopActivations.{turning}
use Rattle.hep_state.proofs.UnchangedStates.{carry, machine-of, rooms-of, rooms-set}
use Rattle.hep_advance.specs.SilentRuns.{HasNoMoveAt}
use Rattle.hep_step.specs.Simulation.{unit_arrays, unit_code}
use Rattle.hep_advance.proofs.KeptTurns.{HasLaws, can-go, come-so, frame-there, here}
use Rattle.hep_cover.proofs.CountedSteps.{tallied-so, uncounted}
use Rattle.hep_cover.proofs.counted_turns.count_moves.Goals.{After-tops_are_running}
use Rattle.hep_cover.proofs.counted_turns.count_moves.Goals as goal

pub place-at-requires : goal.place-at-requires
place-at-requires c = record { numbers = c.requires.turn.turn.after.2.numbers; living = c.requires.turn.turn.living }

-- what the laws called say of the program
known : (c : After-tops_are_running) (t : TurnOf) → t.program ≡ c.args.marked.now.tabled.image.now → t.cells ≤ most_cells → HasLaws t
known c t is few =
    record {
      running = λ r same turns. c.tops_are_running.ensures.running r (subst IsAccepted (sym (same ∙ is)) c.is_runnable.ensures.accepted) (ap (λ program. is_some (main_among program)) (same ∙ is) ∙ c.is_runnable.ensures.main) turns;
      arrays = λ r same turns. c.tops_are_running.ensures.arrays r (subst IsAccepted (sym (same ∙ is)) c.is_runnable.ensures.accepted) (ap (λ program. is_some (main_among program)) (same ∙ is) ∙ c.is_runnable.ensures.main) turns;
      few = few;
    }

pub count_top-requires : goal.count_top-requires
count_top-requires c =
    let program = c.args.marked.now.tabled.image.now in
    let p = c.args.p in
    let q = c.index_mut-process.result.now in
    let e = c.requires.turn.turn.living in
    let h = c.requires.turn.turn.after.2 in
    let it =
    process-at c.args.machine.now p c.requires.turn.turn.after.2.numbers c.place-at.ensures e.kept c.index_mut-process.ensures.value in
    let turn = turning p h.after e c.requires.turn.turn.running in
    let t = turn_with program c.requires.turn.turn.after.0 c.requires.turn.turn.after.1 e turn.0 in
    let runs = known (goal.at.count_top-requires c).After-tops_are_running t refl h.few in
    let framed = frame-there t runs turn.1 in record {
      can = (
        c.requires.turn.tables,
        record {
          l = e.level;
          ls = e.below;
          operands = e.operands;
          pending = e.pending;
          stack = it.stack;
          inside = inside turn.1;
          there = top-node turn.1;
          sized = framed.0;
          common = framed.1;
          ready = can-go t runs turn.1 (vec_capacity q.operands)
              (h.room c.place-at.result q it.there _ e.level (last-there q e.level e.below e.operands e.pending it.stack));
        },
      );
      marks = c.requires.marks;
    }

pub returns-clause-gone : goal.returns-clause-gone
returns-clause-gone c cells choices h =
    let program = c.args.marked.now.tabled.image.now in
    let old = c.args.machine.now in
    let p = c.args.p in
    let q = c.index_mut-process.result.now in
    let r = c.count_top.new.process in
    let done = c.count_top.ensures in
    let e = c.requires.turn.turn.living in
    let l = e.level in
    let ls = e.below in
    let vs = e.operands in
    let ws = e.pending in
    let it = process-at old p c.requires.turn.turn.after.2.numbers c.place-at.ensures e.kept c.index_mut-process.ensures.value in
    let turn = turning p h.after e c.requires.turn.turn.running in
    let t = turn_with program cells choices e turn.0 in
    let a = done.tallied l ls vs ws it.stack in
    let come = come-so t (known (goal.at.returns-clause-gone c).After-tops_are_running t refl h.few) turn.1 c.count_top.result (step.snapshot c.count_top.new.frames.arena.contents a.left a.next) (
    uncounted c.args.marked.now.operations.now (unit_code program l.unit) (unit_arrays program l.unit)
    (top_frame t).first (here t) c.args.counts.now.items c.count_top.result
    (step.snapshot c.count_top.new.frames.arena.contents a.left a.next) c.count_top.new.counts.items a.tallied) in
    let shown =
    shown-now old p r c.count_top.new.frames l ls a.left ws a.next
    c.requires.turn.turn.after.2.numbers it done.same.number a.stack done.holes done.nodes in (
      come.after,
      come.gone,
      machine-of program cells come.after _ (subst (IsAfter program cells come.after) (sym shown) come.turns.after) (
          rooms-set program cells old _ r it done.same.number refl refl refl
          (room-moved program q r l a.next ls vs a.left ws it.stack a.stack done.same.room (h.room c.place-at.result q it.there))
          (rooms-of program cells choices old h)),
    )

pub returns-clause-counted : goal.returns-clause-counted
returns-clause-counted c cells choices h apart entry =
    let program = c.args.marked.now.tabled.image.now in
    let old = c.args.machine.now in
    let p = c.args.p in
    let e = c.requires.turn.turn.living in
    let it = process-at old p c.requires.turn.turn.after.2.numbers c.place-at.ensures e.kept c.index_mut-process.ensures.value in
    let turn = turning p h.after e c.requires.turn.turn.running in
    let t = turn_with program cells choices e turn.0 in
    let a = c.count_top.ensures.tallied e.level e.below e.operands e.pending it.stack in
    tallied-so t c.args.marked.now.operations.now
    (known (goal.at.returns-clause-counted c).After-tops_are_running t refl h.few) turn.1 apart entry
    c.args.counts.now.items c.count_top.result
    (step.snapshot c.count_top.new.frames.arena.contents a.left a.next) c.count_top.new.counts.items a.tallied

pub returns-clause-all : goal.returns-clause-all
returns-clause-all c fewer =
    let old = c.args.machine.now in
    let p = c.args.p in
    let r = c.count_top.new.process in
    let e = c.requires.turn.turn.living in
    let it = process-at old p c.requires.turn.turn.after.2.numbers c.place-at.ensures e.kept c.index_mut-process.ensures.value in
    let a = c.count_top.ensures.tallied e.level e.below e.operands e.pending it.stack in
    let k = stack_with (record e.level { index = a.next }) e.below a.left e.pending in
    record {
      living = record {
        level = record e.level { index = a.next };
        below = e.below;
        operands = a.left;
        pending = e.pending;
        kept = kept-set old p r k c.requires.turn.turn.after.2.numbers it e.kept c.count_top.ensures.same.number a.stack;
      };
      none = carry
          (λ i. HasNoMoveAt c.args.marked.now.tabled.image.now (nodes_of (sym c.count_top.ensures.nodes i)) e.level (step.snapshot c.count_top.new.frames.arena.contents a.left a.next))
          (a.all fewer);
    }

pub returns-clause-lives : goal.returns-clause-lives
returns-clause-lives c =
    let old = c.args.machine.now in
    let p = c.args.p in
    let r = c.count_top.new.process in
    let e = c.requires.turn.turn.living in
    let it = process-at old p c.requires.turn.turn.after.2.numbers c.place-at.ensures e.kept c.index_mut-process.ensures.value in
    let a = c.count_top.ensures.tallied e.level e.below e.operands e.pending it.stack in
    let k = stack_with (record e.level { index = a.next }) e.below a.left e.pending in
    record {
      living = record {
        level = record e.level { index = a.next };
        below = e.below;
        operands = a.left;
        pending = e.pending;
        kept = kept-set old p r k c.requires.turn.turn.after.2.numbers it e.kept c.count_top.ensures.same.number a.stack;
      };
      running = refl;
      made = refl;
      counted = omega arith;
      others = beside-set p old r c.requires.turn.turn.after.2.numbers it e.kept c.count_top.ensures.same.number;
    }
