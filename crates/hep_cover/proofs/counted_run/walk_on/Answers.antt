use Rattle.std.proofs.Common.{◌≡◌, suc, ◌+◌, drop, refl, sym, ap, ◌∙◌, subst, arith, vec_capacity}
use Rattle.hep_step.specs.PerformedSteps.{snapshot}
use Rattle.hep_step.specs.SilentSteps.{CanGoOn, Goes}
use Rattle.hep_fast.specs.Interpreter.{IsTabled}
use Rattle.hep_fast.proofs.StepRows.{as-many-cells, with-more-room}
use Rattle.hep_fast.proofs.Steps.{goes-on}
use Rattle.hep_cover.specs.Counts.{counted}
use Rattle.hep_cover.specs.StartMarks.{mark, mark_at}
use Rattle.hep_cover.specs.CountedRuns.{Tallies, stays}
use Rattle.hep_cover.proofs.StartMarks.{mark-there}
use Rattle.hep_cover.proofs.CountedSteps.{one-more, still, uncounted}
use Rattle.hep_cover.proofs.counted_run.walk_on.Goals as goal

pub loop-done-init : goal.loop-done-init
loop-done-init c =
    record { tallied = stays (snapshot c.args.arena.now.contents c.args.operands.now.items c.args.index.now) c.args.counts.now.items; few = omega arith; holes = refl; capacity = omega arith }

pub step_once-made-requires : goal.step_once-made-requires
step_once-made-requires c =
    let w = c.args.walk.now in
    let a = w.fast.activation in
    let start = snapshot c.args.arena.now.contents c.args.operands.now.items c.args.index.now in
    let here = snapshot c.loop-done.arena.contents c.loop-done.operands.items c.loop-done.index in
    let done = c.loop-done.done in
    let inv = c.loop-done.invariant in
    let goes : Goes a.code.now a.arrays.now a.frame.first start done here =
    uncounted w.operations.now a.code.now a.arrays.now a.frame.first start
    c.args.counts.now.items done here c.loop-done.counts.items inv.tallied in
    let before = vec_capacity c.args.operands.now in
    let after = vec_capacity c.loop-done.operands in
    record {
      tabled = subst (IsTabled w.fast) (sym (as-many-cells a.code.now a.arrays.now a.frame.first start here done goes)) c.requires.tabled;
      ready = λ n t more.
          subst (λ holes. CanGoOn a.code.now a.arrays.now holes a.frame after t) (sym inv.holes) (
          with-more-room a.code.now a.arrays.now c.args.arena.now.holes a.frame before after t inv.capacity (
          c.requires.ready (done + n) t (goes-on a.code.now a.arrays.now a.frame.first start here t done n goes more)));
    }

pub returns-then-made-eq0-clause-tallied : goal.returns-then-made-eq0-clause-tallied
returns-then-made-eq0-clause-tallied c =
    let w = c.args.walk.now in
    let a = w.fast.activation in
    let start = snapshot c.args.arena.now.contents c.args.operands.now.items c.args.index.now in
    let here = snapshot c.loop-done.arena.contents c.loop-done.operands.items c.loop-done.index in
    let next = snapshot c.step_once-made.new.arena.contents c.step_once-made.new.operands.items c.step_once-made.new.index in
    let moved = c.step_once-made.ensures.moved in
    record {
      tallied = still w.operations.now a.code.now a.arrays.now a.frame.first start c.args.counts.now.items c.loop-done.done here
          c.loop-done.counts.items c.loop-done.invariant.tallied c.step_once-made.result
          next moved.gone (omega (arith, c.if-made-eq0.true));
      few = c.loop-done.invariant.few;
      all = λ fewer. moved.all (omega (arith, c.if-made-eq0.true));
    }

pub loop-done-preserved : goal.loop-done-preserved
loop-done-preserved c =
    let w = c.args.walk.now in
    let a = w.fast.activation in
    let operations = w.operations.now in
    let start = snapshot c.args.arena.now.contents c.args.operands.now.items c.args.index.now in
    let here = snapshot c.loop-done.arena.contents c.loop-done.operands.items c.loop-done.index in
    let next = snapshot c.step_once-made.new.arena.contents c.step_once-made.new.operands.items c.step_once-made.new.index in
    let counts = c.loop-done.counts.items in
    let done = c.loop-done.done in
    let moved = c.step_once-made.ensures.moved in
    let inv = c.loop-done.invariant in
    let its : mark_at w.lines.now here.index ≡ mark operations (drop here.index a.code.now) =
    ap (λ ls. mark_at ls here.index) c.requires.marks ∙ mark-there operations a.code.now here.index in
    let now : c.count.new.counts.items ≡ counted (mark operations (drop here.index a.code.now)) counts =
    c.count.ensures ∙ ap (λ l. counted l counts) (c.mark_at.ensures ∙ its) in
    let more : suc done ≡ done + 1 = omega arith in
    let all : Tallies operations a.code.now a.arrays.now a.frame.first start c.args.counts.now.items (suc done) next (counted (mark operations (drop here.index a.code.now)) counts) =
    one-more operations a.code.now a.arrays.now a.frame.first start c.args.counts.now.items done here counts inv.tallied
    c.step_once-made.result next moved.gone (omega (arith, moved.few, c.if-made-eq0.false)) in
    record {
      tallied = subst (λ n. Tallies operations a.code.now a.arrays.now a.frame.first start c.args.counts.now.items n next c.count.new.counts.items) more (
          subst
          (λ x. Tallies operations a.code.now a.arrays.now a.frame.first start c.args.counts.now.items (suc done) next x) (sym now) all);
      few = omega (arith, c.loop-done-test.true);
      holes = c.step_once-made.ensures.holes ∙ inv.holes;
      capacity = omega (arith, inv.capacity, c.step_once-made.ensures.capacity);
    }

pub returns-clause-tallied : goal.returns-clause-tallied
returns-clause-tallied c =
    record { tallied = c.loop-done.invariant.tallied; few = c.loop-done.invariant.few; all = λ fewer. absurd (omega (arith, fewer, c.loop-done-test.false)) }
