use Rattle.std.proofs.Common.{◌≡◌, suc, ◌+◌, inl, inr, refl, sym, ◌∙◌, subst, arith, vec_capacity}
use Rattle.hep_step.specs.PerformedSteps.{snapshot}
use Rattle.hep_step.specs.SilentSteps.{CanGoOn, Goes}
use Rattle.hep_fast.specs.Interpreter.{IsTabled}
use Rattle.hep_fast.proofs.StepRows.{as-many-cells, with-more-room}
use Rattle.hep_fast.proofs.Steps.{goes-on}
use Rattle.hep_advance.specs.RunsToBreakpoints.{Passes, passes, settled, starts}
use Rattle.hep_advance.proofs.RunsToBreakpoint.{gone-by}
use Rattle.hep_advance.proofs.bounded_run.walk_on.Goals as goal

pub loop-done-init : goal.loop-done-init
loop-done-init c = record { passed = starts (snapshot c.args.arena.now.contents c.args.operands.now.items c.args.index.now); few = omega arith; holes = refl; capacity = omega arith }

pub step_once-made-requires : goal.step_once-made-requires
step_once-made-requires c =
    let w = c.args.walk.now in
    let a = w.fast.activation in
    let start = snapshot c.args.arena.now.contents c.args.operands.now.items c.args.index.now in
    let here = snapshot c.loop-done.arena.contents c.loop-done.operands.items c.loop-done.index in
    let done = c.loop-done.done in
    let inv = c.loop-done.invariant in
    let goes : Goes a.code.now a.arrays.now a.frame.first start done here = gone-by w.watched.now a.code.now a.arrays.now a.frame.first start done here inv.passed in
    let before = vec_capacity c.args.operands.now in
    let after = vec_capacity c.loop-done.operands in
    record {
      tabled = subst (IsTabled w.fast) (sym (as-many-cells a.code.now a.arrays.now a.frame.first start here done goes)) c.requires.tabled;
      ready = λ n t more.
          subst (λ holes. CanGoOn a.code.now a.arrays.now holes a.frame after t) (sym inv.holes) (
          with-more-room a.code.now a.arrays.now c.args.arena.now.holes a.frame before after t inv.capacity (
          c.requires.ready (done + n) t (goes-on a.code.now a.arrays.now a.frame.first start here t done n goes more)));
    }

-- where it ends before an index that is watched
pub returns-then-watched_at-clause-passed : goal.returns-then-watched_at-clause-passed
returns-then-watched_at-clause-passed c =
    record {
      passed = c.loop-done.invariant.passed;
      few = c.loop-done.invariant.few;
      all = λ fewer. inl (sym c.watched_at.ensures ∙ c.if-watched_at.true);
    }

pub returns-then-made-eq0-clause-passed : goal.returns-then-made-eq0-clause-passed
returns-then-made-eq0-clause-passed c =
    let w = c.args.walk.now in
    let a = w.fast.activation in
    let start = snapshot c.args.arena.now.contents c.args.operands.now.items c.args.index.now in
    let here = snapshot c.loop-done.arena.contents c.loop-done.operands.items c.loop-done.index in
    let next = snapshot c.step_once-made.new.arena.contents c.step_once-made.new.operands.items c.step_once-made.new.index in
    let moved = c.step_once-made.ensures.moved in
    let none : c.step_once-made.result ≡ 0 = omega (arith, c.if-made-eq0.true) in
    record {
      passed = settled start c.loop-done.done here next c.loop-done.invariant.passed (subst (λ n. Goes a.code.now a.arrays.now a.frame.first here n next) none moved.gone);
      few = c.loop-done.invariant.few;
      all = λ fewer. inr (moved.all (omega (arith, c.if-made-eq0.true)));
    }

pub loop-done-preserved : goal.loop-done-preserved
loop-done-preserved c =
    let w = c.args.walk.now in
    let a = w.fast.activation in
    let start = snapshot c.args.arena.now.contents c.args.operands.now.items c.args.index.now in
    let here = snapshot c.loop-done.arena.contents c.loop-done.operands.items c.loop-done.index in
    let next = snapshot c.step_once-made.new.arena.contents c.step_once-made.new.operands.items c.step_once-made.new.index in
    let done = c.loop-done.done in
    let moved = c.step_once-made.ensures.moved in
    let inv = c.loop-done.invariant in
    let once : c.step_once-made.result ≡ 1 = omega (arith, moved.few, c.if-made-eq0.false) in
    let more : suc done ≡ done + 1 = omega arith in
    let all : Passes w.watched.now a.code.now a.arrays.now a.frame.first start (suc done) next =
    passes start done here next inv.passed (sym c.watched_at.ensures ∙ c.if-watched_at.false) (subst (λ n. Goes a.code.now a.arrays.now a.frame.first here n next) once moved.gone) in
    record {
      passed = subst (λ n. Passes w.watched.now a.code.now a.arrays.now a.frame.first start n next) more all;
      few = omega (arith, c.loop-done-test.true);
      holes = c.step_once-made.ensures.holes ∙ inv.holes;
      capacity = omega (arith, inv.capacity, c.step_once-made.ensures.capacity);
    }

pub returns-clause-passed : goal.returns-clause-passed
returns-clause-passed c =
    record { passed = c.loop-done.invariant.passed; few = c.loop-done.invariant.few; all = λ fewer. absurd (omega (arith, fewer, c.loop-done-test.false)) }
