use Rattle.std.proofs.Common.{◌≡◌, ◌+◌, suc, refl, sym, ◌∙◌, subst, arith}
use Rattle.hep_step.specs.PerformedSteps.{snapshot}
use Rattle.hep_step.specs.StepReady.{IsReady}
use Rattle.hep_step.specs.SilentSteps.{Goes, stays, settles, steps}
use Rattle.hep_step.proofs.PlainSteps.{rested, went}
use Rattle.hep_step.proofs.silent_steps.move_on.Goals as goal

pub loop-done-init : goal.loop-done-init
loop-done-init c =
    record { gone = stays (snapshot c.args.arena.now.contents c.args.standing.now.operands.items c.args.standing.now.index); holes = refl; capacity = omega arith }

pub step-requires-clause-ready : goal.step-requires-clause-ready
step-requires-clause-ready c t room settled le =
    let inv = c.loop-done.invariant in
    let a = c.args.activation.now in
    let start = snapshot c.args.arena.now.contents c.args.standing.now.operands.items c.args.standing.now.index in
    let here = snapshot c.loop-done.arena.contents c.loop-done.standing.operands.items c.loop-done.standing.index in
    let can = c.requires.ready c.loop-done.done t (settles start c.loop-done.done here t inv.gone settled) in
    subst (λ (ready : Type 0). ready) (λ i. IsReady a.code.now a.arrays.now (record { contents = settled.contents i; holes = sym inv.holes i }) a.frame t.operands room t.index) (can.ready room (omega (arith, le, inv.capacity)))

pub returns-then-not-step-clause-gone : goal.returns-then-not-step-clause-gone
returns-then-not-step-clause-gone c =
    let inv = c.loop-done.invariant in
    let a = c.args.activation.now in
    let start = snapshot c.args.arena.now.contents c.args.standing.now.operands.items c.args.standing.now.index in
    let here = snapshot c.loop-done.arena.contents c.loop-done.standing.operands.items c.loop-done.standing.index in
    let after = snapshot c.step.new.arena.contents c.step.new.standing.operands.items c.step.new.standing.index in
    settles start c.loop-done.done here after inv.gone (rested a.code.now a.arrays.now a.frame.first here after c.step.result c.if-not-step.true c.step.ensures.stepped).0

pub returns-then-not-step-clause-all : goal.returns-then-not-step-clause-all
returns-then-not-step-clause-all c fewer =
    let a = c.args.activation.now in
    let here = snapshot c.loop-done.arena.contents c.loop-done.standing.operands.items c.loop-done.standing.index in
    let after = snapshot c.step.new.arena.contents c.step.new.standing.operands.items c.step.new.standing.index in
    (rested a.code.now a.arrays.now a.frame.first here after c.step.result c.if-not-step.true c.step.ensures.stepped).1

pub loop-done-preserved : goal.loop-done-preserved
loop-done-preserved c =
    let inv = c.loop-done.invariant in
    let n = c.loop-done.done in
    let a = c.args.activation.now in
    let start = snapshot c.args.arena.now.contents c.args.standing.now.operands.items c.args.standing.now.index in
    let here = snapshot c.loop-done.arena.contents c.loop-done.standing.operands.items c.loop-done.standing.index in
    let after = snapshot c.step.new.arena.contents c.step.new.standing.operands.items c.step.new.standing.index in
    let w = went a.code.now a.arrays.now a.frame.first here after c.step.result c.if-not-step.false c.step.ensures.stepped in
    let more : suc n ≡ n + 1 = omega arith in
    record {
      gone = subst (λ k. Goes a.code.now a.arrays.now a.frame.first start k after) more (steps start n w.0 after (settles start n here w.0 inv.gone w.1) w.2);
      holes = c.step.ensures.arena.holes ∙ inv.holes;
      capacity = omega (arith, inv.capacity, c.step.ensures.capacity);
    }
