use Rattle.std.proofs.Common.{◌≡◌, ◌+◌, ◌++◌, arith, if◌then◌else◌, replicate, subst, suc}
use Rattle.hep_explore.specs.Successors.{MakesPureSteps}
use Rattle.hep_explore.proofs.PureAhead.{more_pure_steps, no_pure_steps, then_no_more}
use Rattle.hep_explore.proofs.successor.Turns.make_pure_steps.Goals as goal

pub loop-made-init : goal.loop-made-init
loop-made-init c = no_pure_steps c.args.image.now c.args.p c.args.machine.now

pub try_pure_step-requires : goal.try_pure_step-requires
try_pure_step-requires c =
    let makes = c.loop-made.invariant in
    let reached = c.requires.reached in
    record {
      reached = (reached.0, reached.1 ++ replicate c.loop-made.made c.args.p, (makes.goes reached.0 reached.1 reached.2).after);
      countable = omega (arith, makes.activations, c.requires.countable);
      numerable = omega (arith, makes.made, c.requires.numerable);
    }

pub loop-made-preserved : goal.loop-made-preserved
loop-made-preserved c =
    let program = c.args.image.now in
    let new = c.try_pure_step.new.machine in
    let one = c.loop-made.made in
    let next : suc one ≡ one + 1 = omega arith in
    subst (λ n. MakesPureSteps program c.args.p c.args.machine.now n new) next (
    more_pure_steps program c.args.p c.args.machine.now c.loop-made.machine new one c.loop-made.invariant (
    subst (λ b. MakesPureSteps program c.args.p c.loop-made.machine (if b then 1 else 0) new) c.if-not-branch.false
    c.in_ok-try_pure_step.ensures))

pub returns-then-not-branch : goal.returns-then-not-branch
returns-then-not-branch c =
    let program = c.args.image.now in
    let new = c.try_pure_step.new.machine in
    then_no_more program c.args.p c.args.machine.now c.loop-made.machine new c.loop-made.made c.loop-made.invariant (
    subst (λ b. MakesPureSteps program c.args.p c.loop-made.machine (if b then 1 else 0) new) c.if-not-branch.true
    c.in_ok-try_pure_step.ensures)
