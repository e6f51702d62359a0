use Rattle.std.proofs.Common.{arith}
use Rattle.hep_why.proofs.CycleWalks.{first-in, first-within}
use Rattle.hep_why.proofs.wait_cycles.firsts.Goals as goal

pub returns : goal.returns
returns c = λ first circle e.
    let here = first-in c.args.nexts.now first circle e in
    c.loop-first.invariant.begun first (omega (arith, c.loop-first-test.false, first-within c.args.nexts.now first first here)) first here
