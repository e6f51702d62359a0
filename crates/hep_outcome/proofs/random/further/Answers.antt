use Rattle.std.proofs.Common.{◌≡◌, ◌+◌, ◌-◌, ◌∙◌, suc, sym, arith}
use Rattle.hep_core.specs.CoreValues.{free_of}
use Rattle.hep_outcome.proofs.RunsByLots.{further-end, further-step, further-stop}
use Rattle.hep_outcome.proofs.random.further.Goals as goal

pub loop-preserved : goal.loop-preserved
loop-preserved c =
    let left : c.args.count - c.loop.counter ≡ suc (c.args.count - (c.loop.counter + 1)) = omega arith in
    c.loop.invariant ∙ further-step (c.args.count - c.loop.counter) (c.args.count - (c.loop.counter + 1)) c.loop.at c.in_ok-at.at (free_of c.args.core.now.core) left (sym c.in_ok-at.ensures)

pub returns-in_err-at : goal.returns-in_err-at
returns-in_err-at c =
    let left : c.args.count - c.loop.counter ≡ suc (c.args.count - (c.loop.counter + 1)) = omega arith in
    c.from_residual.ensures ∙ sym (c.loop.invariant ∙ further-stop (c.args.count - c.loop.counter) (c.args.count - (c.loop.counter + 1)) c.loop.at (free_of c.args.core.now.core) left (sym c.in_err-at.ensures))

pub returns : goal.returns
returns c =
    let left : c.args.count - c.loop.counter ≡ 0 = omega arith in
    sym (c.loop.invariant ∙ further-end (c.args.count - c.loop.counter) c.loop.at (free_of c.args.core.now.core) left)
