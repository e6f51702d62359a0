use Rattle.std.proofs.Common.{sym}
use Rattle.hep_diff.proofs.Sides.{waits-none, waits-some}
use Rattle.hep_diff.proofs.diff.waits.Goals as goal

pub returns-in-Some : goal.returns-in-Some
returns-in-Some c =
    sym (waits-some c.args.core.now.core c.image.result.now c.args.p c.machine.result.now c.in-Some.want c.listed.result c.image.ensures c.machine.ensures.after
    c.in-Some.ensures.want c.in-Some.ensures.listed c.listed.ensures)

pub returns-in-None : goal.returns-in-None
returns-in-None c = sym (waits-none c.args.core.now.core c.args.p c.in-None.ensures.listed)
