use Rattle.std.proofs.Common.{inr}
use Rattle.hep_run.proofs.Messages.{reported_after}
use Rattle.hep_run.proofs.delivery.say.Goals as goal

pub returns-in-Err : goal.returns-in-Err
returns-in-Err g c =
    let n = c.in-Err.fault.written in
    inr (c.code-in-Err.ensures, n, c.in-Err.ensures.fewer, reported_after _ _ _ _ _ c.in-Err.ensures.prefix c.say_broken.ensures)
