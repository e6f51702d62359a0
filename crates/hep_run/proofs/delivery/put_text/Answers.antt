use Rattle.std.proofs.Common.{inr}
use Rattle.hep_run.proofs.delivery.put_text.Goals as goal

pub returns-in-Err : goal.returns-in-Err
returns-in-Err g c =
    inr (c.code.ensures, c.in-Err.fault.written, c.in-Err.ensures.fewer, c.in-Err.ensures.prefix, c.say_broken.ensures)
