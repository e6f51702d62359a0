use Rattle.std.proofs.KnownBytes.{Appends-nil}
use Rattle.hep_run.proofs.Messages.{of_either}
use Rattle.hep_run.proofs.delivery.say_broken.Goals as goal

pub returns-then-is_closed_pipe : goal.returns-then-is_closed_pipe
returns-then-is_closed_pipe g c = (0, Appends-nil (g.E.Write.contents c.args.messages.now))

pub returns : goal.returns
returns g c = of_either c.put_write_fault.result _ _ _ c.put_write_fault.ensures.all c.put_write_fault.ensures.some
